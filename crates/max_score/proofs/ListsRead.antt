-- Posting lists that are read one after the other.
use Rattle.shared_lemmas.proofs.Common.{◌≡◌, ℕ, ◌+◌, ◌*◌, ◌<◌, ◌≤◌, ◌^◌, List, [], ◌∷◌, ◌++◌, length, take, drop, map, get_or, set, refl, sym, ap, ap₂, subst, ◌∙◌, arith, inl, inr, ◌⊎◌, All, AllByRecursion, cases_lt, sum_by_push, length-append, All-from_recursion}
use Rattle.shared_lemmas.proofs.Common.{take_more_set, drop-set-lt, length-set, take-append-le, take_all, drop-cons, take_more, get_or_append_left, get_or-append_seam, map_push, drop-drop, sum_by-cons, mul-le-mul, mul-le-mul_right, get_or_past}
use Rattle.shared_lemmas.proofs.Lists.{all_append, all_weaker}
use Rattle.jass_base.specs.declared.query_term.QueryTerm.{QueryTerm}
use Rattle.index_model.specs.Index.{IndexData}
use Rattle.index_model.specs.Querying.{segments_at}
use Rattle.max_score.specs.Cursors.{CursorView, postings_in, read_over}
use Rattle.max_score.specs.Searches.{query_postings}
use Rattle.max_score.specs.declared.term_list.TermList.{TermList}
use Rattle.max_score.specs.Private.Unread.{IsRead, named_by}
use Rattle.max_score.specs.Private.Lists.{AreBounded, most_of, weight_in}

-- the bound of each list is the most that it and those before it add
abbrev pub HaveBounds : List TermList → Type 0
HaveBounds lists = (i : ℕ) (none : TermList) → i < length lists → (get_or lists i none).bound ≡ most_of (take (i + 1) lists)

-- the lists in front of a place have been read, and the others stand as at first
pub record AreReadTo (index : IndexData) (first now : List TermList) (i bound before steps : ℕ) : Type 0 where
  pub long : length now ≡ length first
  pub left : drop i now ≡ drop i first
  pub read : AllByRecursion (IsRead index) (take i now)
  pub bounds : HaveBounds (take i now)
  pub sum : bound ≡ most_of (take i now)
  pub small : bound ≤ i * 16711425
  pub named : map named_by (take i now) ≡ map named_by (take i first)
  pub counted : steps ≡ before + query_postings index (map named_by (take i first))

most_push : (xs : List TermList) (y : TermList) → most_of (xs ++ y ∷ []) ≡ most_of xs + y.greatest
most_push xs y = sum_by_push (λ (list : TermList). list.greatest) xs y

bounds_push : (xs : List TermList) (y : TermList) → HaveBounds xs → y.bound ≡ most_of xs + y.greatest → HaveBounds (xs ++ y ∷ [])
bounds_push xs y have is i none inside = by (cases_lt i (length xs)) where
  size : length (xs ++ y ∷ []) ≡ length xs + 1
  size = length-append xs (y ∷ [])

  by : (i < length xs) ⊎ (length xs ≤ i) → (get_or (xs ++ y ∷ []) i none).bound ≡ most_of (take (i + 1) (xs ++ y ∷ []))
  by (inl before) =
      ap (λ (l : TermList). l.bound) (get_or_append_left xs (y ∷ []) none i before) ∙ have i none before ∙ ap most_of (sym (take-append-le (i + 1) xs (y ∷ []) (omega arith)))
  by (inr from) =
      let e : i ≡ length xs = omega (arith, size) in
      let here : get_or (xs ++ y ∷ []) i none ≡ y = ap (λ n. get_or (xs ++ y ∷ []) n none) e ∙ get_or-append_seam xs y [] none in
      let all : take (i + 1) (xs ++ y ∷ []) ≡ xs ++ y ∷ [] = take_all (i + 1) (xs ++ y ∷ []) (omega (arith, size)) in
      ap (λ (l : TermList). l.bound) here ∙ is ∙ sym (most_push xs y) ∙ ap most_of (sym all)

postings_push : (index : IndexData) (xs : List QueryTerm) (y : QueryTerm) → query_postings index (xs ++ y ∷ []) ≡ query_postings index xs + postings_in (segments_at index.terms y.term)
postings_push index xs y = sum_by_push (λ (n : QueryTerm). postings_in (segments_at index.terms n.term)) xs y

same_list : (first now : List TermList) (i : ℕ) (none : TermList) → drop i now ≡ drop i first → i < length now → i < length first → get_or now i none ≡ get_or first i none
same_list first now i none left inside there =
    ap (λ (l : List TermList). get_or l 0 none) (sym (drop-cons now i none inside) ∙ left ∙ drop-cons first i none there)

pub next_list : (index : IndexData) (first now : List TermList) (i bound before steps : ℕ) (none list : TermList) (more later : ℕ) → AreReadTo index first now i bound before steps → i < length now
    → IsRead index list → named_by list ≡ named_by (get_or now i none) → more ≡ bound + list.greatest → list.bound ≡ more
    → later ≡ steps + postings_in (segments_at index.terms list.cursor.term) → AreReadTo index first (set now i list) (i + 1) more before later
next_list index first now i bound before steps none list more later was inside read same sums bounds counts = record {
  long = length-set now i list ∙ was.long;
  left = drop-set-lt (i + 1) now i list (omega arith) ∙ next_left;
  read = subst (AllByRecursion (IsRead index)) (sym front) (all_append (IsRead index) (take i now) (list ∷ []) was.read (read, tt));
  bounds = subst HaveBounds (sym front) (bounds_push (take i now) list was.bounds (bounds ∙ sums ∙ ap (λ n. n + list.greatest) was.sum));
  sum = sums ∙ ap (λ n. n + list.greatest) was.sum ∙ sym (most_push (take i now) list) ∙ ap most_of (sym front);
  small = let s = was.small in let g = read.small in omega arith;
  named = names;
  counted = counts ∙ ap (λ n. n + postings_in (segments_at index.terms list.cursor.term)) was.counted ∙ (let split = postings_split in omega arith);
}
  where
    there : i < length first
    there = let n = was.long in omega arith

    front : take (i + 1) (set now i list) ≡ take i now ++ list ∷ []
    front = take_more_set now i list inside

    next_left : drop (i + 1) now ≡ drop (i + 1) first
    next_left = ap (λ n. drop n now) (add-one-comm i) ∙ sym (drop-drop 1 i now) ∙ ap (drop 1) was.left ∙ drop-drop 1 i first ∙ ap (λ n. drop n first) (sym (add-one-comm i)) where
      add-one-comm : (i : ℕ) → i + 1 ≡ i + 1
      add-one-comm i = refl

    term_there : named_by list ≡ named_by (get_or first i none)
    term_there = same ∙ ap named_by (same_list first now i none was.left inside there)

    first_front : map named_by (take (i + 1) first) ≡ map named_by (take i first) ++ named_by (get_or first i none) ∷ []
    first_front = ap (map named_by) (take_more first i none there) ∙ map_push named_by (take i first) (get_or first i none)

    names : map named_by (take (i + 1) (set now i list)) ≡ map named_by (take (i + 1) first)
    names = ap (map named_by) front ∙ map_push named_by (take i now) list ∙ ap₂ (λ (l : List QueryTerm) (n : QueryTerm). l ++ n ∷ []) was.named term_there ∙ sym first_front

    postings_split : query_postings index (map named_by (take (i + 1) first)) ≡ query_postings index (map named_by (take i first)) + postings_in (segments_at index.terms list.cursor.term)
    postings_split = ap (query_postings index) first_front ∙ postings_push index (map named_by (take i first)) (named_by (get_or first i none))
        ∙ ap (λ (n : QueryTerm). query_postings index (map named_by (take i first)) + postings_in (segments_at index.terms n.term)) (sym term_there)

pub no_list : (index : IndexData) (first : List TermList) (steps : ℕ) → AreReadTo index first first 0 0 steps steps
no_list index first steps = record { long = refl; left = refl; read = tt; bounds = λ i none inside. absurd (omega arith); sum = refl; small = omega arith; named = refl; counted = omega arith }

pub all_lists : (index : IndexData) (first now : List TermList) (i bound before steps : ℕ) → AreReadTo index first now i bound before steps → length now ≤ i → length now ≤ 256
    → AllByRecursion (IsRead index) now × AreBounded now × (map named_by now ≡ map named_by first) × (steps ≡ before + query_postings index (map named_by first))
all_lists index first now i bound before steps was past few =
    let whole : take i now ≡ now = take_all i now past in
    let also : take i first ≡ first = take_all i first (let n = was.long in omega arith) in
    let read = subst (AllByRecursion (IsRead index)) whole was.read in (
      read,
      record {
        greatest = All-from_recursion (λ (list : TermList). (doc : ℕ) → weight_in doc list ≤ list.greatest) now
            (all_weaker (IsRead index) (λ (list : TermList). (doc : ℕ) → weight_in doc list ≤ list.greatest) (λ list k. k.greatest) now read);
        bounds = subst HaveBounds whole was.bounds;
        fits = fits now (all_weaker (IsRead index) (λ (list : TermList). list.greatest ≤ 16711425) (λ list k. k.small) now read) few;
      },
      ap (map named_by) (sym whole) ∙ was.named ∙ ap (map named_by) also,
      was.counted ∙ ap (λ l. before + query_postings index (map named_by l)) also,
    )
  where
    most : (lists : List TermList) → AllByRecursion (λ (list : TermList). list.greatest ≤ 16711425) lists → most_of lists ≤ length lists * 16711425
    most [] all = omega arith
    most (x ∷ xs) all = let s = sum_by-cons (λ (list : TermList). list.greatest) x xs in let here = all.0 in let rest = most xs all.1 in omega arith

    fits : (lists : List TermList) → AllByRecursion (λ (list : TermList). list.greatest ≤ 16711425) lists → length lists ≤ 256 → most_of lists < 2 ^ 32
    fits lists all few = let m = most lists all in omega arith

pub has_read : (index : IndexData) (t most : ℕ) (list : TermList) → list.cursor ≡ read_over index t → All (λ i. i ≤ most) list.cursor.impacts → list.greatest ≡ most * list.times → most ≤ 65535 → list.times ≤ 255 → IsRead index list
has_read index t most list is below told small few = record {
  cursor = is ∙ ap (read_over index) (sym (ap (λ (v : CursorView). v.term) is));
  greatest = λ doc. by doc (cases_lt doc (length list.cursor.impacts));
  small = (let product = mul-le-mul small few in omega (arith, told, product));
}
  where
    by : (doc : ℕ) → (doc < length list.cursor.impacts) ⊎ (length list.cursor.impacts ≤ doc) → weight_in doc list ≤ list.greatest
    by doc (inl inside) = let less = mul-le-mul_right list.times (below doc 0 inside) in omega (arith, told, less)
    by doc (inr past) = let none : weight_in doc list ≡ 0 = ap (λ n. n * list.times) (get_or_past list.cursor.impacts doc 0 past) ∙ nothing list.times in omega (arith, none)
      where
        nothing : (n : ℕ) → 0 * n ≡ 0
        nothing n = omega arith
