-- Gaps that are made into documents in place.
use Rattle.shared_lemmas.proofs.Common.{◌≡◌, ℕ, ◌+◌, ◌^◌, ◌<◌, ◌≤◌, List, [], ◌∷◌, ◌++◌, length, get_or, take, drop, set, sum, All, sym, ap, ◌∙◌, arith, take_more, take_more_set, drop-set-lt, get_or-drop, length-take-le, get_or-take, take-take, drop-drop, take-append-drop, take-append_seam}
use Rattle.shared_lemmas.proofs.Common.{drop-append_seam, sum_by_more, sum_by_more_le, sum_by-take-drop}
use Rattle.std.proofs.lemmas.List.{length-set}
use Rattle.jass_base.specs.Gaps.{docs_from}

-- the places before one have documents, those from it on still gaps
pub record MadeSoFar (least place next : ℕ) (old out : List ℕ) : Type 0 where
  pub long : length out ≡ length old
  pub next_is : next ≡ least + sum (take place old) + place
  pub done : take place out ≡ docs_from least (take place old)
  pub rest : drop place out ≡ drop place old

abbrev pub Parts : Type 0
Parts = (least : ℕ) (front back : List ℕ) → docs_from least (front ++ back) ≡ docs_from least front ++ docs_from (least + sum front + length front) back

pub next_gap : (place : ℕ) (old out : List ℕ) → drop place out ≡ drop place old → get_or out place 0 ≡ get_or old place 0
next_gap place old out same =
    let here : place + 0 ≡ place = omega arith in
    ap (λ n. get_or out n 0) (sym here) ∙ sym (get_or-drop place out 0 0) ∙ ap (λ (xs : List ℕ). get_or xs 0 0) same ∙ get_or-drop place old 0 0 ∙ ap (λ n. get_or old n 0) here

-- the gaps up to a place are not more than those up to a later one
pub room_for : (count place : ℕ) (old : List ℕ) → place < count → count ≤ length old → sum (take place old) + get_or old place 0 ≤ sum (take count old)
room_for count place old before long =
    let few : take place (take count old) ≡ take place old = take-take place count old (omega arith) in
    let same : get_or (take count old) place 0 ≡ get_or old place 0 = get_or-take count old place 0 before in
    omega (arith, ap sum few, same, sum_by_more_le (λ y. y) (take count old) place 0 (omega (arith, length-take-le count old long)))

pub more_made : Parts → (least place next : ℕ) (old out : List ℕ) → MadeSoFar least place next old out → place < length old
    → MadeSoFar least (place + 1) (next + get_or out place 0 + 1) old (set out place (next + get_or out place 0))
more_made parts least place next old out far within =
    let same = next_gap place old out far.rest in
    let inside : place < length out = omega (arith, far.long) in
    let doc : ℕ = next + get_or out place 0 in
    let front : length (take place old) ≡ place = length-take-le place old (omega arith) in
    let is : doc ≡ least + sum (take place old) + length (take place old) + get_or old place 0 = omega (arith, same, front, far.next_is) in
    record {
      long = length-set out place doc ∙ far.long;
      next_is = omega (arith, same, far.next_is, sum_by_more (λ y. y) old place 0 within);
      done = take_more_set out place doc inside
          ∙ ap (λ (xs : List ℕ). xs ++ doc ∷ []) far.done
          ∙ ap (λ n. docs_from least (take place old) ++ n ∷ []) is
          ∙ sym (parts least (take place old) (get_or old place 0 ∷ []))
          ∙ ap (docs_from least) (sym (take_more old place 0 within));
      rest = drop-set-lt (place + 1) out place doc (omega arith) ∙ sym (drop-drop 1 place out) ∙ ap (drop 1) far.rest ∙ drop-drop 1 place old;
    }

-- the first documents, and those behind them
pub record Split (least count : ℕ) (gaps : List ℕ) : Type 0 where
  pub front : take count (docs_from least gaps) ≡ docs_from least (take count gaps)
  pub back : drop count (docs_from least gaps) ≡ docs_from (least + sum (take count gaps) + count) (drop count gaps)

pub split : Parts → ((least : ℕ) (gaps : List ℕ) → length (docs_from least gaps) ≡ length gaps) → (least count : ℕ) (gaps : List ℕ) → count ≤ length gaps → Split least count gaps
split parts counts least count gaps few =
    let front : List ℕ = docs_from least (take count gaps) in
    let size : length (take count gaps) ≡ count = length-take-le count gaps few in
    let long : length front ≡ count = counts least (take count gaps) ∙ size in
    let all : docs_from least gaps ≡ front ++ docs_from (least + sum (take count gaps) + count) (drop count gaps) =
    ap (docs_from least) (sym (take-append-drop count gaps)) ∙ parts least (take count gaps) (drop count gaps) ∙ ap (λ n. front ++ docs_from (least + sum (take count gaps) + n) (drop count gaps)) size in
    let back : List ℕ = docs_from (least + sum (take count gaps) + count) (drop count gaps) in
    record {
      front = ap (take count) all ∙ ap (λ n. take n (front ++ back)) (sym long) ∙ take-append_seam front back;
      back = ap (drop count) all ∙ ap (λ n. drop n (front ++ back)) (sym long) ∙ drop-append_seam front back;
    }

-- gaps of a small sum are small
pub small_gaps : (gaps : List ℕ) → sum gaps ≤ 2 ^ 26 → All (λ gap. gap < 2 ^ 28) gaps
small_gaps gaps few k d h = omega (arith, sum_by_more_le (λ y. y) gaps k d h)

pub sum_parts : (count : ℕ) (gaps : List ℕ) → sum (take count gaps) + sum (drop count gaps) ≡ sum gaps
sum_parts count gaps = sum_by-take-drop (λ y. y) gaps count
