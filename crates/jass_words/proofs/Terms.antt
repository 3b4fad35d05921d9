-- The terms of a query, and the first word that is none.
use Rattle.shared_lemmas.proofs.Common.{◌≡◌, ◌≢◌, ℕ, zero, suc, ◌+◌, ◌<◌, ◌≤◌, min, List, [], ◌∷◌, ◌++◌, length, take, drop, Some, String, refl, sym, ap, subst, ◌∙◌, arith, ◌-◌, ◌⊎◌, inl, inr, slice_get, length-map, AllByRecursion, string_bytes, append-nil, get_or}
use Rattle.shared_lemmas.proofs.Common.{All-from_recursion, recursion_from_All}
use Rattle.std.proofs.Common.{Global, length-append, length-take, length-drop, take_all}
use Rattle.std.specs.List.{slice_index_or}
use Rattle.jass_words.specs.Slots.{Terms, IsTerm, AreTermWords}
use Rattle.jass_words.specs.Words.{texts}
use Rattle.jass_words.specs.Private.Faults.{Begins, IsBad, IsSomeTail}
use Rattle.jass_words.proofs.Bad.{bad_at, bad_end}

-- ---- the words as texts

pub size_of_texts : (words : List (String Global)) → length (texts words) ≡ length words
size_of_texts words = length-map words string_bytes

pub texts_behind : (words : List (String Global)) (n : ℕ) → texts (drop n words) ≡ drop n (texts words)
texts_behind [] zero = refl
texts_behind [] (suc n) = refl
texts_behind (w ∷ words) zero = refl
texts_behind (w ∷ words) (suc n) = texts_behind words n

-- the words from a place on, as a slice is taken
pub behind : (words : List (String Global)) (n : ℕ) → texts (take (length words - n) (drop n words)) ≡ drop n (texts words)
behind words n =
    let whole : take (length words - n) (drop n words) ≡ drop n words = take_all (length words - n) (drop n words) (omega (arith, length-drop n words)) in
    ap texts whole ∙ texts_behind words n

-- the words up to one
pub taken : (words : List (String Global)) (n : ℕ) (word : String Global) → n < length words → word ≡ get_or words n word → take (n + 1) (texts words) ≡ take n (texts words) ++ string_bytes word ∷ []
taken words n word within is = ap (λ (k : ℕ). take k (texts words)) after ∙ longer words n within is
  where
    after : n + 1 ≡ suc n
    after = omega arith

    longer : (ws : List (String Global)) (i : ℕ) → i < length ws → word ≡ get_or ws i word → take (suc i) (texts ws) ≡ take i (texts ws) ++ string_bytes word ∷ []
    longer [] i within is = absurd (omega (arith, within))
    longer (w ∷ ws) zero within is = ap (λ (x : String Global). string_bytes x ∷ []) (sym is)
    longer (w ∷ ws) (suc i) within is = ap (λ (xs : List (List ℕ)). string_bytes w ∷ xs) (longer ws i (omega (arith, within)) is)

-- the same of the words from a place on
pub next_word : (words : List (String Global)) (place n : ℕ) (word : String Global) → n < length (take (length words - place) (drop place words)) → word ≡ get_or (take (length words - place) (drop place words)) n word
    → take (n + 1) (drop place (texts words)) ≡ take n (drop place (texts words)) ++ string_bytes word ∷ []
next_word words place n word within is =
    subst (λ (ws : List (List ℕ)). take (n + 1) ws ≡ take n ws ++ string_bytes word ∷ []) (behind words place) (taken (take (length words - place) (drop place words)) n word within is)

-- ---- terms

fewer : (terms : List (List ℕ)) (m j : ℕ) → j ≤ m → AllByRecursion IsTerm (take m terms) → AllByRecursion IsTerm (take j terms)
fewer terms m zero within all = tt
fewer terms zero (suc j) within all = absurd (omega (arith, within))
fewer [] (suc m) (suc j) within all = tt
fewer (t ∷ ts) (suc m) (suc j) within all = (all.0, fewer ts m j (omega (arith, within)) all.1)

item_short : (terms more : List (List ℕ)) (m : ℕ) (word : List ℕ) → slice_get terms m ≡ Some word → AllByRecursion IsTerm (take (suc m) terms ++ more) → IsTerm word
item_short [] more m word is all = cc
item_short (t ∷ ts) more zero word is all = let same : t ≡ word = cc in subst IsTerm same all.0
item_short (t ∷ ts) more (suc m) word is all = item_short ts more m word is all.1

there : (terms : List (List ℕ)) (m : ℕ) → m < length terms → (word : List ℕ) × (slice_get terms m ≡ Some word)
there [] m within = absurd (omega (arith, within))
there (t ∷ ts) zero within = (t, refl)
there (t ∷ ts) (suc m) within = there ts m (omega (arith, within))

-- too many terms, or one that is too long
no_terms : (terms : List (List ℕ)) (m good : ℕ) → good ≡ min m 255 → good < length terms → ((word : List ℕ) → slice_get terms m ≡ Some word → ¬ IsTerm word) → ¬ Begins (IsSomeTail Terms) (take (suc good) terms)
no_terms terms m good is within next (more, (words, (same, are))) =
    let named : AreTermWords (take (suc good) terms ++ more) = subst AreTermWords (sym same) are in
    let size : length (take (suc good) terms ++ more) ≡ length (take (suc good) terms) + length more = length-append (take (suc good) terms) more in
    let front : length (take (suc good) terms) ≡ min (suc good) (length terms) = length-take (suc good) terms in
    let below : good < 255 = omega (arith, named.few, size, front, within) in
    let first : good ≡ m = omega (arith, is, below) in
    let (word, at) = there terms m (omega (arith, first, within)) in
    let each : AllByRecursion IsTerm (take (suc m) terms ++ more) = subst (λ (n : ℕ). AllByRecursion IsTerm (take (suc n) terms ++ more)) first (recursion_from_All IsTerm (take (suc good) terms ++ more) named.each) in
    next word at (item_short terms more m word at each)

begins_terms : (terms : List (List ℕ)) → length terms ≤ 255 → AllByRecursion IsTerm terms → Begins (IsSomeTail Terms) terms
begins_terms [] few all = ([] ∷ [], ([] ∷ [], (refl, record { some = omega arith; few = omega arith; each = All-from_recursion IsTerm ([] ∷ []) (omega arith, tt) })))
begins_terms (t ∷ ts) few all = ([], (t ∷ ts, (append-nil (t ∷ ts), record { some = omega arith; few = few; each = All-from_recursion IsTerm (t ∷ ts) all })))

pub bad_terms : (terms : List (List ℕ)) (m good : ℕ) → good ≡ min m 255 → m ≤ length terms → AllByRecursion IsTerm (take m terms) → ((word : List ℕ) → slice_get terms m ≡ Some word → ¬ IsTerm word) → (good ≡ 0) ⊎ ((good ≡ 0 → ⊥) × (good < length terms))
    → IsBad (IsSomeTail Terms) terms (suc good)
bad_terms terms m good is within all next fault = at terms refl fault
  where
    inside : good < length terms → IsBad (IsSomeTail Terms) terms (suc good)
    inside less = bad_at (IsSomeTail Terms) terms good less (begins_terms (take good terms) (omega (arith, length-take good terms, is)) (fewer terms m good (omega (arith, is)) all)) (no_terms terms m good is less next)

    none_at_all : (ws : List (List ℕ)) → ws ≡ [] → IsBad (IsSomeTail Terms) ws 1
    none_at_all ws same = subst (λ (w : List (List ℕ)). IsBad (IsSomeTail Terms) w 1) (sym same)
        (bad_end (IsSomeTail Terms) [] (begins_terms [] (omega arith) tt) (λ (words, (same, are)). (let size : 0 ≡ length words = ap length same in let some = are.some in omega (arith, size, some))))

    at : (ws : List (List ℕ)) → terms ≡ ws → (good ≡ 0) ⊎ ((good ≡ 0 → ⊥) × (good < length terms)) → IsBad (IsSomeTail Terms) terms (suc good)
    at ws same (inr both) = inside both.1
    at [] same (inl none) = subst (λ (n : ℕ). IsBad (IsSomeTail Terms) terms (suc n)) (sym none) (none_at_all terms same)
    at (w ∷ ws) same (inl none) = (let size : length terms ≡ suc (length ws) = ap length same in inside (omega (arith, none, size)))

-- all words are terms
pub all_terms : (terms : List (List ℕ)) (m good : ℕ) → good ≡ min m 255 → m ≤ length terms → length terms ≤ good → good ≢ 0 → AllByRecursion IsTerm (take m terms) → AreTermWords terms
all_terms terms m good is within enough some all =
    let whole : take m terms ≡ terms = take_all m terms (omega (arith, is, within, enough)) in
    record {
      some = omega (arith, some, is, within);
      few = omega (arith, is, enough);
      each = All-from_recursion IsTerm terms (subst (AllByRecursion IsTerm) whole all);
    }

-- one word more
pub one_more : (words : List (String Global)) (n : ℕ) (word : String Global) → n < length words → word ≡ slice_index_or words n word → length (string_bytes word) ≤ 65535
    → AllByRecursion IsTerm (take n (texts words)) → AllByRecursion IsTerm (take (n + 1) (texts words))
one_more words n word within is short all = subst (λ (k : ℕ). AllByRecursion IsTerm (take k (texts words))) after (longer words n within is all)
  where
    after : suc n ≡ n + 1
    after = omega arith

    longer : (ws : List (String Global)) (i : ℕ) → i < length ws → word ≡ slice_index_or ws i word → AllByRecursion IsTerm (take i (texts ws)) → AllByRecursion IsTerm (take (suc i) (texts ws))
    longer [] i within is all = absurd (omega (arith, within))
    longer (w ∷ ws) zero within is all = (subst (λ (x : String Global). IsTerm (string_bytes x)) is short, tt)
    longer (w ∷ ws) (suc i) within is all = (all.0, longer ws i (omega (arith, within)) is all.1)
