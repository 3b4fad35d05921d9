-- Touched documents and pages, counted.
use Rattle.shared_lemmas.proofs.Common.{◌≡◌, ℕ, suc, zero, Bool, true, false, not, cond, ◌+◌, ◌*◌, ◌/◌, ◌%◌, ◌<◌, List, [], ◌∷◌, length, get_or, drop, take, count_by, refl, ap, ◌∙◌, arith, range_with_len, get_or_default_zero, lt-ltb, le-ltb, get_or-take}
use Rattle.shared_lemmas.proofs.Common.{get_or-drop, length-take, length-drop, list_any-from_Any, list_any_none, sum_by-cons}
use Rattle.shared_lemmas.proofs.Places.{in_range}
use mir.Val.{bool_byte}
use Rattle.accumulator_pages.specs.Adding.{is_touched, page_is_touched}
use Rattle.accumulator_pages.specs.Pages.{HasTouched}

abbrev pub worth : Bool → ℕ
worth b = cond b 1 0

pub byte_worth : (b : Bool) → bool_byte b ≡ worth b
byte_worth true = refl
byte_worth false = refl

pub some_counted : (p : ℕ → Bool) (xs : List ℕ) (i : ℕ) → i < length xs → p (get_or xs i 0) ≡ true → 0 < count_by p xs
some_counted p [] i inside is = absurd (omega arith)
some_counted p (x ∷ xs) zero inside is = omega (arith, sum_by-cons (λ y. worth (p y)) x xs, ap worth is)
some_counted p (x ∷ xs) (suc i) inside is = omega (arith, sum_by-cons (λ y. worth (p y)) x xs, some_counted p xs i (omega arith) is)

-- ---- pages

pub touched_there : (scores : List ℕ) (page : ℕ) → HasTouched scores page → page_is_touched scores page ≡ true
touched_there scores page has =
    let d : ℕ = has.0 in
    let slot : ℕ = d % 256 in
    let here : get_or (take 256 (drop (256 * page) scores)) slot 0 ≡ get_or scores d 0 =
    get_or-take 256 (drop (256 * page) scores) slot 0 (omega arith) ∙ get_or-drop (256 * page) scores slot 0 ∙ ap (λ j. get_or scores j 0) (omega (arith, has.1)) in
    let inside : slot < length (take 256 (drop (256 * page) scores)) =
    omega (arith, in_range scores d has.2, has.1, length-take 256 (drop (256 * page) scores), length-drop (256 * page) scores) in
    list_any-from_Any is_touched (take 256 (drop (256 * page) scores)) (
      slot,
      get_or scores d 0,
      inside,
      get_or_default_zero (take 256 (drop (256 * page) scores)) slot (get_or scores d 0) inside ∙ here,
      lt-ltb 0 (get_or scores d 0) has.2,
    )

pub untouched_there : (scores : List ℕ) (page : ℕ) → ((d : ℕ) → d / 256 ≡ page → get_or scores d 0 ≡ 0) → page_is_touched scores page ≡ false
untouched_there scores page none = list_any_none is_touched (take 256 (drop (256 * page) scores)) (λ k d inside.
    le-ltb 0 (get_or (take 256 (drop (256 * page) scores)) k d) (omega (
      arith,
      get_or_default_zero (take 256 (drop (256 * page) scores)) k d inside,
      get_or-take 256 (drop (256 * page) scores) k 0 (omega (arith, inside, length-take 256 (drop (256 * page) scores))),
      get_or-drop (256 * page) scores k 0,
      none (256 * page + k) (omega (arith, inside, length-take 256 (drop (256 * page) scores))),
    )))

-- the pages with a touched document are those whose entry isn't vacant
pub pages_counted : (p q : ℕ → Bool) (table : List ℕ) (a : ℕ) → ((i j : ℕ) → i < length table → a + i ≡ j → p j ≡ not (q (get_or table i 0)))
    → count_by p (range_with_len a (length table)) + count_by q table ≡ length table
pages_counted p q [] a same = refl
pages_counted p q (e ∷ table) a same =
    let rest = pages_counted p q table (a + 1) (λ i j inside is. same (suc i) j (omega arith) (omega arith)) in
    let here : p a ≡ not (q e) = same 0 a (omega arith) (omega arith) in
    omega (arith, sum_by-cons (λ x. worth (p x)) a (range_with_len (a + 1) (length table)), sum_by-cons (λ x. worth (q x)) e table, either_one (p a) (q e) here, rest)
  where
    either_one : (b c : Bool) → b ≡ not c → worth b + worth c ≡ 1
    either_one true true h = cc
    either_one true false h = refl
    either_one false true h = refl
    either_one false false h = cc
