use Rattle.shared_lemmas.proofs.Common.{◌≡◌, ◌≢◌, ◌<◌, ◌&&◌, ◌==◌, ℕ, zero, suc, Bool, true, false, not, nat_lt, List, [], ◌∷◌, length, get_or, take, drop, refl, sym, ap, ◌∙◌, arith, nat_tests}
use Rattle.std.specs.List.{list_all}
use Rattle.std.proofs.lemmas.List.{take-append-drop}
use Rattle.std.proofs.lemmas.List.Folds.{list_all-append}
use Rattle.ciff_read.proofs.Below.{to_end}
use Rattle.ciff_read.proofs.walked_doc.is_visible.Goals as goal

abbrev shown : ℕ → Bool
shown b = nat_lt 32 b && not (b == 127)

left : (a b : Bool) → (a && b) ≡ true → a ≡ true
left true b is = refl
left false b is = is

right : (a b : Bool) → (a && b) ≡ true → b ≡ true
right true b is = is
right false b is = absurd cc

joined : (a b : Bool) → a ≡ true → b ≡ true → (a && b) ≡ true
joined a b first second = rw (first, second) refl

-- both tests of all are one test of all
both : (xs : List ℕ) → list_all (λ b. nat_lt 32 b) xs ≡ true → list_all (λ b. not (b == 127)) xs ≡ true → list_all shown xs ≡ true
both [] above other = refl
both (x ∷ xs) above other =
    joined (shown x) (list_all shown xs) (joined (nat_lt 32 x) (not (x == 127)) (left _ _ above) (left _ _ other)) (both xs (right _ _ above) (right _ _ other))

each : (xs : List ℕ) → list_all shown xs ≡ true → (k d : ℕ) → k < length xs → (32 < get_or xs k d) × (get_or xs k d ≢ 127)
each [] all k d inside = absurd (omega (arith, inside))
each (x ∷ xs) all zero d inside =
    let above : nat_lt 32 x ≡ true = left (nat_lt 32 x) _ (left (shown x) _ all) in
    let other : not (x == 127) ≡ true = right (nat_lt 32 x) _ (left (shown x) _ all) in
    (grind (arith, nat_tests), λ is. grind (arith, nat_tests))
each (x ∷ xs) all (suc k) d inside = each xs (right (shown x) _ all) k d (omega (arith, inside))

parted : (xs : List ℕ) → list_all shown (take 16 xs) ≡ true → list_all shown xs ≡ list_all shown (drop 16 xs)
parted xs front = ap (list_all shown) (sym (take-append-drop 16 xs)) ∙ list_all-append shown (take 16 xs) (drop 16 xs) ∙ ap (λ b. b && list_all shown (drop 16 xs)) front

test : (c : goal.After-are_visible-then-is_front_visible) → c.are_visible-then-is_front_visible.result ≡ list_all shown c.args.bytes.now
test c =
    let bytes = c.args.bytes.now in
    let front = sym c.is_front_visible.ensures ∙ c.if-is_front_visible.true in
    c.are_visible-then-is_front_visible.ensures.test ∙ ap (list_all shown) (to_end bytes 16) ∙ sym (parted bytes (both (take 16 bytes) (left _ _ front) (right _ _ front)))

pub returns-then-is_front_visible-clause-test : goal.returns-then-is_front_visible-clause-test
returns-then-is_front_visible-clause-test c = test c

pub returns-then-is_front_visible-clause-visible : goal.returns-then-is_front_visible-clause-visible
returns-then-is_front_visible-clause-visible c = λ is. each c.args.bytes.now (sym (test c) ∙ is)
