-- What holds of all that a loop has come by.
use Rattle.shared_lemmas.proofs.Common.{◌≡◌, ◌≢◌, ℕ, zero, suc, ◌+◌, ◌<◌, List, [], ◌∷◌, length, take, get_or, subst, arith, AllByRecursion, map}

pub all_taken : {T : Type 0} (P : T → Type 0) (xs : List T) (i : ℕ) (d : T) → i < length xs → AllByRecursion P (take i xs) → P (get_or xs i d) → AllByRecursion P (take (i + 1) xs)
all_taken {T} P xs i d within all here = (let after : suc i ≡ i + 1 = omega arith in subst (λ (n : ℕ). AllByRecursion P (take n xs)) after (longer xs i within all here))
  where
    longer : (ys : List T) (k : ℕ) → k < length ys → AllByRecursion P (take k ys) → P (get_or ys k d) → AllByRecursion P (take (suc k) ys)
    longer [] k within all here = absurd (omega (arith, within))
    longer (y ∷ ys) zero within all here = (here, tt)
    longer (y ∷ ys) (suc k) within all here = (all.0, longer ys k (omega (arith, within)) all.1 here)

-- the first ones of these words, where all are none of them
pub all_apart : {T : Type 0} (text : T → List ℕ) (words : List T) (i : ℕ) (d : T) (word : List ℕ) → i < length words → AllByRecursion (λ other. other ≢ word) (map text (take i words)) → text (get_or words i d) ≢ word → AllByRecursion (λ other. other ≢ word) (map text (take (i + 1) words))
all_apart {T} text words i d word within all here = (let after : suc i ≡ i + 1 = omega arith in subst (λ (n : ℕ). AllByRecursion (λ other. other ≢ word) (map text (take n words))) after (longer words i within all here))
  where
    longer : (ws : List T) (k : ℕ) → k < length ws → AllByRecursion (λ other. other ≢ word) (map text (take k ws)) → text (get_or ws k d) ≢ word → AllByRecursion (λ other. other ≢ word) (map text (take (suc k) ws))
    longer [] k within all here = absurd (omega (arith, within))
    longer (w ∷ ws) zero within all here = (here, tt)
    longer (w ∷ ws) (suc k) within all here = (all.0, longer ws k (omega (arith, within)) all.1 here)

-- one of them that is the word
pub none_apart : {T : Type 0} (text : T → List ℕ) (words : List T) (i : ℕ) (d : T) (word : List ℕ) → i < length words → text (get_or words i d) ≡ word → ¬ AllByRecursion (λ other. other ≢ word) (map text words)
none_apart text [] i d word within is all = omega (arith, within)
none_apart text (w ∷ words) zero d word within is all = all.0 is
none_apart text (w ∷ words) (suc i) d word within is all = none_apart text words i d word (omega (arith, within)) is all.1
