-- Lists of scores between two others: what is settled within limits is so for every list between the scores and what the limits reach.
use Rattle.shared_lemmas.proofs.Common.{◌≡◌, ℕ, ◌+◌, ◌-◌, ◌≤◌, List, [], ◌∷◌, length, map, refl, sym, ap, ◌∙◌, arith, AllZip}
use Rattle.ranking_model.specs.Finality.{AreGainsWithin, GainsBy, raised, first_documents, IsSettledWithin}

abbrev pub UpTo : List ℕ → List ℕ → Type 0
UpTo low high = AllZip (λ x y. x ≤ y) low high

pub up_trans : (xs ys zs : List ℕ) → UpTo xs ys → UpTo ys zs → UpTo xs zs
up_trans [] [] zs a b = b
up_trans [] (y ∷ ys) zs a b = absurd a
up_trans (x ∷ xs) [] zs a b = absurd a
up_trans (x ∷ xs) (y ∷ ys) [] a b = absurd b
up_trans (x ∷ xs) (y ∷ ys) (z ∷ zs) a b = ((let h = a.0 in let k = b.0 in omega arith), up_trans xs ys zs a.1 b.1)

pub up_raised : (xs gains : List ℕ) → UpTo xs (raised xs gains)
up_raised [] gains = tt
up_raised (x ∷ xs) [] = (omega arith, up_same xs) where
  up_same : (xs : List ℕ) → UpTo xs xs
  up_same [] = tt
  up_same (x ∷ xs) = (omega arith, up_same xs)
up_raised (x ∷ xs) (g ∷ gains) = (omega arith, up_raised xs gains)

raised_up : (xs gains limits : List ℕ) → UpTo gains limits → length gains ≡ length xs → UpTo (raised xs gains) (raised xs limits)
raised_up [] gains limits a same = tt
raised_up (x ∷ xs) [] limits a same = absurd (omega arith)
raised_up (x ∷ xs) (g ∷ gains) [] a same = absurd a
raised_up (x ∷ xs) (g ∷ gains) (l ∷ limits) a same = ((let h = a.0 in omega arith), raised_up xs gains limits a.1 (omega arith))

-- what is missing to some higher scores
abbrev minus : List ℕ → List ℕ → List ℕ
minus [] scores = []
minus (h ∷ high) [] = []
minus (h ∷ high) (s ∷ scores) = (h - s) ∷ minus high scores

reached : (scores high : List ℕ) → UpTo scores high → raised scores (minus high scores) ≡ high
reached [] [] a = refl
reached [] (h ∷ high) a = absurd a
reached (s ∷ scores) [] a = absurd a
reached (s ∷ scores) (h ∷ high) a = let first : s + (h - s) ≡ h = (let l = a.0 in omega arith) in let rest = reached scores high a.1 in λ i. first i ∷ rest i

as_many : (scores high : List ℕ) → UpTo scores high → length (minus high scores) ≡ length scores
as_many [] [] a = refl
as_many [] (h ∷ high) a = absurd a
as_many (s ∷ scores) [] a = absurd a
as_many (s ∷ scores) (h ∷ high) a = let rest = as_many scores high a.1 in omega arith

minus_within : (scores limits high : List ℕ) → length limits ≡ length scores → UpTo scores high → UpTo high (raised scores limits) → UpTo (minus high scores) limits
minus_within [] [] [] same a b = tt
minus_within [] [] (h ∷ high) same a b = absurd a
minus_within [] (l ∷ limits) high same a b = absurd (omega arith)
minus_within (s ∷ scores) [] high same a b = absurd (omega arith)
minus_within (s ∷ scores) (l ∷ limits) [] same a b = absurd a
minus_within (s ∷ scores) (l ∷ limits) (h ∷ high) same a b = ((let low = a.0 in let most = b.0 in omega arith), minus_within scores limits high (omega arith) a.1 b.1)

-- a list between is the scores with gains within the limits
pub between_gains : (scores limits high : List ℕ) → length limits ≡ length scores → UpTo scores high → UpTo high (raised scores limits) → GainsBy (AreGainsWithin limits scores) scores high
between_gains scores limits high same low most = record { gains = minus high scores; within = record { each = as_many scores high low; within = minus_within scores limits high same low most }; reach = reached scores high low }

-- every list between has the documents of the lowest
pub settled_between : (scores limits high : List ℕ) (k : ℕ) → length limits ≡ length scores → IsSettledWithin scores k limits → UpTo scores high → UpTo high (raised scores limits) → first_documents high k ≡ first_documents scores k
settled_between scores limits high k same settled low most =
    let between = between_gains scores limits high same low most in ap (λ l. first_documents l k) (sym between.reach) ∙ settled between.gains between.within

-- so it is settled within every narrower interval
pub settled_narrower : (scores limits later left : List ℕ) (k : ℕ) → length limits ≡ length scores → UpTo scores later → UpTo (raised later left) (raised scores limits) → IsSettledWithin scores k limits → IsSettledWithin later k left
settled_narrower scores limits later left k same low most settled gains are =
    settled_between scores limits (raised later gains) k same settled (up_trans scores later (raised later gains) low (up_raised later gains)) (up_trans (raised later gains) (raised later left) (raised scores limits) (raised_up later gains left are.within are.each) most)
    ∙ sym (settled_between scores limits later k same settled low (up_trans later (raised later left) (raised scores limits) (up_raised later left) most))

pub up_maps : (f g : ℕ → ℕ) (xs : List ℕ) → ((x : ℕ) → f x ≤ g x) → UpTo (map f xs) (map g xs)
up_maps f g [] h = tt
up_maps f g (x ∷ xs) h = (h x, up_maps f g xs h)
