-- Words that spell values of any kind, one each.
use Rattle.std.specs.Prelude.{ℕ, ◌≢◌, List, [], ◌∷◌, ⊤}
use Rattle.std.specs.List.{AllByRecursion}

-- each word spells its value
abbrev pub Spell : {T : Type 0} → (List ℕ → T → Type 0) → List (List ℕ) → List T → Type 0
Spell Is [] [] = ⊤
Spell Is [] (value ∷ values) = ⊥
Spell Is (word ∷ words) [] = ⊥
Spell Is (word ∷ words) (value ∷ values) = Is word value × Spell Is words values

-- no two have the same key
abbrev pub HaveOnce : {T K : Type 0} → (T → K) → List T → Type 0
HaveOnce key_of [] = ⊤
HaveOnce key_of (option ∷ options) =
    AllByRecursion (λ later. key_of later ≢ key_of option) options × HaveOnce key_of options
