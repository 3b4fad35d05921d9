-- What holds of a content, where the contents are told.
use Rattle.shared_lemmas.proofs.Common.{◌≡◌, ℕ, List, Option, Some, None, IsSomeAnd, IfSome, get}
use Rattle.jass_base.specs.Outside.{Files, IsMissing, OnContent, ForContent}

pub for_all : (files : Option Files) (name : List ℕ) (P : List ℕ → Type 0) → ((content : List ℕ) → P content) → ForContent files name P
for_all None name P each = tt
for_all (Some files) name P each = at (get files name)
  where
    at : (o : Option (List ℕ)) → IfSome o P
    at None = tt
    at (Some content) = each content

pub for_both : (files : Option Files) (name : List ℕ) (P Q R : List ℕ → Type 0) → ((content : List ℕ) → P content → Q content → R content) → ForContent files name P → ForContent files name Q → ForContent files name R
for_both None name P Q R both p q = tt
for_both (Some files) name P Q R both p q = at (get files name) p q
  where
    at : (o : Option (List ℕ)) → IfSome o P → IfSome o Q → IfSome o R
    at None p q = tt
    at (Some content) p q = both content p q

pub for_one : (files : Option Files) (name : List ℕ) (P R : List ℕ → Type 0) → ((content : List ℕ) → P content → R content) → ForContent files name P → ForContent files name R
for_one files name P R one p = for_both files name P P R (λ content first second. one content first) p p

pub for_pair : (files : Option Files) (name : List ℕ) (P Q : List ℕ → Type 0) → ForContent files name P → ForContent files name Q → ForContent files name (λ content. P content × Q content)
for_pair files name P Q p q = for_both files name P Q (λ content. P content × Q content) (λ content first second. (first, second)) p q

-- a name whose content has P isn't missing
pub on_there : (files : Option Files) (name : List ℕ) (P : List ℕ → Type 0) → OnContent files name P → ¬ IsMissing files name
on_there None name P p missing = missing
on_there (Some files) name P p missing = at (get files name) p missing
  where
    at : (o : Option (List ℕ)) → IsSomeAnd o P → (let none : Option (List ℕ) = None in o ≡ none) → ⊥
    at None p missing = p
    at (Some content) p missing = cc
