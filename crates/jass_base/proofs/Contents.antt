-- What holds of a content, where the contents are told.
use Rattle.shared_lemmas.proofs.Common.{ℕ, List, Option, Some, None, IsSomeAnd, IfSome, get}
use Rattle.jass_base.specs.Outside.{Files, OnContent, ForContent}

pub on_for : (files : Option Files) (name : List ℕ) (P : List ℕ → Type 0) → OnContent files name P → ForContent files name P
on_for None name P p = tt
on_for (Some files) name P p = at (get files name) p
  where
    at : (o : Option (List ℕ)) → IsSomeAnd o P → IfSome o P
    at None p = tt
    at (Some content) p = p
