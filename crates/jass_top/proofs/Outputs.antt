-- How a note is put.
use Rattle.shared_lemmas.proofs.Common.{ℕ, List, Option, Result, Ok, Err, ◌⊎◌, inl, inr, Appends}
use Rattle.jass_top.proofs.Below.{Rest, Rose, Wrote, AppendsPrefix}

pub noted : {S T E : Type 0} (written : S → Option (List ℕ)) (faults : S → ℕ) (rest : S → Rest) (old new : S) (text : List ℕ) (result : Result T E) → Wrote {T = T} {E = E} written faults rest old new text result
    → Appends (written old) (written new) text ⊎ (Rose (faults old) (faults new) × AppendsPrefix (written old) (written new) text)
noted written faults rest old new text (Ok x) is = inl is.bytes
noted written faults rest old new text (Err e) is = inr (is.cause.failed, is.bytes)
