-- What is read of a message that stands further on in a file.
use Rattle.std.specs.Prelude.{ℕ, ◌+◌, Result, Ok, Err}
use Rattle.ciff_read.specs.declared.refusal.CiffRefusal.{CiffRefusal}

-- a refusal so many places further on
abbrev pub refusal_moved : ℕ → CiffRefusal → CiffRefusal
refusal_moved base e = record { at = base + e.at; why = e.why }

-- what is read, where a refusal stands so many places further on
abbrev pub moved : {A : Type 0} → ℕ → Result A CiffRefusal → Result A CiffRefusal
moved base (Ok x) = Ok x
moved base (Err e) = Err (refusal_moved base e)
