-- What a function answers where reading refuses.
use Rattle.std.proofs.Common.{◌≡◌, Result, Err, sym, ap, subst}
use Rattle.ciff_read.specs.declared.refusal.CiffRefusal.{CiffRefusal}
use Rattle.ciff_read.specs.declared.refusal.CiffFault.{CiffFault}
use Rattle.ciff_read.specs.declared.refusal.CiffFault.TheVariants as faults
use Rattle.ciff_read.specs.Refusals.{◌>>=◌, Fails}

pub refuses : {A : Type 0} (answer : CiffFault) (refusal : CiffRefusal) (read : Result A CiffRefusal) → answer ≡ faults.Refused refusal → read ≡ Err refusal → Fails answer read
refuses answer refusal read says is = subst (λ (e : CiffFault). Fails e read) (sym says) is

-- a step that fails lets all fail
pub fails_on : {A B : Type 0} (answer : CiffFault) (read : Result A CiffRefusal) (f : A → Result B CiffRefusal) → Fails answer read → Fails answer (read >>= f)
fails_on (faults.Refused refusal) read f fails = ap (λ r. r >>= f) fails
fails_on faults.ReadFault read f fails = fails
fails_on faults.NoMemory read f fails = tt

-- the same of equal reads
pub fails_as : {A : Type 0} (answer : CiffFault) (read other : Result A CiffRefusal) → read ≡ other → Fails answer read → Fails answer other
fails_as {A} answer read other same fails = subst (λ (r : Result A CiffRefusal). Fails answer r) same fails
