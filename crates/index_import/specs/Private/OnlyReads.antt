-- What a call that reads a file leaves of the files, and why a read fault comes.
use Rattle.std.specs.Prelude.{ℕ, ◌≡◌, ◌≤◌, Option, Result, IsErrOf}
use Rattle.jass_base.specs.Outside.{Files, Rose}
use Rattle.ciff_read.specs.declared.refusal.CiffFault.{CiffFault}
use Rattle.ciff_read.specs.declared.refusal.CiffFault.TheVariants as faults

-- the files stay, the counts of faults don't fall, and a read fault was counted
pub record OnlyReads {T : Type 0} (old new : Option Files) (reads reads_new writes writes_new : ℕ) (result : Result T CiffFault) : Type 0 where
  pub fault : IsErrOf result faults.ReadFault → Rose reads reads_new
  pub stays : new ≡ old
  pub later : reads ≤ reads_new
  pub others : writes ≤ writes_new
