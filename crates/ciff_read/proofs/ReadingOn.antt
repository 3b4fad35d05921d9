-- Calls that only read a file, one behind the other.
use Rattle.std.proofs.Common.{◌≡◌, ◌≢◌, ℕ, List, Option, Result, Err, subst}
use Rattle.jass_base.specs.Outside.{Files}
use Rattle.ciff_read.specs.declared.refusal.CiffFault.{CiffFault}
use Rattle.ciff_read.specs.declared.refusal.CiffFault.TheVariants as faults
use Rattle.ciff_read.specs.Private.OnlyReads.{OnlyReads}
use Rattle.whole_files.specs.declared.window.Window.{Window}
use Rattle.whole_files.specs.Windows.{Shows, StaysShown}
use Rattle.whole_files.proofs.Told.{for_both}

-- what is answered behind a call that only reads is no read fault of its own
pub reads_else : {A B : Type 0} {old new : Option Files} {name : List ℕ} {r s v w : ℕ} {first : Result A CiffFault} (fault : CiffFault) → OnlyReads old new name r s v w first → fault ≢ faults.ReadFault
    → (let second : Result B CiffFault = Err fault in OnlyReads old new name r s v w second)
reads_else fault reads other = record { fault = λ is. absurd (other cc); stays = reads.stays; later = reads.later; others = reads.others }

-- what two such calls show of a file, one behind the other
pub shown_on : (old mid : Option Files) (name : List ℕ) (a b c : Window) → mid ≡ old → StaysShown old name a b → StaysShown mid name b c → StaysShown old name a c
shown_on old mid name a b c stays first then =
    for_both old name (λ content. Shows content a → Shows content b) (λ content. Shows content b → Shows content c) (λ content. Shows content a → Shows content c) (λ content one two shows. two (one shows))
    first (subst (λ (files : Option Files). StaysShown files name b c) stays then)
