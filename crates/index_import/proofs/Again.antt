-- A walk that is asked for one list after another, the counts of faults beside it, and answers that are no read fault.
use Rattle.std.proofs.Common.{◌≡◌, ◌≤◌, ◌⊎◌, inl, inr, ℕ, List, Option, Some, None, Result, Ok, Err, OnOk, IsErrOf, sym, subst, ◌∙◌, arith}
use Rattle.std.proofs.Math.Nat.{le_trans}
use Rattle.std.specs.Bool.{⊤}
use Rattle.jass_base.specs.Outside.{Rose}
use Rattle.ciff_read.specs.declared.refusal.CiffFault.TheVariants as faults
use Rattle.index_import.proofs.Below.{CiffFault, Files, ForContent, LeavesWalk, WalkView, for_all}
use Rattle.index_import.specs.Private.OnlyReads.{OnlyReads}
use Rattle.index_import.specs.Private.Surveying.{IsReady}

pub on_ok : {T E : Type 0} (result : Result T E) (P : Type 0) → P → OnOk result P
on_ok (Ok x) P is = is
on_ok (Err fault) P is = tt

-- what is no read fault, and what is the same one
pub ok_unread : {T : Type 0} {x : T} → ¬ (let done : Result T CiffFault = Ok x in IsErrOf done faults.ReadFault)
ok_unread is = cc

pub memory_unread : {T : Type 0} → ¬ (let refused : Result T CiffFault = Err faults.NoMemory in IsErrOf refused faults.ReadFault)
memory_unread is = cc

pub same_fault : {T E : Type 0} {fault other : E} → (let one : Result T E = Err fault in IsErrOf one other) → fault ≡ other
same_fault is = cc

pub still_fault : {T U E : Type 0} {fault other : E} → (let one : Result T E = Err fault in IsErrOf one other) → (let two : Result U E = Err fault in IsErrOf two other)
still_fault is = cc

pub rose_before : (a b c : ℕ) → a ≤ b → Rose b c → Rose a c
rose_before a b c first rose = omega arith

-- a fault that was counted, where none was answered before
pub rose_here : (a b : ℕ) (answered : Option CiffFault) → answered ≡ None → Rose a b ⊎ (answered ≡ Some faults.ReadFault) → Rose a b
rose_here a b answered none (inl rose) = rose
rose_here a b answered none (inr said) = absurd cc

-- what a call leaves behind others that only read
pub reads_on : {T : Type 0} (old mid new : Option Files) (r m n w x y : ℕ) (result : Result T CiffFault) → mid ≡ old → r ≤ m → w ≤ x → new ≡ mid → m ≤ n → x ≤ y
    → (IsErrOf result faults.ReadFault → Rose m n) → OnlyReads old new r n w y result
reads_on old mid new r m n w x y result same later others stays more beside fault = record {
  fault = λ is. rose_before r m n later (fault is);
  stays = stays ∙ same;
  later = le_trans later more;
  others = le_trans others beside;
}

-- the walk is ready where the same was told, by its name then
pub ready_then : (files now : Option Files) (name own : List ℕ) (w : WalkView) → now ≡ files → own ≡ name → IsReady now own w → IsReady files name w
ready_then files now name own w same called is = subst (λ (n : List ℕ). IsReady files n w) called (subst (λ (f : Option Files). IsReady f own w) same is)

-- what holds of the content of a walk's file held of it before
pub told_then : (files now : Option Files) (old w : WalkView) (P : ℕ → List ℕ → Type 0) → now ≡ files → LeavesWalk old w → ForContent now w.name (P w.docs) → ForContent files old.name (P old.docs)
told_then files now old w P same leaves is =
    subst (λ (d : ℕ). ForContent files old.name (P d)) leaves.docs (subst (λ (n : List ℕ). ForContent files n (P w.docs)) leaves.name (subst (λ (f : Option Files). ForContent f w.name (P w.docs)) same is))

-- and what held of it before holds of it now
pub told_now : (files now : Option Files) (old w : WalkView) (P : ℕ → List ℕ → Type 0) → now ≡ files → LeavesWalk old w → ForContent files old.name (P old.docs) → ForContent now w.name (P w.docs)
told_now files now old w P same leaves is =
    subst (λ (f : Option Files). ForContent f w.name (P w.docs)) (sym same) (subst (λ (n : List ℕ). ForContent files n (P w.docs)) (sym leaves.name) (subst (λ (d : ℕ). ForContent files old.name (P d)) (sym leaves.docs) is))

-- what holds of the content of a file by one name holds of it by another that is the same
pub told_there : (files now : Option Files) (name own : List ℕ) (P : List ℕ → Type 0) → now ≡ files → own ≡ name → ForContent now own P → ForContent files name P
told_there files now name own P same called is = subst (λ (n : List ℕ). ForContent files n P) called (subst (λ (f : Option Files). ForContent f own P) same is)

-- a walk that was ready is ready now, by its own name
pub ready_now : (files now : Option Files) (old w : WalkView) → now ≡ files → LeavesWalk old w → IsReady files old.name w → IsReady now w.name w
ready_now files now old w same leaves is = subst (λ (n : List ℕ). IsReady now n w) (sym leaves.name) (subst (λ (f : Option Files). IsReady f old.name w) (sym same) is)

-- nothing is asked of a content
pub nothing_told : (files : Option Files) (name : List ℕ) → ForContent files name (λ content. ⊤)
nothing_told files name = for_all files name (λ content. ⊤) (λ content. tt)
