-- A refusal for a change says two numbers that differ, and stands at the place of its list.
use Rattle.shared_lemmas.proofs.Common.{◌≡◌, ◌≢◌, ◌∙◌, ◌⊎◌, inl, inr, ℕ, suc, ◌+◌, ◌<◌, ◌≤◌, ◌^◌, ◌==◌, Bool, true, false, cond, List, [], ◌∷◌, length, map, All, AllByRecursion, Option, Some, None, Result, Ok, Err, IfErr, refl, sym, ap, subst, arith, nat_tests, fold, slice_index}
use Rattle.index_import.proofs.Below.{CiffFault, KeptList, HasKept, IsGiven, KeepsRanges, WalkView, SaveFault, TermFault, Unappended, HeadData}
use Rattle.ciff_read.specs.Plain.{IsPlain, SaysNoChange}
use Rattle.ciff_read.specs.Walk.{ChangesOnly, SaysChange}
use Rattle.ciff_read.specs.declared.refusal.CiffFault.TheVariants as reading
use Rattle.ciff_read.specs.declared.refusal.CiffRefusal.{CiffRefusal}
use Rattle.ciff_read.specs.declared.refusal.CiffWhy.{CiffWhy}
use Rattle.ciff_read.specs.declared.refusal.CiffWhy.TheVariants as whys
use Rattle.index_write.specs.Streaming.{change_of, heads_change, unless_same}
use Rattle.index_write.specs.declared.change.Change.{Change}
use Rattle.index_write.specs.declared.fault.SaveFault.TheVariants as saving
use Rattle.index_write.specs.declared.fault.TermFault.TheVariants as terms
use Rattle.index_import.specs.Importing.{ChangesWhere, ImportChanges}
use Rattle.index_import.specs.Private.Faults.{ChangesAs, ChangesAt, ChangesGiven, ChangesKept, unappended, unbegun, unread}
use Rattle.index_import.specs.declared.fault.ImportFault.{ImportFault}
use Rattle.index_import.specs.declared.fault.ImportFault.TheVariants as imports

-- what holds of the place and the number holds as something weaker, too
module _ (P Q : ℕ → ℕ → Type 0) (each : (at kept : ℕ) → P at kept → Q at kept) where
  why_on : (at : ℕ) (why : CiffWhy) → ChangesWhere P at why → ChangesWhere Q at why
  why_on at (whys.Changed kept found) is = (each at kept is.0, is.1)
  why_on at why is = tt

  pub fault_on : (fault : CiffFault) → ChangesAs P fault → ChangesAs Q fault
  fault_on (reading.Refused refusal) is = why_on refusal.at refusal.why is
  fault_on reading.ReadFault is = tt
  fault_on reading.NoMemory is = tt

  pub import_on : (fault : ImportFault) → ImportChanges P fault → ImportChanges Q fault
  import_on (imports.Refused refusal) is = why_on refusal.at refusal.why is
  import_on imports.ReadFault is = tt
  import_on (imports.TooLarge n) is = tt
  import_on imports.WriteFault is = tt
  import_on imports.NoMemory is = tt

  pub result_on : {T : Type 0} (result : Result T ImportFault) → IfErr result (ImportChanges P) → IfErr result (ImportChanges Q)
  result_on (Ok x) is = tt
  result_on (Err fault) is = import_on fault is

-- a fault of a first reading is for no change
pub plain_as : (P : ℕ → ℕ → Type 0) (fault : CiffFault) → IsPlain fault → ChangesAs P fault
plain_as P (reading.Refused refusal) plain = by refusal.why plain
  where
    by : (why : CiffWhy) → SaysNoChange why → ChangesWhere P refusal.at why
    by (whys.Changed kept found) plain = absurd plain
    by why plain = tt
plain_as P reading.ReadFault plain = tt
plain_as P reading.NoMemory plain = tt

-- a list that is read again says the number that was kept of it
pub again_kept : (lists : List KeptList) (w : WalkView) (at : ℕ) (fault : CiffFault) → w.kept ≡ lists → ChangesOnly w at fault → ChangesKept lists at fault
again_kept lists w at (reading.Refused refusal) same is = by refusal.why is
  where
    by : (why : CiffWhy) → SaysChange w at refusal why → ChangesWhere (λ place kept. (place ≡ at) × HasKept lists place kept) refusal.at why
    by (whys.Changed kept found) is = ((is.0, subst (λ (ks : List KeptList). HasKept ks refusal.at kept) same (subst (λ n. HasKept w.kept n kept) (sym is.0) is.1.kept_is)), is.1.other)
    by why is = tt
again_kept lists w at reading.ReadFault same is = tt
again_kept lists w at reading.NoMemory same is = tt

pub kept_at : (lists : List KeptList) (at : ℕ) (fault : CiffFault) → ChangesKept lists at fault → ChangesAt at fault
kept_at lists at fault is = fault_on (λ place kept. (place ≡ at) × HasKept lists place kept) (λ place kept. place ≡ at) (λ place kept both. both.0) fault is

pub kept_here : (lists : List KeptList) (at : ℕ) (fault : CiffFault) → ChangesKept lists at fault → ChangesAs (HasKept lists) fault
kept_here lists at fault is = fault_on (λ place kept. (place ≡ at) × HasKept lists place kept) (HasKept lists) (λ place kept both. both.1) fault is

pub kept_then : (lists others : List KeptList) (fault : CiffFault) → others ≡ lists → ChangesAs (HasKept others) fault → ChangesAs (HasKept lists) fault
kept_then lists others fault same is = subst (λ (ks : List KeptList). ChangesAs (HasKept ks) fault) same is

-- what was kept was given
pub has_given : (lists : List KeptList) (at count : ℕ) → HasKept lists at count → IsGiven lists at
has_given lists at count kept = (kept.0, kept.1, kept.2)

pub kept_given : (lists : List KeptList) (fault : CiffFault) → ChangesAs (HasKept lists) fault → ChangesGiven lists fault
kept_given lists fault is = fault_on (HasKept lists) (λ place kept. IsGiven lists place) (λ place kept has. has_given lists place kept has) fault is

pub at_given : (lists : List KeptList) (at count : ℕ) (fault : CiffFault) → HasKept lists at count → ChangesAt at fault → ChangesGiven lists fault
at_given lists at count fault has is =
    fault_on (λ place kept. place ≡ at) (λ place kept. IsGiven lists place) (λ place kept same. subst (IsGiven lists) (sym same) (has_given lists at count has)) fault is

-- the same of why no index was made
pub unread_as : (P : ℕ → ℕ → Type 0) (fault : CiffFault) (result : ImportFault) → result ≡ unread fault → ChangesAs P fault → ImportChanges P result
unread_as P fault result from is = subst (ImportChanges P) (sym from) (by fault is)
  where
    by : (fault : CiffFault) → ChangesAs P fault → ImportChanges P (unread fault)
    by (reading.Refused refusal) is = is
    by reading.ReadFault is = tt
    by reading.NoMemory is = tt

pub unbegun_as : (P : ℕ → ℕ → Type 0) (fault : SaveFault) (result : ImportFault) → result ≡ unbegun fault → ImportChanges P result
unbegun_as P fault result from = subst (ImportChanges P) (sym from) (by fault)
  where
    by : (fault : SaveFault) → ImportChanges P (unbegun fault)
    by (saving.TooLarge length) = tt
    by saving.WriteFault = tt
    by saving.NoMemory = tt

-- the first number in which heads differ is another one
unless_other : (kept found : ℕ) (later : Option Change) (change : Change) → unless_same kept found later ≡ Some change → (later ≡ Some change → change.kept ≢ change.found) → change.kept ≢ change.found
unless_other kept found later change is rest = by (kept == found) refl is
  where
    by : (test : Bool) → (kept == found) ≡ test → cond test later (Some (record { kept = kept; found = found })) ≡ Some change → change.kept ≢ change.found
    by true same is = rest is
    by false apart is =
        let other : kept ≢ found = λ same. grind (arith, nat_tests) in
        subst (λ (c : Change). c.kept ≢ c.found) (one (record { kept = kept; found = found }) change is) other
      where
        one : (a b : Change) → (let x : Option Change = Some a in x) ≡ Some b → a ≡ b
        one a b is = cc

head_other : (a b c d e f m n : ℕ) (later : Option Change) (change : Change) → unless_same a b (unless_same c d (unless_same e f (unless_same m n later))) ≡ Some change → (later ≡ Some change → change.kept ≢ change.found) → change.kept ≢ change.found
head_other a b c d e f m n later change is rest =
    unless_other a b (unless_same c d (unless_same e f (unless_same m n later))) change is
    (λ is. unless_other c d (unless_same e f (unless_same m n later)) change is
    (λ is. unless_other e f (unless_same m n later) change is (λ is. unless_other m n later change is rest)))

heads_other : (kept found : List HeadData) (change : Change) → heads_change kept found ≡ Some change → change.kept ≢ change.found
heads_other [] found change is = absurd cc
heads_other (head ∷ kept) [] change is = absurd cc
heads_other (head ∷ kept) (other ∷ found) change is =
    head_other head.impact other.impact head.count other.count _ _ head.size other.size (heads_change kept found) change is (λ is. heads_other kept found change is)

change_other : (kept found : List HeadData) (change : Change) → change_of kept found ≡ Some change → change.kept ≢ change.found
unfolding change_of
change_other kept found change is = unless_other (length kept) (length found) (heads_change kept found) change is (λ is. heads_other kept found change is)

pub unappended_as : (P : ℕ → ℕ → Type 0) (at : ℕ) (kept found : List HeadData) (fault : TermFault) (result : ImportFault) → result ≡ unappended at fault → Unappended (change_of kept found) fault → ((n : ℕ) → P at n) → ImportChanges P result
unappended_as P at kept found fault result from is here = subst (ImportChanges P) (sym from) (by fault is)
  where
    by : (fault : TermFault) → Unappended (change_of kept found) fault → ImportChanges P (unappended at fault)
    by (terms.Changed a b) is = (here a, change_other kept found (record { kept = a; found = b }) is)
    by terms.WriteFault is = tt
    by terms.NoMemory is = tt
