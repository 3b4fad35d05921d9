-- What the exits of the calls that begin and continue an index file answer.
use Rattle.std.proofs.Common.{◌≡◌, ◌<◌, ◌≤◌, ◌⊎◌, ◌*◌, ◌^◌, ℕ, List, length, None, Some, subst, take, Result, Ok, Err, IsErrOf, inl, refl, arith}
use Rattle.std.proofs.Math.Nat.{le_refl}
use Rattle.jass_base.specs.Outside.{Rose}
use Rattle.index_write.specs.declared.change.Change.{Change}
use Rattle.index_layout.specs.Heads.{TermHeads as EntryData}
use Rattle.index_write.proofs.Below.{Extends, HeadData, Totals, greatest_impact, head_postings}
use Rattle.index_write.specs.declared.fault.SaveFault.{SaveFault}
use Rattle.index_write.specs.declared.fault.SaveFault.TheVariants.{TooLarge, WriteFault, NoMemory}
use Rattle.index_write.specs.declared.fault.TermFault.{TermFault}
use Rattle.index_write.specs.declared.fault.TermFault.TheVariants as terms
use Rattle.jass_base.specs.declared.cabinet.Cabinet as cabinet
use Rattle.index_write.specs.Private.Front.{Unspelled}
use Rattle.index_write.specs.Private.Pieces.{Begins, Continues, Makes}
use Rattle.index_write.specs.Saving.{Untouched}
use Rattle.index_write.specs.Streaming.{Unbegun, change_of, entries_totals}
use Rattle.jass_base.specs.declared.limits.TheConstants.{LONGEST_FILE, MOST_POSTINGS}

-- what is no fault, or still the same one
pub none_failed : {T E : Type 0} {x : T} {fault : E} → ¬ (let done : Result T E = Ok x in IsErrOf done fault)
none_failed is = cc

pub still_fault : {T U E : Type 0} {fault other : E} → (let one : Result T E = Err fault in IsErrOf one other) → (let two : Result U E = Err fault in IsErrOf two other)
still_fault is = cc

pub changed_unwritten : {T : Type 0} (kept found : ℕ) → ¬ (let refused : Result T TermFault = Err (terms.Changed kept found) in IsErrOf refused terms.WriteFault)
changed_unwritten kept found is = cc

pub memory_unappended : {T : Type 0} → ¬ (let refused : Result T TermFault = Err terms.NoMemory in IsErrOf refused terms.WriteFault)
memory_unappended is = cc

pub memory_unwritten : {T : Type 0} → ¬ (let refused : Result T SaveFault = Err NoMemory in IsErrOf refused WriteFault)
memory_unwritten is = cc

pub large_unwritten : {T : Type 0} (n : ℕ) → ¬ (let refused : Result T SaveFault = Err (TooLarge n) in IsErrOf refused WriteFault)
large_unwritten n is = cc

pub unspelled_unwritten : {T : Type 0} (size : ℕ) (fault : SaveFault) → Unspelled size fault → ¬ (let here : Result T SaveFault = Err fault in IsErrOf here WriteFault)
unspelled_unwritten size (TooLarge n) why is = large_unwritten n is
unspelled_unwritten size WriteFault why is = why
unspelled_unwritten size NoMemory why is = memory_unwritten is

pub unspelled_unbegun : (size : ℕ) (fault : SaveFault) → Unspelled size fault → Unbegun size fault
unspelled_unbegun size (TooLarge n) why = why
unspelled_unbegun size WriteFault why = absurd why
unspelled_unbegun size NoMemory why = why

pub untouched_itself : {C : Type 0} (files : C) (fault : SaveFault) → Untouched files files fault
untouched_itself files (TooLarge n) = refl
untouched_itself files WriteFault = tt
untouched_itself files NoMemory = refl

-- the totals of so many documents, and of the sums over heads
pub totals_summed : (docs terms postings greatest names : ℕ) (entries : List EntryData) → docs ≡ names → terms ≡ length entries → postings ≡ head_postings entries → greatest ≡ greatest_impact entries
    → (let t : Totals = record { docs = docs; terms = terms; postings = postings; greatest = greatest } in t) ≡ entries_totals names entries
totals_summed docs terms postings greatest names entries a b c d = rw (a, b, c, d) refl

pub few_bytes : (bytes heads : ℕ) → bytes ≤ 2 ^ 32 * heads → heads ≤ MOST_POSTINGS → bytes < 2 ^ 62
few_bytes bytes heads few small = omega (arith)

module _ {C : Type 0} (g : cabinet.Ghosts C) where
  -- the file has too many bytes, or there was no room for its first ones
  pub large_or_refused : {T : Type 0} (files : C) (name text : List ℕ) (size : ℕ) (fault : SaveFault) → Unspelled size fault → Begins {T = T} g files files name text size (Err fault)
  large_or_refused files name text size fault why = record {
    content = tt;
    fits = tt;
    fault = unspelled_unbegun size fault why;
    untouched = untouched_itself files fault;
    front = inl refl;
    cause = λ is. absurd (unspelled_unwritten size fault why is);
    later = le_refl (g.write_faults files);
    others = le_refl (g.read_faults files);
  }

  pub no_room : {T : Type 0} (files : C) (name text : List ℕ) (size : ℕ) → size ≤ LONGEST_FILE → Begins {T = T} g files files name text size (Err NoMemory)
  no_room files name text size fits = large_or_refused files name text size NoMemory fits

  pub begun : {T U E : Type 0} {x : T} {y : U} (old new : C) (name text : List ℕ) (size : ℕ) → size ≤ LONGEST_FILE → Makes {E = E} g old new name text (Ok y) → Begins g old new name text size (Ok x)
  begun old new name text size fits makes = record {
    content = makes.ok;
    fits = fits;
    fault = tt;
    untouched = tt;
    front = tt;
    cause = λ is. absurd (none_failed is);
    later = makes.cause.later;
    others = makes.others;
  }

  pub not_made : {T U E : Type 0} {e : E} (old new : C) (name text : List ℕ) (size : ℕ) → size ≤ LONGEST_FILE → Makes {T = U} g old new name text (Err e) → Begins {T = T} g old new name text size (Err WriteFault)
  not_made old new name text size fits makes = record {
    content = tt;
    fits = tt;
    fault = fits;
    untouched = tt;
    front = makes.err;
    cause = λ is. makes.cause.failed;
    later = makes.cause.later;
    others = makes.others;
  }

  -- the heads aren't the kept ones, or there was no room for the payloads
  pub changed : {T : Type 0} (files : C) (name : List ℕ) (kept found : List HeadData) (part : List ℕ) (change : Change) → change_of kept found ≡ Some change
      → Continues {T = T} g files files name kept found part (Err (terms.Changed change.kept change.found))
  changed files name kept found part change is = record {
    heads = tt;
    content = inl refl;
    fault = is;
    untouched = refl;
    cause = λ is. absurd (changed_unwritten change.kept change.found is);
    later = le_refl (g.write_faults files);
    others = le_refl (g.read_faults files);
  }

  pub not_stored : {T : Type 0} (files : C) (name : List ℕ) (kept found : List HeadData) (part : List ℕ) → Continues {T = T} g files files name kept found part (Err terms.NoMemory)
  not_stored files name kept found part = record {
    heads = tt;
    content = inl refl;
    fault = tt;
    untouched = refl;
    cause = λ is. absurd (memory_unappended is);
    later = le_refl (g.write_faults files);
    others = le_refl (g.read_faults files);
  }

  module _ (old new : C) (name : List ℕ) (kept found : List HeadData) (bytes part : List ℕ) (spelled : bytes ≡ part) (later : g.write_faults old ≤ g.write_faults new) (others : g.read_faults old ≤ g.read_faults new) where
    pub continued : {T : Type 0} {x : T} → found ≡ kept → Extends (g.told old) (g.told new) name bytes → Continues g old new name kept found part (Ok x)
    continued same put = record {
      heads = same;
      content = subst (Extends (g.told old) (g.told new) name) spelled put;
      fault = tt;
      untouched = tt;
      cause = λ is. absurd (none_failed is);
      later = later;
      others = others;
    }

    pub not_appended : {T : Type 0} → change_of kept found ≡ None → (g.told new ≡ g.told old) ⊎ ((n : ℕ) × Extends (g.told old) (g.told new) name (take n bytes)) → Rose (g.write_faults old) (g.write_faults new)
        → Continues {T = T} g old new name kept found part (Err terms.WriteFault)
    not_appended none put rose = record {
      heads = tt;
      content = subst (λ (text : List ℕ). (g.told new ≡ g.told old) ⊎ ((n : ℕ) × Extends (g.told old) (g.told new) name (take n text))) spelled put;
      fault = none;
      untouched = tt;
      cause = λ is. rose;
      later = later;
      others = others;
    }
