-- Why a run ends as it does, by how it ends.
use Rattle.shared_lemmas.proofs.Common.{◌≡◌, ◌≢◌, ◌≤◌, ℕ, List, length, true, false, Option, Some, None, inl, inr, refl, sym, ap, ◌∙◌, arith, ◌⊎◌}
use Rattle.jass_top.proofs.Below.{Rose, CommandData, Serve, MOST_TAKEN}
use Rattle.jass_top.specs.declared.stop.Place.{Place}
use Rattle.jass_top.specs.declared.status.Status.{Status}
use Rattle.jass_top.specs.declared.status.Status.TheVariants as status
use Rattle.jass_top.specs.Causes.{WriteFailed}
use Rattle.jass_top.specs.Commands.{meaning_of}
use Rattle.jass_top.specs.Endings.{Ends, Over}
use Rattle.jass_top.specs.Judging.{Judged, Accepted, Missing, Refuses, Untold, Shows, IsUnaccepted}
use Rattle.jass_top.specs.Meanings.{Meaning}
use Rattle.jass_top.specs.ServeMeaning.{IsAnswered, has_end, lines_taken}
use Rattle.jass_top.specs.Standing.{IsInput, Keeps}
use Rattle.jass_top.specs.Worlds.{Outer, World}

-- ---- a judgement is one alone

refused_alone : {A : Type 0} (judged : Judged A) (x : A) (name : List ℕ) (number : ℕ) (at : Place) → Shows judged (Accepted x) → judged ≡ Refuses name number at → {B : Type 0} → B
refused_alone judged x name number at (inl is) bad = cc
refused_alone judged x name number at (inr is) bad = cc

refused_accepted : {A : Type 0} (judged : Judged A) (x : A) (name : List ℕ) (number : ℕ) (at : Place) → Shows judged (Refuses name number at) → judged ≡ Accepted x → {B : Type 0} → B
refused_accepted judged x name number at (inl is) bad = cc
refused_accepted judged x name number at (inr is) bad = cc

missing_refused : {A : Type 0} (judged : Judged A) (missed name : List ℕ) (number : ℕ) (at : Place) → judged ≡ Missing missed → judged ≡ Refuses name number at → {B : Type 0} → B
missing_refused judged missed name number at is bad = cc

missing_accepted : {A : Type 0} (judged : Judged A) (missed : List ℕ) (x : A) → judged ≡ Missing missed → judged ≡ Accepted x → {B : Type 0} → B
missing_accepted judged missed x is bad = cc

-- what is accepted isn't unaccepted
both_ways : {A : Type 0} (judged : Judged A) (x : A) → Shows judged (Accepted x) → IsUnaccepted judged → {B : Type 0} → B
both_ways (Accepted y) x had unaccepted = absurd unaccepted
both_ways (Missing name) x (inl is) unaccepted = cc
both_ways (Missing name) x (inr is) unaccepted = cc
both_ways (Refuses name number at) x (inl is) unaccepted = cc
both_ways (Refuses name number at) x (inr is) unaccepted = cc
both_ways Untold x had unaccepted = absurd unaccepted

-- ---- the causes

module _ (m : Meaning) (before after : World) where
  never_over : (P : m.Inputs → Outer → Outer → Type 0) → Over m P before.outer after.outer → IsUnaccepted (m.judge before.outer.told) → {B : Type 0} → B
  never_over P over unaccepted = both_ways (m.judge before.outer.told) over.inputs over.accepted unaccepted

  kept : (P : m.Inputs → Outer → Outer → Type 0) → Keeps before.outer after.outer ⊎ Over m P before.outer after.outer → IsUnaccepted (m.judge before.outer.told) → Keeps before.outer after.outer
  kept P (inl keeps) unaccepted = keeps
  kept P (inr over) unaccepted = never_over P over unaccepted

  pub unaccepted : (result : Status) → Ends m before after result → IsUnaccepted (m.judge before.outer.told) → Keeps before.outer after.outer
  unaccepted status.Done ends is = (let does = (ends.done refl).does in both_ways (m.judge before.outer.told) does.inputs does.accepted is)
  unaccepted status.NoMemory ends is = kept m.AtMemory (ends.memory refl).stands is
  unaccepted status.Words ends is = absurd (ends.words refl)
  unaccepted status.Refused ends is = (ends.refused refl).kept
  unaccepted status.ReadFault ends is = elim (ends.read refl) [ inl file ↦ kept m.AtReadFault file.stands is | inr feed ↦ never_over m.AtFeedFault feed.stands is ]
  unaccepted status.WriteFault ends is = never_over m.AtWriteFault (ends.write refl).stands is
  unaccepted status.InputLimit ends is = never_over m.AtLimit (ends.limit refl).stands is

  module _ (name : List ℕ) (number : ℕ) (at : Place) (refused : m.judge before.outer.told ≡ Refuses name number at) where
    not_over : (P : m.Inputs → Outer → Outer → Type 0) → Over m P before.outer after.outer → {B : Type 0} → B
    not_over P over = refused_alone (m.judge before.outer.told) over.inputs name number at over.accepted refused

    pub refuses : (result : Status) → Ends m before after result → result ≢ status.Refused
        → (result ≡ status.NoMemory) ⊎ ((result ≡ status.ReadFault) × Rose before.outer.read_faults after.outer.read_faults)
    refuses status.Done ends other = (let does = (ends.done refl).does in refused_alone (m.judge before.outer.told) does.inputs name number at does.accepted refused)
    refuses status.NoMemory ends other = inl refl
    refuses status.Words ends other = absurd (ends.words refl)
    refuses status.Refused ends other = absurd (other refl)
    refuses status.ReadFault ends other = elim (ends.read refl) [
      | inl file ↦ elim file.cause [ inl rose ↦ inr (refl, rose) | inr missed ↦ missing_refused (m.judge before.outer.told) file.name name number at missed refused ]
      | inr feed ↦ not_over m.AtFeedFault feed.stands
    ]
    refuses status.WriteFault ends other = not_over m.AtWriteFault (ends.write refl).stands
    refuses status.InputLimit ends other = not_over m.AtLimit (ends.limit refl).stands

  pub complete : (result : Status) → Ends m before after result → (inputs : m.Inputs) → m.judge before.outer.told ≡ Accepted inputs → ¬ Rose before.outer.read_faults after.outer.read_faults
      → ((name : List ℕ) → ¬ WriteFailed m before.outer after.outer name) → (m.feeds ≡ true → ¬ Rose before.outer.feed_faults after.outer.feed_faults)
      → result ≢ status.InputLimit → result ≢ status.Done → result ≡ status.NoMemory
  complete status.Done ends inputs is read write feed limit other = absurd (other refl)
  complete status.NoMemory ends inputs is read write feed limit other = refl
  complete status.Words ends inputs is read write feed limit other = absurd (ends.words refl)
  complete status.Refused ends inputs is read write feed limit other =
      (let refused = ends.refused refl in refused_accepted (m.judge before.outer.told) inputs refused.name refused.number refused.at refused.first is)
  complete status.ReadFault ends inputs is read write feed limit other = elim (ends.read refl) [
    | inl file ↦ elim file.cause [ inl rose ↦ absurd (read rose) | inr missed ↦ missing_accepted (m.judge before.outer.told) file.name inputs missed is ]
    | inr fed ↦ absurd (feed fed.feeds fed.cause)
  ]
  complete status.WriteFault ends inputs is read write feed limit other = (let failed = ends.write refl in absurd (write failed.name failed.cause))
  complete status.InputLimit ends inputs is read write feed limit other = absurd (limit refl)

-- ---- the limit of the feed

pub never_limited : (command : CommandData) (before after : World) (result : Status) → Ends (meaning_of command) before after result → (meaning_of command).feeds ≡ false → result ≢ status.InputLimit
never_limited (Serve index frames) before after result ends none is = (let bad : true ≡ false = none in cc)
never_limited command before after result ends none is = absurd (ends.limit is).stands.stands

-- the input is the one that the feed had
same_input : (left : Option (List ℕ)) (one other : List ℕ) → left ≡ Some other → IsInput left one → one ≡ other
same_input None one other is had = cc
same_input (Some bytes) one other is had = (let same : Some bytes ≡ Some other = is in cc)

-- an input isn't both answered and too long
one_end : (left : Option (List ℕ)) (one other : List ℕ) → left ≡ Some other → IsInput left one → MOST_TAKEN ≤ length one → has_end (lines_taken one) ≡ false → IsAnswered other → {B : Type 0} → B
one_end left one other is had long endless answered =
    let same = same_input left one other is had in
    elim answered [
      | inl short ↦ absurd (omega (arith, ap length same, long, short))
      | inr ended ↦ (let bad : false ≡ true = sym endless ∙ ap (λ (t : List ℕ). has_end (lines_taken t)) same ∙ ended in cc)
    ]

pub answered_whole : (index : List ℕ) (frames : ℕ) (before after : World) (result : Status) (input : List ℕ) → Ends (meaning_of (Serve index frames)) before after result → before.outer.left ≡ Some input → IsAnswered input → result ≢ status.InputLimit
answered_whole index frames before after result input ends left answered is =
    let front = (ends.limit is).stands.stands in one_end before.outer.left front.input input left front.had front.long front.endless answered
