-- How a command runs that makes an index of its input, from how it runs on the index that was made.
use Rattle.shared_lemmas.proofs.Common.{◌≡◌, ◌≢◌, ◌≤◌, ◌+◌, ◌^◌, ◌⊎◌, ℕ, List, [], length, Bool, true, false, nat_le, Option, Some, Result, Ok, Err, refl, subst, ◌∙◌, inl, inr, if◌then◌else◌, Appends}
use Rattle.jass_top.proofs.Below.{Files, Rose, Rose-earlier, Sets, IndexData, index_text, AppendsPrefix}
use Rattle.jass_top.specs.declared.stop.Stop.{Stop}
use Rattle.jass_top.specs.declared.stop.Stop.TheVariants as stops
use Rattle.jass_top.specs.Causes.{WriteFailed}
use Rattle.jass_top.specs.Endings.{Does}
use Rattle.jass_top.specs.Private.Causes.{Came, Runs, UnreadFile, UnreadFeed}
use Rattle.jass_top.specs.IndexJudging.{fitting}
use Rattle.jass_top.specs.declared.stop.Place.TheVariants.{Byte}
use Rattle.jass_top.specs.Judging.{Judged, Accepted, Missing, Refuses, Shows}
use Rattle.jass_top.specs.MakingMeaning.{SavesPart, made_output, on_made, judge_made}
use Rattle.jass_top.specs.Private.HeldIndexes.{on_index}
use Rattle.jass_top.specs.Meanings.{Meaning, Output}
use Rattle.jass_top.specs.Standing.{CountsPart, Keeps, LeavesFile, LeavesFront, OfOutput, TextPart}
use Rattle.jass_top.specs.Worlds.{Outer}
use Rattle.jass_top.proofs.Behind.{shown_then}
use Rattle.jass_top.proofs.Stopping.{ran_on_both}

-- the input was read, and nothing else was done
pub record HasRead (before mid : Outer) : Type 0 where
  pub told : mid.told ≡ before.told
  pub written : mid.written ≡ before.written
  pub left : mid.left ≡ before.left
  pub steps : mid.steps ≡ before.steps
  pub out_faults : mid.out_faults ≡ before.out_faults
  pub feed_faults : mid.feed_faults ≡ before.feed_faults
  pub out_rest : mid.out_rest ≡ before.out_rest
  pub read_faults : before.read_faults ≤ mid.read_faults
  pub write_faults : before.write_faults ≤ mid.write_faults

-- ---- what stands since then stands since before

module _ (before mid after : Outer) (read : HasRead before mid) where
  carry_steps : (most : ℕ) → CountsPart mid after most → CountsPart before after most
  carry_steps most is = record {
    never_less = subst (λ (steps : ℕ). steps ≤ after.steps) read.steps is.never_less;
    at_most = subst (λ (steps : ℕ). after.steps ≤ steps + most) read.steps is.at_most;
  }

  pub carry_text : (output : Output) → TextPart output mid after → TextPart output before after
  carry_text output is = record {
    told = is.told ∙ read.told;
    text = subst (λ written. AppendsPrefix written after.written output.text) read.written is.text;
    steps = carry_steps output.steps is.steps;
  }

  pub carry_answer : (IsOutput : IndexData → Output → Type 0) (index : IndexData) → OfOutput IsOutput TextPart index mid after → OfOutput IsOutput TextPart index before after
  carry_answer IsOutput index is = record { output = is.output; exact = is.exact; stands = carry_text is.output is.stands }

  pub carry_saved : (file : List ℕ) (index : IndexData) → SavesPart file index mid after → SavesPart file index before after
  carry_saved file index (inl is) = inl (record {
    content = subst (λ told. LeavesFront (Some file) told after.told (made_output index).content) read.told is.content;
    written = is.written ∙ read.written;
    steps = carry_steps (made_output index).steps is.steps;
  })
  carry_saved file index (inr is) = inr (record {
    content = subst (λ told. Sets told after.told file (made_output index).content) read.told is.content;
    text = subst (λ written. AppendsPrefix written after.written (made_output index).text) read.written is.text;
    steps = carry_steps (made_output index).steps is.steps;
  })

never_missing : (input : List ℕ) (index : IndexData) (name : List ℕ) → fitting input index ≢ Missing name
unfolding fitting
never_missing input index name is = at (nat_le (length (index_text index)) (2 ^ 32)) is
  where
    at : (b : Bool) → (if b then Accepted index else Refuses input 49 (Byte (length (index_text index)))) ≢ Missing name
    at true is = cc
    at false is = cc

module _ {A : Type 0} (input : List ℕ) (file : Option (List ℕ)) (IsOutput : IndexData → Output → Type 0) (part : IndexData → Outer → Outer → Type 0) (judge : Option Files → Judged A) (made : A → IndexData) (x : A) (index : IndexData) (same : index ≡ made x)
    (before mid after : Outer) (read : HasRead before mid) (accepted : Shows (judge before.told) (Accepted x)) (carry : (index : IndexData) → part index mid after → part index before after) where
  abbrev held : Meaning
  held = record (on_index input index IsOutput part) { file = file }

  abbrev meant : Meaning
  meant = record (on_made input judge made IsOutput part) { file = file }

  shown : (other : Judged IndexData) → Shows (fitting input index) other → Shows (judge_made input judge made before.told) other
  shown other shows = shown_then (judge before.told) x (λ y. fitting input (made y)) other accepted (subst (λ (i : IndexData). Shows (fitting input i) other) same shows)

  keeps : Keeps mid after → Keeps before after
  keeps is = record { told = is.told ∙ read.told; written = is.written ∙ read.written; left = is.left ∙ read.left; steps = is.steps ∙ read.steps }

  does : Does held mid after → Does meant before after
  does is = record {
    inputs = is.inputs;
    input = is.input;
    output = is.output;
    accepted = shown (Accepted is.inputs) is.accepted;
    had = λ feeds. (let bad : false ≡ true = feeds in cc);
    exact = is.exact;
    left = record {
      content = subst (λ told. LeavesFile file told after.told is.output.content) read.told is.left.content;
      text = subst (λ written. Appends written after.written is.output.text) read.written is.left.text;
      steps = subst (λ steps. after.steps ≡ steps + is.output.steps) read.steps is.left.steps;
    };
  }

  failed : (name : List ℕ) → WriteFailed held mid after name → WriteFailed meant before after name
  failed name (inl is) = inl (is.0, is.1, subst (λ n. Rose n after.out_faults) read.out_faults is.2)
  failed name (inr is) = inr (is.0, Rose-earlier before.write_faults mid.write_faults after.write_faults read.write_faults is.1)

  unread : (name : List ℕ) → UnreadFile held mid after name ⊎ UnreadFeed held mid after name → UnreadFile meant before after name ⊎ UnreadFeed meant before after name
  unread name (inr feed) = (let bad : false ≡ true = feed.feeds in cc)
  unread name (inl is) = inl (record {
    input = is.input;
    cause = elim is.cause [ inl rose ↦ inl (Rose-earlier before.read_faults mid.read_faults after.read_faults read.read_faults rose) | inr missing ↦ absurd (never_missing input index name missing) ];
    stands = elim is.stands [ inl kept ↦ inl (keeps kept) | inr over ↦ absurd over.stands ];
  })

  came : (result : Result (Unit {0}) Stop) → Came held mid after result → Came meant before after result
  came (Ok done) is = does is
  came (Err stops.NoMemory) is = elim is [ inl kept ↦ inl (keeps kept) | inr over ↦ absurd over.stands ]
  came (Err (stops.Refused name number at)) is = (is.0, shown (Refuses name.now number at) is.1, keeps is.2)
  came (Err (stops.ReadFault name)) is = unread name.now is
  came (Err (stops.WriteFault name)) is = (failed name.now is.0, record { inputs = is.1.inputs; accepted = shown (Accepted is.1.inputs) is.1.accepted; stands = carry is.1.inputs is.1.stands })
  came (Err stops.InputLimit) is = absurd is.stands

  pub made_runs : (result : Result (Unit {0}) Stop) → Runs held mid after result → Runs meant before after result
  made_runs result is =
      let feed = is.untouched.no_feed refl in
      ran_on_both {name = input} {more = []} refl refl refl (feed.0 ∙ read.left) (feed.1 ∙ read.feed_faults) (is.untouched.rest ∙ read.out_rest) (came result is.came)
