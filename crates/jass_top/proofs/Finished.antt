-- The end of writing a file changes nothing that is told. Where it fails, a part of the output stands: all of it.
use Rattle.shared_lemmas.proofs.Common.{◌≡◌, ◌≤◌, ℕ, List, length, take_all, Option, Some, None, Ok, true, refl, sym, subst, ◌∙◌, inr, arith, Appends}
use Rattle.jass_top.proofs.Below.{Audit, Check, CommandData, Exhaust, Export, Files, Help, Import, Migrate, Once, Rewrite, Search, Serve, Shards, Trial, Version, AppendsPrefix, Rose, Rose-earlier, Sets}
use Rattle.jass_top.specs.Causes.{WriteFailed}
use Rattle.jass_top.specs.Commands.{meaning_of}
use Rattle.jass_top.specs.Endings.{Does, Over, Untouched}
use Rattle.jass_top.specs.Meanings.{Meaning, Output}
use Rattle.jass_top.specs.Private.Causes.{Runs}
use Rattle.jass_top.specs.Standing.{FilePart, FileThenPart, Leaves, LeavesFile, LeavesFront, PartOfEach, TakesFront}
use Rattle.jass_top.specs.Worlds.{Outer}
use Rattle.jass_top.proofs.Stopping.{counted}

-- all stands as it did, but for the counts of faults of the files
pub record StandsSame (mid after : Outer) : Type 0 where
  pub told : after.told ≡ mid.told
  pub written : after.written ≡ mid.written
  pub left : after.left ≡ mid.left
  pub steps : after.steps ≡ mid.steps
  pub out_faults : after.out_faults ≡ mid.out_faults
  pub feed_faults : after.feed_faults ≡ mid.feed_faults
  pub out_rest : after.out_rest ≡ mid.out_rest

-- ---- what stood before stands after

module _ (before mid after : Outer) (same : StandsSame mid after) where
  leaves_on : (file : Option (List ℕ)) (output : Output) → Leaves file before mid output → Leaves file before after output
  leaves_on file output left = record {
    content = subst (λ (told : Option Files). LeavesFile file before.told told output.content) (sym same.told) left.content;
    text = subst (λ (written : Option (List ℕ)). Appends before.written written output.text) (sym same.written) left.text;
    steps = same.steps ∙ left.steps;
  }

  does_on : (m : Meaning) → Does m before mid → Does m before after
  does_on m does = record {
    inputs = does.inputs;
    input = does.input;
    output = does.output;
    accepted = does.accepted;
    had = does.had;
    exact = does.exact;
    left = leaves_on m.file does.output does.left;
  }

  untouched_on : (m : Meaning) (name : List ℕ) → m.file ≡ Some name → Untouched m before mid → Untouched m before after
  untouched_on m name file untouched = record {
    no_files = λ none no_file. (let bad : Some name ≡ None = sym file ∙ no_file in cc);
    no_output = λ none. (same.written ∙ (untouched.no_output none).0, same.out_faults ∙ (untouched.no_output none).1);
    no_feed = λ none. (same.left ∙ (untouched.no_feed none).0, same.feed_faults ∙ (untouched.no_feed none).1);
    rest = same.out_rest ∙ untouched.rest;
  }

-- ---- a whole output is a part of it

whole_front : (name : List ℕ) (old new : Option Files) (content : List ℕ) → Sets old new name content → LeavesFront (Some name) old new content
whole_front name old new content sets = inr (length content, subst (λ (part : List ℕ). Sets old new name part) (sym (take_all (length content) content (omega arith))) sets)

whole_prefix : (old new : Option (List ℕ)) (text : List ℕ) → Appends old new text → AppendsPrefix old new text
whole_prefix old new text put = (length text, subst (λ (part : List ℕ). Appends old new part) (sym (take_all (length text) text (omega arith))) put)

module _ (name : List ℕ) (before after : Outer) (output : Output) (left : Leaves (Some name) before after output) where
  file_part : after.written ≡ before.written → FilePart name output before after
  file_part written = record {
    content = whole_front name before.told after.told output.content left.content;
    written = written;
    steps = counted before after output.steps left.steps;
  }

  then_part : FileThenPart name output before after
  then_part = record {
    content = left.content;
    text = whole_prefix before.written after.written output.text left.text;
    steps = counted before after output.steps left.steps;
  }

  part_of_each : PartOfEach name output before after
  part_of_each = record {
    content = whole_front name before.told after.told output.content left.content;
    text = whole_prefix before.written after.written output.text left.text;
    steps = counted before after output.steps left.steps;
  }

whole_stands : (command : CommandData) (name : List ℕ) (before after : Outer) → (meaning_of command).file ≡ Some name → Untouched (meaning_of command) before after → Does (meaning_of command) before after
    → Over (meaning_of command) (meaning_of command).AtWriteFault before after
whole_stands (Rewrite from to) name before after file untouched does = record {
  inputs = does.inputs;
  accepted = does.accepted;
  stands = subst (λ (output : Output). FilePart to output before after) does.exact (file_part to before after does.output does.left (untouched.no_output refl).0);
}
whole_stands (Export index ciff) name before after file untouched does = record {
  inputs = does.inputs;
  accepted = does.accepted;
  stands = subst (λ (output : Output). FilePart ciff output before after) does.exact (file_part ciff before after does.output does.left (untouched.no_output refl).0);
}
whole_stands (Import ciff index rule bits) name before after file untouched does = record {
  inputs = does.inputs;
  accepted = does.accepted;
  stands = inr (subst (λ (output : Output). FileThenPart index output before after) does.exact (then_part index before after does.output does.left));
}
whole_stands (Migrate from to) name before after file untouched does = record {
  inputs = does.inputs;
  accepted = does.accepted;
  stands = inr (subst (λ (output : Output). FileThenPart to output before after) does.exact (then_part to before after does.output does.left));
}
whole_stands (Search index queries run k limits tag mode until) name before after file untouched does = record {
  inputs = does.inputs;
  accepted = does.accepted;
  stands = record { output = does.output; exact = does.exact; stands = part_of_each run before after does.output does.left };
}
whole_stands (Shards indexes queries run k limits tag mode) name before after file untouched does = record {
  inputs = does.inputs;
  accepted = does.accepted;
  stands = record { output = does.output; exact = does.exact; stands = part_of_each run before after does.output does.left };
}
whole_stands (Exhaust index queries run k tag mode) name before after file untouched does = record {
  inputs = does.inputs;
  accepted = does.accepted;
  stands = record { output = does.output; exact = does.exact; stands = part_of_each run before after does.output does.left };
}
whole_stands (Once ciff k budget terms) name before after file untouched does = cc
whole_stands (Check index) name before after file untouched does = cc
whole_stands (Audit index queries run reports k limits tag mode) name before after file untouched does = cc
whole_stands (Serve index frames) name before after file untouched does = cc
whole_stands (Trial seed docs terms queries) name before after file untouched does = cc
whole_stands Help name before after file untouched does = cc
whole_stands Version name before after file untouched does = cc

-- ---- how the command ran

module _ (command : CommandData) (name : List ℕ) (before mid after : Outer) (file : (meaning_of command).file ≡ Some name) (same : StandsSame mid after) (ran : Runs (meaning_of command) before mid (Ok tt)) where
  pub untouched_after : Untouched (meaning_of command) before after
  untouched_after = untouched_on before mid after same (meaning_of command) name file ran.untouched

  pub taken_after : (meaning_of command).feeds ≡ true → TakesFront before.left after.left
  taken_after feeds = subst (λ (left : Option (List ℕ)). TakesFront before.left left) (sym same.left) (ran.taken feeds)

  pub finished : Runs (meaning_of command) before after (Ok tt)
  finished = record { came = does_on before mid after same (meaning_of command) ran.came; untouched = untouched_after; taken = taken_after }

  pub unwritten : before.write_faults ≤ mid.write_faults → Rose mid.write_faults after.write_faults → WriteFailed (meaning_of command) before after name × Over (meaning_of command) (meaning_of command).AtWriteFault before after
  unwritten later rose = (
    inr (file, Rose-earlier before.write_faults mid.write_faults after.write_faults later rose),
    whole_stands command name before after file untouched_after (does_on before mid after same (meaning_of command) ran.came),
  )
