-- What stands after a command: all of an output, a part of it, or nothing.
use Rattle.std.specs.Prelude.{◌≡◌, ◌≤◌, ◌+◌, ℕ, List, length, take, Option, Some, None, ◌⊎◌, ⊤}
use Rattle.std.specs.Io.KnownBytes.{Appends, Consumes}
use Rattle.jass_base.specs.Outside.{Files, Sets}
use Rattle.jass_base.specs.Writing.{AppendsPrefix}
use Rattle.jass_top.specs.Meanings.{Output}
use Rattle.jass_top.specs.Worlds.{Outer}
use Rattle.jass_words.specs.declared.word_limits.TheConstants.{MOST_TAKEN}

-- nothing was left, and nothing taken
pub record Keeps (before after : Outer) : Type 0 where
  pub told : after.told ≡ before.told
  pub written : after.written ≡ before.written
  pub left : after.left ≡ before.left
  pub steps : after.steps ≡ before.steps

-- ---- all of an output

-- the file has this content, and every other name stays
abbrev pub LeavesFile : Option (List ℕ) → Option Files → Option Files → List ℕ → Type 0
LeavesFile None old new content = new ≡ old
LeavesFile (Some name) old new content = Sets old new name content

pub record Leaves (file : Option (List ℕ)) (before after : Outer) (output : Output) : Type 0 where
  pub content : LeavesFile file before.told after.told output.content
  pub text : Appends before.written after.written output.text
  pub steps : after.steps ≡ before.steps + output.steps

-- ---- a part of it

-- the file is as before or there with a prefix of this content, and every other name stays
abbrev pub LeavesFront : Option (List ℕ) → Option Files → Option Files → List ℕ → Type 0
LeavesFront None old new content = new ≡ old
LeavesFront (Some name) old new content = (new ≡ old) ⊎ ((n : ℕ) × Sets old new name (take n content))

-- at most so many steps were counted
pub record CountsPart (before after : Outer) (most : ℕ) : Type 0 where
  pub never_less : before.steps ≤ after.steps
  pub at_most : after.steps ≤ before.steps + most

-- steps alone
pub record StepsAlone (output : Output) (before after : Outer) : Type 0 where
  pub told : after.told ≡ before.told
  pub written : after.written ≡ before.written
  pub steps : CountsPart before after output.steps

-- a prefix of the text, and no file
pub record TextPart (output : Output) (before after : Outer) : Type 0 where
  pub told : after.told ≡ before.told
  pub text : AppendsPrefix before.written after.written output.text
  pub steps : CountsPart before after output.steps

-- a prefix of the content, and nothing on the output
pub record FilePart (name : List ℕ) (output : Output) (before after : Outer) : Type 0 where
  pub content : LeavesFront (Some name) before.told after.told output.content
  pub written : after.written ≡ before.written
  pub steps : CountsPart before after output.steps

-- the whole content, and a prefix of the text
pub record FileThenPart (name : List ℕ) (output : Output) (before after : Outer) : Type 0 where
  pub content : Sets before.told after.told name output.content
  pub text : AppendsPrefix before.written after.written output.text
  pub steps : CountsPart before after output.steps

-- a prefix of the content, and one of the text
pub record PartOfEach (name : List ℕ) (output : Output) (before after : Outer) : Type 0 where
  pub content : LeavesFront (Some name) before.told after.told output.content
  pub text : AppendsPrefix before.written after.written output.text
  pub steps : CountsPart before after output.steps

-- P stands of an output for the inputs
pub record OfOutput {A : Type 0} (IsOutput : A → Output → Type 0) (P : Output → Outer → Outer → Type 0) (inputs : A)
    (before after : Outer) : Type 0 where
  pub output : Output
  pub exact : IsOutput inputs output
  pub stands : P output before after

-- ---- the feed

-- these may be the bytes of the feed: they are those that it had, where it tells them
abbrev pub IsInput : Option (List ℕ) → List ℕ → Type 0
IsInput None input = ⊤
IsInput (Some bytes) input = input ≡ bytes

-- at most 2^30 bytes were taken off the front of the feed
abbrev pub TakesFront : Option (List ℕ) → Option (List ℕ) → Type 0
TakesFront left rest = (taken : List ℕ) × Consumes left rest taken × (length taken ≤ MOST_TAKEN)
