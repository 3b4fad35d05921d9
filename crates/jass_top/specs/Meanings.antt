-- What a command means.
use Rattle.std.specs.Prelude.{◌≡◌, ℕ, Bool, true, false, List, Option, None}
use Rattle.jass_base.specs.Outside.{Files}
use Rattle.jass_top.specs.Judging.{Judged}
use Rattle.jass_top.specs.Worlds.{Outer}

-- what a command that is done leaves: the content of the file that it writes, what it put on the output, and its steps
pub record Output : Type 0 where
  pub content : List ℕ
  pub text : List ℕ
  pub steps : ℕ

-- what a command means
pub record Meaning : Type 1 where
  -- the names of its inputs in the order of the words, those of them that are files, what they stand for, and how they
  -- are judged
  pub reads : List (List ℕ)
  pub files : List (List ℕ)
  pub Inputs : Type 0
  pub judge : Option Files → Judged Inputs
  -- the file that it writes, whether it prints, and whether it takes lines from the feed
  pub file : Option (List ℕ)
  pub prints : Bool
  pub feeds : Bool
  -- an output for the inputs and the bytes of the feed
  pub IsOutput : Inputs → List ℕ → Output → Type 0
  -- what may stand, beside nothing, where memory was refused, and where a file couldn't be read
  pub AtMemory : Inputs → Outer → Outer → Type 0
  pub AtReadFault : Inputs → Outer → Outer → Type 0
  -- what stands where the feed couldn't be read, where the output or the file couldn't be written, and where the feed was
  -- too long
  pub AtFeedFault : Inputs → Outer → Outer → Type 0
  pub AtWriteFault : Inputs → Outer → Outer → Type 0
  pub AtLimit : Inputs → Outer → Outer → Type 0

-- it doesn't stop so, or leaves nothing then
abbrev pub Never : {A : Type 0} → A → Outer → Outer → Type 0
Never inputs before after = ⊥

-- a command that reads files of these names and prints, takes nothing from the feed, and leaves something where it stops
-- only after a write fault
abbrev pub reading_meaning : {A : Type 0} → List (List ℕ) → (Option Files → Judged A) → (A → Output → Type 0)
    → (A → Outer → Outer → Type 0) → Meaning
reading_meaning {A = A} names judge IsOutput AtWriteFault = record {
  reads = names;
  files = names;
  Inputs = A;
  judge = judge;
  file = None;
  prints = true;
  feeds = false;
  IsOutput = λ inputs input output. IsOutput inputs output;
  AtMemory = Never;
  AtReadFault = Never;
  AtFeedFault = Never;
  AtWriteFault = AtWriteFault;
  AtLimit = Never;
}

-- a command has one output for its inputs and the bytes of the feed, but for its steps
abbrev pub HasOneOutput : Meaning → Type 0
HasOneOutput m = (inputs : m.Inputs) (input : List ℕ) (one other : Output) → m.IsOutput inputs input one
    → m.IsOutput inputs input other → (one.content ≡ other.content) × (one.text ≡ other.text)
