-- Why a command stops, and how it runs.
use Rattle.std.specs.Prelude.{ℕ, List, ◌≡◌, true, codes, Result, Ok, Err, ◌⊎◌, ⊤}
use Rattle.jass_base.specs.Outside.{Rose}
use Rattle.jass_top.specs.declared.stop.Stop.{Stop}
use Rattle.jass_top.specs.declared.stop.Stop.TheVariants.{NoMemory, Refused, ReadFault, WriteFault, InputLimit}
use Rattle.jass_top.specs.Judging.{Judged, Refuses, Shows}
use Rattle.jass_top.specs.Meanings.{Meaning}
use Rattle.jass_top.specs.Endings.{Does, Over, Untouched}
use Rattle.jass_top.specs.Standing.{Keeps, TakesFront}
use Rattle.jass_top.specs.Worlds.{Outer}
use Rattle.jass_top.specs.Causes.{IsOneOf, WriteFailed, ReadFailed}

-- why inputs of these names weren't had
abbrev pub Unread : {A : Type 0} → List (List ℕ) → Judged A → ℕ → ℕ → Stop → Type 0
Unread reads judged before after NoMemory = ⊤
Unread reads judged before after (Refused name number at) =
    IsOneOf reads name.now × Shows judged (Refuses name.now number at)
Unread reads judged before after (ReadFault name) = IsOneOf reads name.now × ReadFailed judged before after name.now
Unread reads judged before after (WriteFault name) = ⊥
Unread reads judged before after InputLimit = ⊥

-- why an index isn't held in memory as the index file of an input of these names: nothing is read
abbrev pub Unheld : {A : Type 0} → List (List ℕ) → Judged A → Stop → Type 0
Unheld reads judged NoMemory = ⊤
Unheld reads judged (Refused name number at) =
    IsOneOf reads name.now × Shows judged (Refuses name.now number at)
Unheld reads judged (ReadFault name) = ⊥
Unheld reads judged (WriteFault name) = ⊥
Unheld reads judged InputLimit = ⊥

-- why a file wasn't read, and what then stands
pub record UnreadFile (m : Meaning) (before after : Outer) (name : List ℕ) : Type 0 where
  pub input : IsOneOf m.files name
  pub cause : ReadFailed (m.judge before.told) before.read_faults after.read_faults name
  pub stands : Keeps before after ⊎ Over m m.AtReadFault before after

-- why the feed wasn't read, and what then stands
pub record UnreadFeed (m : Meaning) (before after : Outer) (name : List ℕ) : Type 0 where
  pub feeds : m.feeds ≡ true
  pub named : name ≡ codes "input"
  pub cause : Rose before.feed_faults after.feed_faults
  pub stands : Over m m.AtFeedFault before after

-- why a command stopped, and what then stands
abbrev pub Stopped : Meaning → Outer → Outer → Stop → Type 0
Stopped m before after NoMemory = Keeps before after ⊎ Over m m.AtMemory before after
Stopped m before after (Refused name number at) =
    IsOneOf m.reads name.now × Shows (m.judge before.told) (Refuses name.now number at) × Keeps before after
Stopped m before after (ReadFault name) = UnreadFile m before after name.now ⊎ UnreadFeed m before after name.now
Stopped m before after (WriteFault name) = WriteFailed m before after name.now × Over m m.AtWriteFault before after
Stopped m before after InputLimit = Over m m.AtLimit before after

-- how a command came to its end
abbrev pub Came : Meaning → Outer → Outer → Result (Unit {0}) Stop → Type 0
Came m before after (Ok x) = Does m before after
Came m before after (Err stop) = Stopped m before after stop

-- how a command ran
pub record Runs (m : Meaning) (before after : Outer) (result : Result (Unit {0}) Stop) : Type 0 where
  pub came : Came m before after result
  pub untouched : Untouched m before after
  pub taken : m.feeds ≡ true → TakesFront before.left after.left
