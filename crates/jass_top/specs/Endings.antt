-- How a run ends, by its status: what stands, what is noted, and why.
use Rattle.std.specs.Prelude.{◌≡◌, ◌≢◌, ℕ, List, [], None, true, false, codes, ◌⊎◌}
use Rattle.std.specs.Io.KnownBytes.{Appends}
use Rattle.jass_base.specs.Outside.{Rose}
use Rattle.jass_base.specs.Writing.{AppendsPrefix}
use Rattle.jass_words.specs.Words.{CommandData, IsBadWord, IsCommand}
use Rattle.jass_top.specs.declared.stop.Place.{Place}
use Rattle.jass_top.specs.declared.status.Status.{Status}
use Rattle.jass_top.specs.declared.status.Status.TheVariants as status
use Rattle.jass_top.specs.Judging.{Accepted, Refuses, Shows}
use Rattle.jass_top.specs.Meanings.{Meaning, Output}
use Rattle.jass_top.specs.Standing.{IsInput, Keeps, Leaves, TakesFront}
use Rattle.jass_top.specs.Causes.{IsOneOf, ReadFailed, WriteFailed}
use Rattle.jass_top.specs.Stops.{memory_text, word_text, refusal_text, read_fault_text, write_fault_text, limit_text}
use Rattle.jass_top.specs.Worlds.{Outer, World}

-- ---- what stands

-- the whole output of inputs that were accepted, and of the bytes of the feed
pub record Does (m : Meaning) (before after : Outer) : Type 0 where
  pub inputs : m.Inputs
  pub input : List ℕ
  pub output : Output
  pub accepted : Shows (m.judge before.told) (Accepted inputs)
  pub had : m.feeds ≡ true → IsInput before.left input
  pub exact : m.IsOutput inputs input output
  pub left : Leaves m.file before after output

-- P stands over inputs that were accepted
pub record Over (m : Meaning) (P : m.Inputs → Outer → Outer → Type 0) (before after : Outer) : Type 0 where
  pub inputs : m.Inputs
  pub accepted : Shows (m.judge before.told) (Accepted inputs)
  pub stands : P inputs before after

-- what a command doesn't take isn't touched: the files of one that has none, the output of one that doesn't print, the feed
-- of one that takes no lines, and ever what no put on the output changes
pub record Untouched (m : Meaning) (before after : Outer) : Type 0 where
  pub no_files : m.files ≡ [] → m.file ≡ None → (after.told ≡ before.told)
      × (after.read_faults ≡ before.read_faults) × (after.write_faults ≡ before.write_faults)
  pub no_output : m.prints ≡ false → (after.written ≡ before.written) × (after.out_faults ≡ before.out_faults)
  pub no_feed : m.feeds ≡ false → (after.left ≡ before.left) × (after.feed_faults ≡ before.feed_faults)
  pub rest : after.out_rest ≡ before.out_rest

-- ---- the endings

-- a note was put, or a prefix of it after a counted fault of the notes
abbrev pub Noted : World → World → List ℕ → Type 0
Noted before after text =
    Appends before.noted after.noted text
    ⊎ (Rose before.note_faults after.note_faults × AppendsPrefix before.noted after.noted text)

-- all was left, and nothing noted
pub record EndsDone (m : Meaning) (before after : World) : Type 0 where
  pub does : Does m before.outer after.outer
  pub quiet : after.noted ≡ before.noted
  pub note_faults : after.note_faults ≡ before.note_faults

-- memory was refused
pub record EndsForMemory (m : Meaning) (before after : World) : Type 0 where
  pub noted : Noted before after memory_text
  pub stands : Keeps before.outer after.outer ⊎ Over m m.AtMemory before.outer after.outer

-- an input is refused: nothing was left, and the first refusal is noted
pub record EndsRefused (m : Meaning) (before after : World) : Type 0 where
  pub name : List ℕ
  pub number : ℕ
  pub at : Place
  pub input : IsOneOf m.reads name
  pub first : Shows (m.judge before.outer.told) (Refuses name number at)
  pub noted : Noted before after (refusal_text name number at)
  pub kept : Keeps before.outer after.outer

-- an input that is a file couldn't be read, or is missing
pub record FileUnread (m : Meaning) (before after : World) : Type 0 where
  pub name : List ℕ
  pub input : IsOneOf m.files name
  pub cause : ReadFailed (m.judge before.outer.told) before.outer.read_faults after.outer.read_faults name
  pub noted : Noted before after (read_fault_text name)
  pub stands : Keeps before.outer after.outer ⊎ Over m m.AtReadFault before.outer after.outer

-- the feed couldn't be read
pub record FeedUnread (m : Meaning) (before after : World) : Type 0 where
  pub feeds : m.feeds ≡ true
  pub cause : Rose before.outer.feed_faults after.outer.feed_faults
  pub noted : Noted before after (read_fault_text (codes "input"))
  pub stands : Over m m.AtFeedFault before.outer after.outer

-- the output, or the file, couldn't be written
pub record EndsUnwritten (m : Meaning) (before after : World) : Type 0 where
  pub name : List ℕ
  pub cause : WriteFailed m before.outer after.outer name
  pub noted : Noted before after (write_fault_text name)
  pub stands : Over m m.AtWriteFault before.outer after.outer

-- the feed was too long
pub record EndsLimited (m : Meaning) (before after : World) : Type 0 where
  pub noted : Noted before after limit_text
  pub stands : Over m m.AtLimit before.outer after.outer

-- how a run of a command ends
pub record Ends (m : Meaning) (before after : World) (result : Status) : Type 0 where
  pub done : result ≡ status.Done → EndsDone m before after
  pub memory : result ≡ status.NoMemory → EndsForMemory m before after
  pub refused : result ≡ status.Refused → EndsRefused m before after
  pub read : result ≡ status.ReadFault → FileUnread m before after ⊎ FeedUnread m before after
  pub write : result ≡ status.WriteFault → EndsUnwritten m before after
  pub limit : result ≡ status.InputLimit → EndsLimited m before after
  pub words : result ≢ status.Words
  pub untouched : Untouched m before.outer after.outer
  pub taken : m.feeds ≡ true → TakesFront before.outer.left after.outer.left
  pub note_rest : after.note_rest ≡ before.note_rest

-- some command has these words
abbrev pub AreSome : List (List ℕ) → Type 0
AreSome words = (command : CommandData) × IsCommand words command

-- how a run ends whose words are no command: nothing was touched, and the first bad word is noted
pub record EndsAtWords (words : List (List ℕ)) (before after : World) : Type 0 where
  pub which : ℕ
  pub bad : IsBadWord words which
  pub noted : Noted before after (word_text which)
  pub kept : after.outer ≡ before.outer
  pub note_rest : after.note_rest ≡ before.note_rest
