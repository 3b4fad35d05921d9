-- The length of a message, and the message, as a window reads them of a content.
use Rattle.std.specs.Prelude.{ℕ, ◌≡◌, ◌<◌, ◌≤◌, ◌+◌, ◌-◌, List, length, drop, Result, Ok, Err, Option, slice_range}
use Rattle.jass_base.specs.declared.limits.TheConstants.{LONGEST_FILE}
use Rattle.jass_base.specs.Outside.{Files, ForContent}
use Rattle.wire_fields.specs.Reading.{varint_at}
use Rattle.ciff_read.specs.declared.body.Body.{Body}
use Rattle.ciff_read.specs.declared.refusal.CiffFault.{CiffFault}
use Rattle.whole_files.specs.declared.window.Window.{Window}
use Rattle.ciff_read.specs.Reading.{Message, message_at}
use Rattle.ciff_read.specs.Private.Places.{message_in}
use Rattle.whole_files.specs.Windows.{IsAt, Shows}
use Rattle.ciff_read.specs.Reaching.{FailsReading}

-- the length of the message at a place, and the place behind it
abbrev pub ReadsSize : List ℕ → ℕ → Result (ℕ × ℕ) CiffFault → Type 0
ReadsSize content at (Ok x) = (varint_at (drop at content) ≡ Ok (x.0, drop x.1 content)) × (x.1 ≤ length content)
ReadsSize content at (Err fault) = FailsReading fault (message_at at (drop at content))

-- the message of a content whose body lies between two places of the window
abbrev pub message_shown : List ℕ → Window → ℕ → ℕ → Message
message_shown content w from end = record { from = w.start + from; body = slice_range w.bytes.items from end; rest = drop (w.start + end) content }

-- that is the message at a place
abbrev pub HoldsMessage : List ℕ → ℕ → Window → ℕ → ℕ → Type 0
HoldsMessage content at w from end = (message_at at (drop at content) ≡ Ok (message_shown content w from end)) × (w.start + end ≤ length content)

-- the message at a place is read
abbrev pub ReachesMessage : List ℕ → ℕ → Window → Result Body CiffFault → Type 0
ReachesMessage content at w (Ok body) = HoldsMessage content at w body.from body.end
ReachesMessage content at w (Err fault) = FailsReading fault (message_at at (drop at content))

-- a message's body in the window, where the message stands at a place of the file and ends near enough
pub record IsBodyAt (at : ℕ) (w : Window) (body : Body) : Type 0 where
  pub within : body.end ≤ length w.bytes.items
  pub front : w.start ≤ at
  pub behind : at < w.start + body.end
  pub near : w.start + body.end ≤ LONGEST_FILE

-- the same of each content that is told and that the window before showed
abbrev pub SizeTold : Option Files → List ℕ → ℕ → Window → Result (ℕ × ℕ) CiffFault → Type 0
SizeTold files name at old result = ForContent files name (λ content. Shows content old → ReadsSize content at result)

abbrev pub MessageTold : Option Files → List ℕ → ℕ → Window → Window → Result Body CiffFault → Type 0
MessageTold files name at old new result = ForContent files name (λ content. Shows content old → ReachesMessage content at new result)

-- the length of the message at a place, as the bytes that are held say it
pub record HoldsSize (at : ℕ) (w : Window) (x : ℕ × ℕ) : Type 0 where
  pub is_at : IsAt at w
  pub read : varint_at (drop (at - w.start) w.bytes.items) ≡ Ok (x.0, drop (x.1 - w.start) w.bytes.items)
  pub within : x.1 ≤ w.start + length w.bytes.items

-- the message at a place, as the bytes that are held have it
abbrev pub HoldsBody : ℕ → Window → Body → Type 0
HoldsBody at w body = message_at (at - w.start) (drop (at - w.start) w.bytes.items) ≡ Ok (message_in w.bytes.items body)
