-- A part of a content that is held in memory: how far it reaches, and what moving it keeps.
use Rattle.std.specs.Prelude.{ℕ, ◌≡◌, ◌≤◌, ◌+◌, ◌-◌, List, length, take, drop, ◌⊎◌, Option}
use Rattle.jass_base.specs.Outside.{Files, ForContent}
use Rattle.whole_files.specs.declared.window.Window.{Window}

-- the bytes are those of a content from a place on
pub record AreFrom (content : List ℕ) (start : ℕ) (bytes : List ℕ) : Type 0 where
  pub front : bytes ≡ take (length bytes) (drop start content)
  pub within : length bytes ≤ length (drop start content)

-- a window holds bytes of a content from its start on
abbrev pub Shows : List ℕ → Window → Type 0
Shows content w = AreFrom content w.start w.bytes.items

-- a place lies among the bytes, or behind the last one
pub record IsAt (at : ℕ) (w : Window) : Type 0 where
  pub not_before : w.start ≤ at
  pub not_behind : at ≤ w.start + length w.bytes.items

-- so many bytes from a place on are there, or all up to the end of the content
abbrev pub Reaches : List ℕ → Window → ℕ → ℕ → Type 0
Reaches content w at count = (at + count ≤ w.start + length w.bytes.items) ⊎ (length content ≤ w.start + length w.bytes.items)

-- what a call that moves the window keeps: what it shows is still shown
abbrev pub StaysShown : Option Files → List ℕ → Window → Window → Type 0
StaysShown files name old new = ForContent files name (λ content. Shows content old → Shows content new)

-- what a call that succeeds gives beside that
abbrev pub ReachesTold : Option Files → List ℕ → Window → Window → ℕ → ℕ → Type 0
ReachesTold files name old new at count = ForContent files name (λ content. Shows content old → Reaches content new at count)

-- the bytes that were held from a place on are those that are held from there now, with more behind them or none
abbrev pub KeepsFrom : ℕ → Window → Window → Type 0
KeepsFrom at old new = IsAt at old → AreFrom new.bytes.items (at - new.start) (drop (at - old.start) old.bytes.items)
