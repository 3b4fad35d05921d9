-- What the functions on one line answer.
use Rattle.std.specs.Prelude.{ℕ, ◌≡◌, ⊤, Result, Ok, Err}
use Rattle.query_reader.specs.declared.refusal.QueryWhy.{QueryWhy}
use Rattle.query_reader.specs.declared.refusal.QueryFault.{QueryFault}
use Rattle.query_reader.specs.declared.refusal.QueryFault.TheVariants as faults
use Rattle.query_reader.specs.declared.refusal.LineFault.{LineFault}
use Rattle.query_reader.specs.declared.refusal.LineFault.TheVariants as line_faults

-- a fault of one line is the refusal that reading gives; want of memory may come instead
abbrev pub LineFails : {Y : Type 0} → LineFault → Result Y QueryWhy → Type 0
LineFails (line_faults.Refused why) read = read ≡ Err why
LineFails line_faults.NoMemory read = ⊤

-- what a function answers of one line, seen by view, is what reading gives
abbrev pub LineAnswers : {X Y : Type 0} → (X → Y) → Result X LineFault → Result Y QueryWhy → Type 0
LineAnswers view (Ok x) read = read ≡ Ok (view x)
LineAnswers view (Err fault) read = LineFails fault read

-- the fault of a line that has this number
abbrev pub fault_at : ℕ → LineFault → QueryFault
fault_at line (line_faults.Refused why) = faults.Refused (record { line = line; why = why })
fault_at line line_faults.NoMemory = faults.NoMemory
