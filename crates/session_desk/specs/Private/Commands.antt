-- A command as plain data.
use Rattle.std.specs.Prelude.{ℕ, ◌≤◌, ⊤, List, length, Option, Some, None}
use Rattle.std.specs.Borrow.{Bor}
use Rattle.query_reader.specs.Texts.{blank_runs}
use Rattle.session_desk.specs.declared.command.Command.{Command}
use Rattle.session_desk.specs.declared.command.Command.TheVariants as commands
use Rattle.session_desk.specs.Lines.{DeskCommand, Open, Grant, Top, Why, Close, End}
use Rattle.jass_base.specs.declared.limits.TheConstants.{LONGEST_LINE, MOST_HITS}

abbrev pub name_data : Bor (List ℕ) → List ℕ
name_data name = name.now

abbrev pub command_data : Command → DeskCommand
command_data (commands.Open name k mentions) = Open name.now k (blank_runs mentions.now)
command_data (commands.Grant name budget) = Grant name.now budget
command_data (commands.Top name) = Top name.now
command_data (commands.Why name) = Why name.now
command_data (commands.Close name) = Close name.now
command_data commands.End = End

-- k is in its range, and mentions are no longer than a line
abbrev pub Fits : Command → Type 0
Fits (commands.Open name k mentions) = (1 ≤ k) × (k ≤ MOST_HITS) × (length mentions.now ≤ LONGEST_LINE)
Fits (commands.Grant name budget) = ⊤
Fits (commands.Top name) = ⊤
Fits (commands.Why name) = ⊤
Fits (commands.Close name) = ⊤
Fits commands.End = ⊤

abbrev pub FitsLine : Option Command → Type 0
FitsLine None = ⊤
FitsLine (Some command) = Fits command
