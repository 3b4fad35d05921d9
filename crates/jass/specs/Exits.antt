-- How the program ends.
use Rattle.std.specs.Prelude.{◌≡◌, ◌≢◌, ℕ, List, Option, ◌⊎◌}
use Rattle.jass_words.specs.Words.{CommandData, IsCommand}
use Rattle.jass_top.specs.declared.status.Status.{Status}
use Rattle.jass_top.specs.declared.status.Status.TheVariants as status
use Rattle.jass_top.specs.Commands.{meaning_of}
use Rattle.jass_top.specs.Endings.{AreSome, Ends, EndsAtWords, Noted}
use Rattle.jass_top.specs.Stops.{exit_number, memory_text}
use Rattle.jass_top.specs.Worlds.{World}
use Rattle.jass.specs.CommandLine.{AreWords}

-- the words of the arguments were run, and the exit status is the number of the status that this ended with
pub record Ran (arguments : Option (List (List ℕ))) (before after : World) (exit : ℕ) : Type 0 where
  pub words : List (List ℕ)
  pub ended : Status
  pub line : AreWords arguments words
  pub number : exit ≡ exit_number ended
  pub command : ended ≢ status.Words → AreSome words
  pub bad : ended ≡ status.Words → EndsAtWords words before after
  pub ends : (command : CommandData) → IsCommand words command → Ends (meaning_of command) before after ended

-- there was no memory for the words: nothing was touched, and that is noted
pub record HadNoRoom (before after : World) (exit : ℕ) : Type 0 where
  pub number : exit ≡ exit_number status.NoMemory
  pub noted : Noted before after memory_text
  pub kept : after.outer ≡ before.outer
  pub note_rest : after.note_rest ≡ before.note_rest

abbrev pub Exits : Option (List (List ℕ)) → World → World → ℕ → Type 0
Exits arguments before after exit = Ran arguments before after exit ⊎ HadNoRoom before after exit

-- an exit of some run, of which nothing else is told
pub record EndsRun (exit : ℕ) : Type 0 where
  pub arguments : Option (List (List ℕ))
  pub before : World
  pub after : World
  pub exits : Exits arguments before after exit
