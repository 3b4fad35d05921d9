-- What a command means that prints a fixed text.
use Rattle.std.specs.Prelude.{◌≡◌, List, ℕ, [], ⊤}
use Rattle.jass_top.specs.Judging.{Accepted}
use Rattle.jass_top.specs.Meanings.{Output, Meaning, reading_meaning}
use Rattle.jass_top.specs.Standing.{TextPart}

abbrev pub text_output : List ℕ → Output
text_output text = record { content = []; text = text; steps = 0 }

abbrev pub text_meaning : List ℕ → Meaning
text_meaning text = reading_meaning {A = ⊤} [] (λ told. Accepted tt) (λ none output. output ≡ text_output text)
    (λ none. TextPart (text_output text))
