-- What `--version` means: the program's name and version, on the output.
use Rattle.std.specs.Prelude.{List, ℕ, codes}
use Rattle.jass_top.specs.Meanings.{Meaning}
use Rattle.jass_top.specs.TextMeaning.{text_meaning}

abbrev pub version_text : List ℕ
version_text = codes "jass 0.1.0\n"

abbrev pub version_meaning : Meaning
version_meaning = text_meaning version_text
