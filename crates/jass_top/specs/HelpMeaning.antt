-- What `--help` means: the commands, the statuses and the documents, on the output.
use Rattle.std.specs.Prelude.{List, ℕ, [], ◌∷◌, ◌++◌, codes}
use Rattle.std.specs.List.{flat_map}
use Rattle.jass_words.specs.Table.{all_names, word_of, form_of, does_of}
use Rattle.jass_words.specs.declared.names.Name.{Name}
use Rattle.jass_top.specs.Meanings.{Meaning}
use Rattle.jass_top.specs.TextMeaning.{text_meaning}

-- the words behind a command's first one, where there are some
abbrev pub form_text : List ℕ → List ℕ
form_text [] = []
form_text (b ∷ form) = codes " " ++ b ∷ form

-- a line with the words of a command, and one with what it does
abbrev pub row_text : Name → List ℕ
row_text name = word_of name ++ (form_text (form_of name) ++ (codes "\n    " ++ (does_of name ++ codes "\n")))

abbrev pub commands_text : List ℕ
commands_text = codes "commands, with * behind the file that is written:\n" ++ flat_map row_text all_names

abbrev pub statuses_text : List ℕ
statuses_text =
    codes "\nstatuses:\n"
    ++ (codes "0  done\n"
    ++ (codes "1  no memory\n"
    ++ (codes "2  the words are no command\n"
    ++ (codes "3  an input is refused\n"
    ++ (codes "4  an input could not be read, or is missing\n"
    ++ (codes "5  an output could not be written\n"
    ++ (codes "6  2^30 bytes of the input were taken, and no line was end\n"
    ++ codes "\ndocuments: README.md, docs/\n")))))))

abbrev pub help_text : List ℕ
help_text = commands_text ++ statuses_text

abbrev pub help_meaning : Meaning
help_meaning = text_meaning help_text
