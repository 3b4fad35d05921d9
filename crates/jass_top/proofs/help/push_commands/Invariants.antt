use Rattle.std.proofs.Common.{◌≡◌, ◌≤◌, ◌+◌, ◌*◌, ◌++◌, codes, length, take}
use Rattle.std.specs.List.{flat_map}
use Rattle.jass_words.specs.Table.{all_names}
use Rattle.jass_top.specs.HelpMeaning.{row_text}
use Rattle.jass_top.proofs.help.push_commands.Given as goal

abbrev pub invariant-loop-name : goal.invariant-loop-name
invariant-loop-name l = record {
  rows : l.text ≡ codes "commands, with * behind the file that is written:\n" ++ flat_map row_text (take l.name-index all_names);
  few : length l.text ≤ 50 + 1100 * l.name-index;
}
