use Rattle.std.proofs.Common.{◌≡◌, ◌++◌, ◌≤◌, ◌+◌, ◌-◌, All, length}
use Rattle.std.specs.Vec.{vec_len, vec_capacity}
use Rattle.index_file.specs.Parts.{heads_from}
use Rattle.index_file.specs.Private.HeadWords.{IsWord, all_told, heads_of_words}
use Rattle.index_file.proofs.head_table.append_words.Given as goal

abbrev pub invariant-heads : goal.invariant-heads
invariant-heads l = record {
  heads : heads_of_words (all_told l.aside) l.words.items ≡ heads_of_words (all_told l.fn.aside) l.fn.words.items ++ heads_from l.bytes l.i l.from;
  words : All (IsWord (length l.aside)) l.words.items;
  room : vec_len l.words + (l.count - l.i) ≤ vec_capacity l.words;
}
