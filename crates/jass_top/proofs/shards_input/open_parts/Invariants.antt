use Rattle.std.proofs.Common.{◌≡◌, ◌≤◌, take, length}
use Rattle.shard_search.specs.Sums.{indexes_of}
use Rattle.jass_words.specs.Words.{texts}
use Rattle.jass_top.specs.ShardsMeaning.{judge_parts}
use Rattle.jass_top.specs.Private.Inputs.{HasInput}
use Rattle.jass_top.proofs.shards_input.open_parts.Given as goal

abbrev pub invariant-names : goal.invariant-names
invariant-names g l = record {
  count : length l.parts ≡ l.name-index;
  had : HasInput (judge_parts (take l.name-index (texts l.names)) (g.C.Cabinet.told l.fn.files)) (λ indexes. indexes ≡ indexes_of l.parts);
  stays : g.C.Cabinet.told l.files ≡ g.C.Cabinet.told l.fn.files;
  later : g.C.Cabinet.read_faults l.fn.files ≤ g.C.Cabinet.read_faults l.files;
  others : g.C.Cabinet.write_faults l.fn.files ≤ g.C.Cabinet.write_faults l.files;
}
