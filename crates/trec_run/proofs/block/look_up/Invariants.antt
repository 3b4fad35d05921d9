use Rattle.std.proofs.Common.{◌≡◌, ◌≤◌, All, length, map, take}
use Rattle.trec_run.specs.Private.Columns.{names_of}
use Rattle.trec_run.proofs.block.look_up.Given as goal

abbrev pub invariant-loop-i : goal.invariant-loop-i
invariant-loop-i g l = record {
  places : length l.names ≡ length l.hits;
  names : map (λ name. name.now) (take l.i l.names) ≡ names_of (g.N.Names.names l.index) (take l.i l.hits);
  longest : All (λ name. length name.now ≤ l.longest) (take l.i l.names);
}
