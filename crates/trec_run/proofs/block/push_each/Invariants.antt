use Rattle.std.proofs.Common.{◌≡◌, ℕ, List, ◌+◌, ◌*◌, ◌≤◌, ◌++◌, length, map, drop}
use Rattle.ranking_model.specs.Report.{run_lines}
use Rattle.trec_run.specs.Private.Columns.{IsFrame, names_of}
use Rattle.trec_run.proofs.block.push_each.Given as goal

abbrev pub invariant-loop-i : goal.invariant-loop-i
invariant-loop-i l = record {
  few : length l.buffer ≤ length l.fn.buffer + l.i * 1024;
  short : length l.frame.tail ≤ 53;
  frame : (id tag : List ℕ) → IsFrame l.fn.frame id tag → IsFrame l.frame id tag;
  left : (all : List (List ℕ)) (id tag : List ℕ) → map (λ name. name.now) l.names ≡ names_of all l.hits → IsFrame l.fn.frame id tag
      → l.fn.buffer ++ run_lines all id tag l.fn.first l.hits ≡ l.buffer ++ run_lines all id tag (l.first + l.i) (drop l.i l.hits);
}
