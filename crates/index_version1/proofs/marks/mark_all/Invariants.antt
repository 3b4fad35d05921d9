use Rattle.std.proofs.Common.{ℕ, ◌≤◌, ◌++◌, List, take, All}
use Rattle.index_version1.specs.Private.Tables.{Marks}
use Rattle.index_version1.proofs.marks.mark_all.Given as goal

abbrev pub invariant-loop-doc : goal.invariant-loop-doc
invariant-loop-doc l = record {
  marks : (earlier : List ℕ) → Marks l.fn.seen l.mark earlier → Marks l.seen l.mark (earlier ++ take l.doc-index l.docs);
  most : (most : ℕ) → All (λ n. n ≤ most) l.fn.seen → l.mark ≤ most → All (λ n. n ≤ most) l.seen;
}
