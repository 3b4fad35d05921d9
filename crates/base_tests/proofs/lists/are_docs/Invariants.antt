use Rattle.std.proofs.Common.{◌≡◌, ◌+◌, ◌<◌, ◌≤◌, ℕ, slice_index}
use Rattle.base_tests.proofs.lists.are_docs.Given as goal

abbrev pub invariant-loop-doc : goal.invariant-loop-doc
invariant-loop-doc l = record {
  rising : (k : ℕ) → k + 1 < l.doc-index → slice_index l.docs k < slice_index l.docs (k + 1);
  below : (k : ℕ) → k < l.doc-index → slice_index l.docs k < l.d;
  least : (k : ℕ) → k + 1 ≡ l.doc-index → l.least ≡ slice_index l.docs k + 1;
  few : l.doc-index ≤ l.least;
  low : l.least ≤ l.d;
}
