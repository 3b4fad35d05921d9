use Rattle.std.proofs.Common.{◌≡◌, ◌+◌, ◌++◌, length, map, take}
use Rattle.topk_heap.specs.Private.Rows.{doc_of_key}
use Rattle.topk_heap.proofs.candidates.note_docs.Given as goal

abbrev pub invariant-loop-key : goal.invariant-loop-key
invariant-loop-key l = record {
  done : l.noted.docs ≡ l.fn.noted.docs ++ map doc_of_key (take l.key-index l.keys);
  few : length l.noted.docs ≡ length l.fn.noted.docs + l.key-index;
  room : l.noted.room ≡ l.fn.noted.room;
}
