use Rattle.shared_lemmas.proofs.Common.{◌≡◌, ◌+◌, ◌-◌, ◌%◌, ◌≤◌, ◌++◌, length, drop, get_or, flat_map}
use Rattle.accumulator_pages.specs.Adding.{crossed}
use Rattle.accumulator_pages.proofs.pages.note_slots.Given as goal

abbrev pub invariant-loop-doc : goal.invariant-loop-doc
invariant-loop-doc l = record {
  noted : l.reached.docs ++ flat_map (λ doc. crossed doc (get_or l.slots (doc % 256) 0 - l.w) (get_or l.slots (doc % 256) 0) l.last) (drop l.doc-index l.docs)
      ≡ l.fn.reached.docs ++ flat_map (λ doc. crossed doc (get_or l.slots (doc % 256) 0 - l.w) (get_or l.slots (doc % 256) 0) l.last) l.docs;
  few : length l.reached.docs ≤ length l.fn.reached.docs + l.doc-index;
  room : l.reached.room ≡ l.fn.reached.room;
}
