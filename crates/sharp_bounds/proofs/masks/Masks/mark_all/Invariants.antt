use Rattle.shared_lemmas.proofs.Common.{◌≡◌, drop, length}
use Rattle.sharp_bounds.specs.Marks.{marked}
use Rattle.sharp_bounds.proofs.masks.Masks.mark_all.Given as goal

abbrev pub invariant-loop-doc : goal.invariant-loop-doc
invariant-loop-doc l = (marked l.place (drop l.doc-index l.docs) l.self.masks ≡ marked l.place l.docs l.fn.self.masks) × (length l.self.masks ≡ length l.fn.self.masks) × (l.self.frames ≡ l.fn.self.frames)
