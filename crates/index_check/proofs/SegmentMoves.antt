-- One payload in a piece, and the segments of a term, read one after the other.
use Rattle.shared_lemmas.proofs.Common.{◌≡◌, ℕ, zero, suc, ◌+◌, ◌-◌, ◌^◌, ◌<◌, ◌≤◌, ◌==◌, ◌&&◌, ◌||◌, Bool, true, false, nat_tests, All, List, [], ◌∷◌, ◌++◌, length, slice_index, if◌then◌else◌, Result, Ok, refl, ap, sym, subst, ◌∙◌, arith}
use Rattle.index_layout.specs.Heads.{HeadData}
use Rattle.index_layout.specs.Reading.{docs_in, is_among, payload_end}
use Rattle.index_layout.specs.Refusals.{Fails}
use Rattle.index_layout.specs.declared.refusal.OpenFault.{OpenFault}
use Rattle.index_layout.specs.declared.refusal.OpenFault.TheVariants as faults
use Rattle.index_layout.specs.declared.refusal.OpenRefusal.{OpenRefusal}
use Rattle.index_file.specs.Marks.{AreMarks}
use Rattle.index_file.specs.Parts.{moved_fault}
use Rattle.index_file.specs.Answers.{Stops}
use Rattle.index_check.specs.Private.Answers.{moved}
use Rattle.index_file.specs.Pieces.{IsPiece}
use Rattle.index_check.proofs.Judging.{stops_moved}
use Rattle.index_check.proofs.PayloadMoves.{payload_docs, payload_moved, payload_small}
use Rattle.index_file.proofs.Stopping.{stops_as}

module _ (content bytes : List ℕ) (at d : ℕ) (earlier : List ℕ) (h : HeadData) (piece : IsPiece content at h.size bytes) where
  pub next_there : payload_end bytes d earlier h 0 ≡ Ok (0 + h.size) → payload_end content d earlier h at ≡ Ok (at + h.size)
  next_there is =
      let place : at + (0 + h.size) ≡ at + h.size = omega arith in
      payload_moved content bytes at h.size d earlier h piece (omega arith) ∙ ap (moved at) is ∙ ap (λ n. (let r : Result ℕ OpenRefusal = Ok n in r)) place

  pub next_stops : (fault : OpenFault) → at ≤ 2 ^ 64 - 1 → Fails fault (payload_end bytes d earlier h 0) → Stops (moved_fault at fault) (payload_end content d earlier h at)
  next_stops fault few fails =
      let read : Result ℕ OpenRefusal = payload_end bytes d earlier h 0 in
      stops_as (moved_fault at fault) (payload_end content d earlier h at) (moved at read) (payload_moved content bytes at h.size d earlier h piece (omega arith))
      (stops_moved at fault read fails (λ refusal is. (let small = payload_small bytes d earlier h refusal is in omega (arith, small, few))))

  pub next_marks : (now : ℕ) (marks : List ℕ) → 0 + h.size ≤ length bytes → AreMarks now (earlier ++ docs_in bytes d h 0) marks → AreMarks now (earlier ++ docs_in content d h at) marks
  next_marks now marks inside are = subst (λ docs. AreMarks now (earlier ++ docs) marks) (sym (payload_docs content bytes at h.size d h piece (omega (arith, inside)))) are

-- a fault of given bytes isn't one of reading, and stays so where it is moved
pub moved_unread : (by : ℕ) (fault : OpenFault) (read : Result ℕ OpenRefusal) → Fails fault read → ¬ (moved_fault by fault ≡ faults.ReadFault)
moved_unread by (faults.Refused refusal) read fails = λ same. (let bad : ⊥ = cc in bad)
moved_unread by faults.ReadFault read fails = absurd fails
moved_unread by faults.NoMemory read fails = λ same. (let bad : ⊥ = cc in bad)

-- the documents that have a mark, from a number on
abbrev pub marked_docs : ℕ → ℕ → List ℕ → List ℕ
marked_docs now i [] = []
marked_docs now i (mark ∷ marks) = if mark == now then i ∷ marked_docs now (i + 1) marks else marked_docs now (i + 1) marks

among_if : (b : Bool) (i doc : ℕ) (rest : List ℕ) → is_among (if b then i ∷ rest else rest) doc ≡ ((b && (doc == i)) || is_among rest doc)
among_if true i doc rest = refl
among_if false i doc rest = refl

and_no : (b : Bool) (x : Bool) → ((b && false) || x) ≡ x
and_no true x = refl
and_no false x = refl

and_yes : (b : Bool) → ((b && true) || false) ≡ b
and_yes true = refl
and_yes false = refl

none_below : (now i doc : ℕ) (marks : List ℕ) → doc < i → is_among (marked_docs now i marks) doc ≡ false
none_below now i doc [] less = refl
none_below now i doc (mark ∷ marks) less =
    let rest : List ℕ = marked_docs now (i + 1) marks in
    let apart : (doc == i) ≡ false = grind (arith, nat_tests, less) in
    among_if (mark == now) i doc rest ∙ ap (λ x. ((mark == now) && x) || is_among rest doc) apart ∙ and_no (mark == now) (is_among rest doc)
    ∙ none_below now (i + 1) doc marks (omega (arith, less))

each_met : (now i doc : ℕ) (marks : List ℕ) → doc < length marks → is_among (marked_docs now i marks) (i + doc) ≡ (slice_index marks doc == now)
each_met now i doc [] inside = absurd (omega (arith, inside))
each_met now i zero (mark ∷ marks) inside =
    let rest : List ℕ = marked_docs now (i + 1) marks in
    let same : (i + 0 == i) ≡ true = grind (arith, nat_tests) in
    among_if (mark == now) i (i + 0) rest ∙ ap (λ x. ((mark == now) && x) || is_among rest (i + 0)) same
    ∙ ap (λ x. ((mark == now) && true) || x) (none_below now (i + 1) (i + 0) marks (omega arith)) ∙ and_yes (mark == now)
each_met now i (suc doc) (mark ∷ marks) inside =
    let rest : List ℕ = marked_docs now (i + 1) marks in
    let apart : (i + suc doc == i) ≡ false = grind (arith, nat_tests) in
    let place : i + suc doc ≡ i + 1 + doc = omega arith in
    among_if (mark == now) i (i + suc doc) rest ∙ ap (λ x. ((mark == now) && x) || is_among rest (i + suc doc)) apart ∙ and_no (mark == now) (is_among rest (i + suc doc))
    ∙ ap (is_among rest) place ∙ each_met now (i + 1) doc marks (omega (arith, inside))

-- marks that are at most the one of now are those of some documents
pub marks_are : (now : ℕ) (marks : List ℕ) → All (λ mark. mark ≤ now) marks → AreMarks now (marked_docs now 0 marks) marks
marks_are now marks most = record {
  met = λ doc inside. (let place : 0 + doc ≡ doc = omega arith in sym (ap (is_among (marked_docs now 0 marks)) (sym place) ∙ each_met now 0 doc marks inside));
  most = most;
}

-- so no fault that comes of them is one of reading
pub marks_unread : (bytes : List ℕ) (at d now : ℕ) (h : HeadData) (marks : List ℕ) (fault : OpenFault) → All (λ mark. mark ≤ now) marks
    → ((earlier : List ℕ) → AreMarks now earlier marks → Fails fault (payload_end bytes d earlier h 0)) → ¬ (moved_fault at fault ≡ faults.ReadFault)
marks_unread bytes at d now h marks fault most fails =
    let earlier : List ℕ = marked_docs now 0 marks in
    moved_unread at fault (payload_end bytes d earlier h 0) (fails earlier (marks_are now marks most))
