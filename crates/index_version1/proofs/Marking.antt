-- Documents that are marked one after the other, and documents that are read.
use Rattle.shared_lemmas.proofs.Common.{add-one, ◌≡◌, ℕ, ◌+◌, ◌<◌, ◌≤◌, ◌≢◌, ◌==◌, ◌||◌, Bool, true, false, nat_eq, nat_lt, List, [], ◌∷◌, ◌++◌, length, take, drop, get_or, All, Result, Ok, Err, ap, sym, subst, ◌∙◌, refl, arith, append_assoc, set, slice_index, get_or-set_other, get_or-set_same}
use Rattle.shared_lemmas.proofs.Common.{length-set, list_any, take-suc, take_all, take-append-drop, list_any-append, nat_tests, All-head, All-tail, slice_range, or-false, or-true}
use Rattle.index_version1.proofs.Below.{Judges, PayloadFault, read_payload, HeadData, Fails, OpenFault, Refused, DocTwice, is_among, shares_one, payload_placed, OpenRefusal}
use Rattle.index_layout.specs.Reading.{payload_end, read_segment}
use Rattle.index_version1.specs.Private.Tables.{Marks}

one_more : (earlier docs : List ℕ) (i q : ℕ) → i < length docs → is_among (earlier ++ take (i + 1) docs) q ≡ (is_among (earlier ++ take i docs) q || nat_eq q (get_or docs i 0))
one_more earlier docs i q inside =
    let x = get_or docs i 0 in
    ap (λ n. is_among (earlier ++ take n docs) q) (add-one i) ∙ ap (λ xs. is_among (earlier ++ xs) q) (take-suc docs i 0 inside)
    ∙ ap (list_any (nat_eq q)) (sym (append_assoc earlier (take i docs) (x ∷ [])))
    ∙ list_any-append (nat_eq q) (earlier ++ take i docs) (x ∷ []) ∙ ap (λ b. is_among (earlier ++ take i docs) q || b) (or-false (nat_eq q x))

pub mark_on : (seen docs : List ℕ) (mark i : ℕ) (earlier : List ℕ) → i < length docs → get_or docs i 0 < length seen → Marks seen mark (earlier ++ take i docs) → Marks (set seen (get_or docs i 0) mark) mark (earlier ++ take (i + 1) docs)
mark_on seen docs mark i earlier inside below marks = λ q within. by_doc q within (nat_eq q (get_or docs i 0)) refl
  where
    x : ℕ
    x = get_or docs i 0

    by_doc : (q : ℕ) → q < length (set seen (get_or docs i 0) mark) → (b : Bool) → b ≡ nat_eq q (get_or docs i 0) → (slice_index (set seen (get_or docs i 0) mark) q == mark) ≡ is_among (earlier ++ take (i + 1) docs) q
    by_doc q within true is =
        let same : q ≡ get_or docs i 0 = grind (arith, nat_tests, is) in
        let here : slice_index (set seen (get_or docs i 0) mark) q ≡ mark = ap (slice_index (set seen (get_or docs i 0) mark)) same ∙ get_or-set_same seen (get_or docs i 0) mark 0 below in
        let left : (slice_index (set seen (get_or docs i 0) mark) q == mark) ≡ true = grind (arith, nat_tests, here) in
        let right : (is_among (earlier ++ take i docs) q || nat_eq q (get_or docs i 0)) ≡ true = ap (λ b. is_among (earlier ++ take i docs) q || b) (sym is) ∙ or-true (is_among (earlier ++ take i docs) q) in
        left ∙ sym (one_more earlier docs i q inside ∙ right)
    by_doc q within false is =
        let ne : q ≢ get_or docs i 0 = λ same. absurd (grind (arith, nat_tests, is, same)) in
        let there : slice_index (set seen (get_or docs i 0) mark) q ≡ slice_index seen q = get_or-set_other seen (get_or docs i 0) q mark 0 ne in
        ap (λ n. n == mark) there ∙ marks q (omega (arith, within, length-set seen (get_or docs i 0) mark))
        ∙ sym (one_more earlier docs i q inside ∙ ap (λ b. is_among (earlier ++ take i docs) q || b) (sym is) ∙ or-false (is_among (earlier ++ take i docs) q))

pub marked_all : (seen docs : List ℕ) (mark i : ℕ) (earlier : List ℕ) → length docs ≤ i → Marks seen mark (earlier ++ take i docs) → Marks seen mark (earlier ++ docs)
marked_all seen docs mark i earlier end marks = subst (λ xs. Marks seen mark (earlier ++ xs)) (take_all i docs end) marks

-- documents of which one is marked
pub shares_marked : (seen docs : List ℕ) (mark : ℕ) (earlier : List ℕ) → Marks seen mark earlier → All (λ doc. doc < length seen) docs → list_any (λ doc. slice_index seen doc == mark) docs ≡ shares_one earlier docs
shares_marked seen [] mark earlier marks below = refl
shares_marked seen (doc ∷ docs) mark earlier marks below =
    ap (λ b. b || list_any (λ doc. slice_index seen doc == mark) docs) (marks doc (All-head (λ doc. doc < length seen) doc docs below))
    ∙ ap (λ b. is_among earlier doc || b) (shares_marked seen docs mark earlier marks (All-tail (λ doc. doc < length seen) doc docs below))

pub judged_docs : {T : Type 0} (u : T) (r : Result (List ℕ) PayloadFault) → (let ok : Result T PayloadFault = Ok u in Judges r ok) → (docs : List ℕ) × (r ≡ Ok docs)
judged_docs u (Ok docs) is = (docs, refl)
judged_docs u (Err fault) is = absurd cc

pub docs_placed : (at : ℕ) (r : Result (List ℕ) PayloadFault) (docs row : List ℕ) → r ≡ Ok docs → row ≡ docs → payload_placed at r ≡ Ok row
docs_placed at r docs row is same = ap (payload_placed at) is ∙ ap (λ ds. (let x : Result (List ℕ) OpenRefusal = Ok ds in x)) (sym same)

-- one block more of what a cursor gives
pub block_on : (docs new block rest whole : List ℕ) (n : ℕ) → new ≡ docs ++ take n block → take n block ≡ take n rest → docs ++ rest ≡ whole → new ++ drop n rest ≡ whole
block_on docs new block rest whole n put same is =
    ap (λ xs. xs ++ drop n rest) (put ∙ ap (λ ys. docs ++ ys) same) ∙ append_assoc docs (take n rest) (drop n rest) ∙ ap (λ ys. docs ++ ys) (take-append-drop n rest) ∙ is

-- a payload of which a document is there already, and one of which none is
pub segment_twice : (bytes : List ℕ) (d : ℕ) (earlier : List ℕ) (h : HeadData) (at : ℕ) (docs : List ℕ) (e : OpenFault) → e ≡ Refused (record { at = at; why = DocTwice }) → at + h.size ≤ length bytes
    → payload_placed at (read_payload h.codec d h.count (slice_range bytes at (at + h.size))) ≡ Ok docs → shares_one earlier docs ≡ true → Fails e (payload_end bytes d earlier h at)
unfolding payload_end read_segment
segment_twice bytes d earlier h at docs e fault within read shared =
    let a : nat_lt (length bytes) (at + h.size) ≡ false = grind (arith, within) in
    subst (λ e. Fails e (payload_end bytes d earlier h at)) (sym fault) (rw (a, read, shared) refl)

pub segment_read : (bytes : List ℕ) (d : ℕ) (earlier : List ℕ) (h : HeadData) (at : ℕ) (docs : List ℕ) → at + h.size ≤ length bytes
    → payload_placed at (read_payload h.codec d h.count (slice_range bytes at (at + h.size))) ≡ Ok docs → shares_one earlier docs ≡ false → payload_end bytes d earlier h at ≡ Ok (at + h.size)
unfolding payload_end read_segment
segment_read bytes d earlier h at docs within read alone =
    let a : nat_lt (length bytes) (at + h.size) ≡ false = grind (arith, within) in
    rw (a, read, alone) refl
