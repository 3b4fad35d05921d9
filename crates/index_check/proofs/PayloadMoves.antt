-- A payload in a piece, read as in the whole.
use Rattle.shared_lemmas.proofs.Common.{◌≡◌, ℕ, ◌+◌, ◌<◌, ◌≤◌, ◌⊎◌, inl, inr, cases_lt, Bool, true, false, nat_lt, List, [], ◌∷◌, length, slice_range, Result, Ok, Err, ap, sym, ◌∙◌, arith}
use Rattle.jass_base.specs.declared.payload_fault.PayloadFault.{PayloadFault}
use Rattle.segment_codecs.specs.Codecs.{read_payload}
use Rattle.whole_files.specs.Windows.{AreFrom}
use Rattle.index_layout.specs.Heads.{HeadData}
use Rattle.index_layout.specs.Reading.{docs_in, docs_or_none, payload_end, payload_placed, read_segment, shares_one}
use Rattle.index_layout.specs.Refusals.{◌>>=◌, check, judged}
use Rattle.index_layout.specs.declared.refusal.OpenRefusal.{OpenRefusal}
use Rattle.index_layout.specs.declared.refusal.OpenWhy.{OpenWhy}
use Rattle.index_layout.specs.declared.refusal.OpenWhy.TheVariants.{DocTwice, Length, Payload}
use Rattle.index_file.proofs.Pieces.{piece_range}
use Rattle.index_check.specs.Private.Answers.{moved}
use Rattle.index_file.specs.Pieces.{IsPiece}

-- the steps of a payload at a place: whether it is cut, what it is read as, and what was met before
abbrev payload_steps : Bool → Result (List ℕ) PayloadFault → List ℕ → ℕ → ℕ → Result ℕ OpenRefusal
payload_steps cut read earlier at next = judged (check cut at Length ∷ []) read >>= payload_placed at >>= λ docs. judged (check (shares_one earlier docs) at DocTwice ∷ []) next

refused_moved : (at : ℕ) (why : OpenWhy) → (let r : Result ℕ OpenRefusal = Err (record { at = at; why = why }) in r) ≡ moved at (Err (record { at = 0; why = why }))
refused_moved at why =
    let place : at ≡ at + 0 = omega arith in
    ap (λ n. (let r : Result ℕ OpenRefusal = Err (record { at = n; why = why }) in r)) place

last_moved : (twice : Bool) (at next far : ℕ) → far ≡ at + next → judged (check twice at DocTwice ∷ []) far ≡ moved at (judged (check twice 0 DocTwice ∷ []) next)
last_moved true at next far is = refused_moved at DocTwice
last_moved false at next far is = ap (λ n. (let r : Result ℕ OpenRefusal = Ok n in r)) is

steps_moved : (cut : Bool) (read : Result (List ℕ) PayloadFault) (earlier : List ℕ) (at next far : ℕ) → far ≡ at + next → payload_steps cut read earlier at far ≡ moved at (payload_steps cut read earlier 0 next)
steps_moved true read earlier at next far is = refused_moved at Length
steps_moved false (Ok docs) earlier at next far is = last_moved (shares_one earlier docs) at next far is
steps_moved false (Err fault) earlier at next far is = refused_moved at (Payload fault)

-- a payload that the piece has whole
segment_moved : (content bytes : List ℕ) (at d : ℕ) (h : HeadData) → AreFrom content at bytes → h.size ≤ length bytes → read_segment content d h at ≡ read_segment bytes d h 0
unfolding read_segment
segment_moved content bytes at d h from inside =
    let first : at + 0 ≡ at = omega arith in
    let last : at + (0 + h.size) ≡ at + h.size = omega arith in
    let same : slice_range bytes 0 (0 + h.size) ≡ slice_range content at (at + h.size)
    = piece_range content bytes at 0 (0 + h.size) from (omega arith) (omega (arith, inside)) ∙ ap (λ n. slice_range content n (at + (0 + h.size))) first ∙ ap (slice_range content at) last in
    ap (read_payload h.codec d h.count) (sym same)

pub payload_docs : (content bytes : List ℕ) (at count d : ℕ) (h : HeadData) → IsPiece content at count bytes → h.size ≤ length bytes → docs_in content d h at ≡ docs_in bytes d h 0
unfolding docs_in
payload_docs content bytes at count d h piece inside = ap docs_or_none (segment_moved content bytes at d h piece.from inside)

payload_whole : (content bytes : List ℕ) (at d : ℕ) (earlier : List ℕ) (h : HeadData) → AreFrom content at bytes → at + length bytes ≤ length content → h.size ≤ length bytes → payload_end content d earlier h at ≡ moved at (payload_end bytes d earlier h 0)
unfolding payload_end
payload_whole content bytes at d earlier h from within inside =
    let far : at + h.size ≡ at + (0 + h.size) = omega arith in
    let a : nat_lt (length content) (at + h.size) ≡ false = grind (arith) in
    let b : nat_lt (length bytes) (0 + h.size) ≡ false = grind (arith) in
    ap (λ cut. payload_steps cut (read_segment content d h at) earlier at (at + h.size)) a
    ∙ ap (λ read. payload_steps false read earlier at (at + h.size)) (segment_moved content bytes at d h from inside)
    ∙ steps_moved false (read_segment bytes d h 0) earlier at (0 + h.size) (at + h.size) far
    ∙ ap (λ cut. moved at (payload_steps cut (read_segment bytes d h 0) earlier 0 (0 + h.size))) (sym b)

payload_short : (content bytes : List ℕ) (at d : ℕ) (earlier : List ℕ) (h : HeadData) → length content < at + h.size → length bytes < h.size → payload_end content d earlier h at ≡ moved at (payload_end bytes d earlier h 0)
unfolding payload_end
payload_short content bytes at d earlier h long short =
    let a : nat_lt (length content) (at + h.size) ≡ true = grind (arith) in
    let b : nat_lt (length bytes) (0 + h.size) ≡ true = grind (arith) in
    ap (λ cut. payload_steps cut (read_segment content d h at) earlier at (at + h.size)) a
    ∙ refused_moved at Length
    ∙ ap (λ cut. moved at (payload_steps cut (read_segment bytes d h 0) earlier 0 (0 + h.size))) (sym b)

pub payload_moved : (content bytes : List ℕ) (at count d : ℕ) (earlier : List ℕ) (h : HeadData) → IsPiece content at count bytes → h.size ≤ count → payload_end content d earlier h at ≡ moved at (payload_end bytes d earlier h 0)
payload_moved content bytes at count d earlier h piece fits = either (cases_lt (length bytes) h.size)
  where
    long : length bytes < h.size → (count ≤ length bytes) ⊎ (at + length bytes ≡ length content) → length content < at + h.size
    long short (inl many) = absurd (omega (arith, many, fits, short))
    long short (inr last) = omega (arith, last, short)

    either : (length bytes < h.size) ⊎ (h.size ≤ length bytes) → payload_end content d earlier h at ≡ moved at (payload_end bytes d earlier h 0)
    either (inl short) = payload_short content bytes at d earlier h (long short piece.enough) short
    either (inr inside) = payload_whole content bytes at d earlier h piece.from piece.within inside

-- a refusal of a payload stands at its front
last_at : (twice : Bool) (at next : ℕ) (refusal : OpenRefusal) → judged (check twice at DocTwice ∷ []) next ≡ Err refusal → refusal.at ≡ at
last_at true at next refusal is = cc
last_at false at next refusal is = absurd cc

steps_at : (cut : Bool) (read : Result (List ℕ) PayloadFault) (earlier : List ℕ) (at next : ℕ) (refusal : OpenRefusal) → payload_steps cut read earlier at next ≡ Err refusal → refusal.at ≡ at
steps_at true read earlier at next refusal is = cc
steps_at false (Ok docs) earlier at next refusal is = last_at (shares_one earlier docs) at next refusal is
steps_at false (Err fault) earlier at next refusal is = cc

pub payload_small : (bytes : List ℕ) (d : ℕ) (earlier : List ℕ) (h : HeadData) (refusal : OpenRefusal) → payload_end bytes d earlier h 0 ≡ Err refusal → refusal.at ≡ 0
unfolding payload_end
payload_small bytes d earlier h refusal is = steps_at (nat_lt (length bytes) (0 + h.size)) (read_segment bytes d h 0) earlier 0 (0 + h.size) refusal is
