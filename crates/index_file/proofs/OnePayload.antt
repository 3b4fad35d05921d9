-- One payload that is read.
use Rattle.shared_lemmas.proofs.Common.{◌≡◌, ℕ, ◌+◌, ◌-◌, ◌≤◌, ◌<◌, ◌^◌, Bool, List, [], ◌∷◌, length, take, drop, subst, All, Result, Ok, Err, ap, sym, ◌∙◌, refl, slice_index, arith, true, false, nat_lt, slice_range, take-take}
use Rattle.index_file.proofs.Below.{Judges, AreDocs, PayloadFault, Codec, payload_of, read_payload, HeadData, ◌>>=◌, check, judged, refuse, Fails, OpenFault, OpenRefusal, Length, DocTwice, Payload, docs_or_none, payload_placed, shares_one, part_bytes}
use Rattle.index_layout.specs.declared.refusal.OpenFault.TheVariants as faults
use Rattle.index_layout.specs.Reading.{read_segment, docs_in, payload_end}
use Rattle.index_file.specs.Marks.{AreMarks, meets_marked}
use Rattle.index_file.proofs.MarkLists.{meets_is}

judged_ok : {T : Type 0} (r : Result (List ℕ) PayloadFault) (x : T) → Judges r (Ok x) → r ≡ Ok (docs_or_none r)
judged_ok (Ok docs) x is = refl
judged_ok (Err fault) x is = absurd cc

judged_not : (T : Type 0) (r : Result (List ℕ) PayloadFault) (fault : PayloadFault) → (let answer : Result T PayloadFault = Err fault in Judges r answer) → r ≡ Err fault
judged_not T (Ok docs) fault is = absurd cc
judged_not T (Err other) fault is = cc

pub shares_none : (docs : List ℕ) → shares_one [] docs ≡ false
shares_none [] = refl
shares_none (doc ∷ docs) = shares_none docs

pub payload_cut : (bytes : List ℕ) (d : ℕ) (earlier : List ℕ) (h : HeadData) (at : ℕ) → length bytes < at + h.size → payload_end bytes d earlier h at ≡ refuse at Length
unfolding payload_end
payload_cut bytes d earlier h at long =
    let outside : nat_lt (length bytes) (at + h.size) ≡ true = grind (arith) in
    rw outside refl

pub payload_not : (T : Type 0) (bytes : List ℕ) (d : ℕ) (earlier : List ℕ) (h : HeadData) (at : ℕ) (fault : PayloadFault) → at + h.size ≤ length bytes
    → (let answer : Result T PayloadFault = Err fault in Judges (read_payload h.codec d h.count (slice_range bytes at (at + h.size))) answer) → payload_end bytes d earlier h at ≡ refuse at (Payload fault)
unfolding payload_end read_segment
payload_not T bytes d earlier h at fault fits is =
    let inside : nat_lt (length bytes) (at + h.size) ≡ false = grind (arith) in
    rw (inside, judged_not T (read_payload h.codec d h.count (slice_range bytes at (at + h.size))) fault is) refl

-- the front of what follows a place
pub front_is : (bytes : List ℕ) (at size : ℕ) → at + size ≤ length bytes → take size (take (length bytes - at) (drop at bytes)) ≡ slice_range bytes at (at + size)
front_is bytes at size fits =
    let few : size ≤ length bytes - at = omega (arith, fits) in
    let same : at + size - at ≡ size = omega arith in
    take-take size (length bytes - at) (drop at bytes) few ∙ ap (λ n. take n (drop at bytes)) (sym same)

pub front_judged : {T : Type 0} (bytes : List ℕ) (d : ℕ) (h : HeadData) (at : ℕ) (result : Result T PayloadFault) → at + h.size ≤ length bytes
    → Judges (read_payload h.codec d h.count (take h.size (take (length bytes - at) (drop at bytes)))) result → Judges (read_payload h.codec d h.count (slice_range bytes at (at + h.size))) result
front_judged bytes d h at result fits is = subst (λ (part : List ℕ). Judges (read_payload h.codec d h.count part) result) (front_is bytes at h.size fits) is

module _ {T : Type 0} (bytes : List ℕ) (d : ℕ) (h : HeadData) (at : ℕ) (x : T) (fits : at + h.size ≤ length bytes) (is : Judges (read_payload h.codec d h.count (slice_range bytes at (at + h.size))) (Ok x)) where
  -- behind the fit and the codec's check, what was met before decides
  pub payload_there : (earlier : List ℕ) → payload_end bytes d earlier h at ≡ judged (check (shares_one earlier (docs_in bytes d h at)) at DocTwice ∷ []) (at + h.size)
  unfolding payload_end read_segment docs_in
  payload_there earlier =
      let inside : nat_lt (length bytes) (at + h.size) ≡ false = grind (arith) in
      let there = judged_ok (read_payload h.codec d h.count (slice_range bytes at (at + h.size))) x is in
      rw (inside, there) refl

  pub payload_alone : payload_end bytes d [] h at ≡ Ok (at + h.size)
  payload_alone = payload_there [] ∙ ap (λ (b : Bool). judged (check b at DocTwice ∷ []) (at + h.size)) (shares_none (docs_in bytes d h at))

  docs_there : read_payload h.codec d h.count (slice_range bytes at (at + h.size)) ≡ Ok (docs_in bytes d h at)
  unfolding docs_in read_segment
  docs_there = judged_ok (read_payload h.codec d h.count (slice_range bytes at (at + h.size))) x is

  pub payload_read : ((codec : Codec) (d count : ℕ) (docs bytes : List ℕ) → 1 ≤ count → d ≤ 2 ^ 26 → All (λ byte. byte < 256) bytes → read_payload codec d count bytes ≡ Ok docs → AreDocs d docs × (length docs ≡ count) × (bytes ≡ payload_of codec d docs))
      → ((i : ℕ) → slice_index bytes i < 256) → 1 ≤ h.count → d ≤ 2 ^ 26
      → AreDocs d (docs_in bytes d h at) × (length (docs_in bytes d h at) ≡ h.count) × (slice_range bytes at (at + h.size) ≡ payload_of h.codec d (docs_in bytes d h at))
  payload_read only byte some limit = only h.codec d h.count (docs_in bytes d h at) (slice_range bytes at (at + h.size)) some limit (part_bytes bytes at (at + h.size) byte) docs_there

-- the documents that were read are those of the payload
pub docs_read : (bytes : List ℕ) (d : ℕ) (h : HeadData) (at : ℕ) (docs : List ℕ) → read_payload h.codec d h.count (slice_range bytes at (at + h.size)) ≡ Ok docs → docs ≡ docs_in bytes d h at
unfolding docs_in read_segment
docs_read bytes d h at docs is = sym (ap docs_or_none is)

-- a payload behind earlier documents, seen from the same one behind none
abbrev payload_steps : (long : Bool) (read : Result (List ℕ) PayloadFault) (at next : ℕ) (earlier : List ℕ) → Result ℕ OpenRefusal
payload_steps long read at next earlier = judged (check long at Length ∷ []) read >>= payload_placed at >>= λ docs. judged (check (shares_one earlier docs) at DocTwice ∷ []) next

steps_ok : (long : Bool) (read : Result (List ℕ) PayloadFault) (at next end : ℕ) (earlier : List ℕ) → payload_steps long read at next [] ≡ Ok end → payload_steps long read at next earlier ≡ judged (check (shares_one earlier (docs_or_none read)) at DocTwice ∷ []) next
steps_ok true read at next end earlier is = absurd cc
steps_ok false (Ok docs) at next end earlier is = refl
steps_ok false (Err fault) at next end earlier is = absurd cc

steps_err : (long : Bool) (read : Result (List ℕ) PayloadFault) (at next : ℕ) (refusal : OpenRefusal) (earlier : List ℕ) → payload_steps long read at next [] ≡ Err refusal → payload_steps long read at next earlier ≡ Err refusal
steps_err true read at next refusal earlier is = is
steps_err false (Ok docs) at next refusal earlier is = absurd (ok_no next refusal (sym (ap (λ (b : Bool). judged (check b at DocTwice ∷ []) next) (shares_none docs)) ∙ is))
  where
    ok_no : (next : ℕ) (refusal : OpenRefusal) → (let r : Result ℕ OpenRefusal = Ok next in r) ≡ Err refusal → ⊥
    ok_no next refusal is = cc
steps_err false (Err fault) at next refusal earlier is = is

pub payload_behind : (bytes : List ℕ) (d : ℕ) (h : HeadData) (at end : ℕ) (earlier : List ℕ) → payload_end bytes d [] h at ≡ Ok end → payload_end bytes d earlier h at ≡ judged (check (shares_one earlier (docs_in bytes d h at)) at DocTwice ∷ []) (at + h.size)
unfolding payload_end docs_in
payload_behind bytes d h at end earlier is = steps_ok (nat_lt (length bytes) (at + h.size)) (read_segment bytes d h at) at (at + h.size) end earlier is

pub payload_fails : (bytes : List ℕ) (d : ℕ) (h : HeadData) (at : ℕ) (earlier : List ℕ) (fault : OpenFault) → Fails fault (payload_end bytes d [] h at) → Fails fault (payload_end bytes d earlier h at)
unfolding payload_end
payload_fails bytes d h at earlier (faults.Refused refusal) is = steps_err (nat_lt (length bytes) (at + h.size)) (read_segment bytes d h at) at (at + h.size) refusal earlier is
payload_fails bytes d h at earlier faults.ReadFault is = is
payload_fails bytes d h at earlier faults.NoMemory is = tt

-- behind the documents that are marked
pub apart_end : (bytes : List ℕ) (d now : ℕ) (h : HeadData) (at end : ℕ) (earlier marks : List ℕ) (met : Bool) → payload_end bytes d [] h at ≡ Ok end → AreMarks now earlier marks → AreDocs d (docs_in bytes d h at) → d ≤ length marks
    → met ≡ meets_marked now (docs_in bytes d h at) marks → payload_end bytes d earlier h at ≡ judged (check met at DocTwice ∷ []) (at + h.size)
apart_end bytes d now h at end earlier marks met is are docs inside told =
    payload_behind bytes d h at end earlier is
    ∙ ap (λ (b : Bool). judged (check b at DocTwice ∷ []) (at + h.size)) (sym (told ∙ meets_is now d earlier (docs_in bytes d h at) marks are docs inside))
