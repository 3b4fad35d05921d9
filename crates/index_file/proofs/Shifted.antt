-- Payloads that are read in the bytes of a file, and in what the file has from a place on.
use Rattle.shared_lemmas.proofs.Common.{◌≡◌, ◌≤◌, ◌+◌, ◌-◌, ◌^◌, ℕ, Bool, true, false, nat_lt, min, List, [], ◌∷◌, ◌++◌, length, take, drop, slice_range, Result, Ok, Err, ap, sym, subst, ◌∙◌, refl, arith, inl, inr, cases_lt, nat_tests, drop-drop, min-eq_left}
use Rattle.std.proofs.lemmas.List.{length-drop}
use Rattle.index_layout.specs.Reading.{docs_in, payload_end, read_segment}
use Rattle.index_layout.specs.declared.refusal.OpenFault.TheVariants as faults
use Rattle.index_file.proofs.Below.{Fails, OpenFault, OpenRefusal, HeadData, TermHeads, PayloadFault, SegmentsRead, IndexRead, DocTwice, Length, ◌>>=◌, check, judged, docs_or_none, payload_placed, read_payload, read_payloads, read_segments, shares_one}
use Rattle.index_file.specs.Parts.{moved_fault}

-- the same so many places further on
abbrev pub refusal_on : ℕ → OpenRefusal → OpenRefusal
refusal_on by refusal = record { at = by + refusal.at; why = refusal.why }

abbrev pub place_on : ℕ → Result ℕ OpenRefusal → Result ℕ OpenRefusal
place_on by (Ok next) = Ok (by + next)
place_on by (Err refusal) = Err (refusal_on by refusal)

abbrev pub segments_shifted : ℕ → Result SegmentsRead OpenRefusal → Result SegmentsRead OpenRefusal
segments_shifted by (Ok x) = Ok (record { segments = x.segments; end = by + x.end })
segments_shifted by (Err refusal) = Err (refusal_on by refusal)

abbrev pub shifted : ℕ → Result IndexRead OpenRefusal → Result IndexRead OpenRefusal
shifted by (Ok x) = Ok (record { terms = x.terms; end = by + x.end })
shifted by (Err refusal) = Err (refusal_on by refusal)

-- the steps of a payload: whether it is cut, what it is read as, and what was met before
abbrev payload_steps : Bool → Result (List ℕ) PayloadFault → List ℕ → ℕ → ℕ → Result ℕ OpenRefusal
payload_steps cut read earlier at next = judged (check cut at Length ∷ []) read >>= payload_placed at >>= λ docs. judged (check (shares_one earlier docs) at DocTwice ∷ []) next

last_on : (by : ℕ) (twice : Bool) (at next : ℕ) → judged (check twice (by + at) DocTwice ∷ []) (by + next) ≡ place_on by (judged (check twice at DocTwice ∷ []) next)
last_on by true at next = refl
last_on by false at next = refl

steps_on : (by : ℕ) (cut : Bool) (read : Result (List ℕ) PayloadFault) (earlier : List ℕ) (at next : ℕ) → payload_steps cut read earlier (by + at) (by + next) ≡ place_on by (payload_steps cut read earlier at next)
steps_on by true read earlier at next = refl
steps_on by false (Ok docs) earlier at next = last_on by (shares_one earlier docs) at next
steps_on by false (Err fault) earlier at next = refl

both_below : (by m n : ℕ) → nat_lt (by + m) (by + n) ≡ nat_lt m n
both_below by m n = elim (cases_lt m n) [
  | inl l ↦ (let a : nat_lt (by + m) (by + n) ≡ true = grind (arith) in let b : nat_lt m n ≡ true = grind (arith) in a ∙ sym b)
  | inr g ↦ (let a : nat_lt (by + m) (by + n) ≡ false = grind (arith) in let b : nat_lt m n ≡ false = grind (arith) in a ∙ sym b)
]

-- behind a payload its segment and those that follow, behind a term's segments its term and those that follow
abbrev segment_step : HeadData → List ℕ → (ℕ → Result SegmentsRead OpenRefusal) → ℕ → Result SegmentsRead OpenRefusal
segment_step h docs rest next = rest next >>= λ later. Ok (record { segments = record { impact = h.impact; docs = docs } ∷ later.segments; end = later.end })

abbrev term_step : TermHeads → (ℕ → Result IndexRead OpenRefusal) → SegmentsRead → Result IndexRead OpenRefusal
term_step t rest here = rest here.end >>= λ later. Ok (record { terms = record { term = t.term; segments = here.segments } ∷ later.terms; end = later.end })

module _ (by : ℕ) where
  segment_last : (h : HeadData) (docs : List ℕ) (read : Result SegmentsRead OpenRefusal) → segment_step h docs (λ n. segments_shifted by read) 0 ≡ segments_shifted by (segment_step h docs (λ n. read) 0)
  segment_last h docs (Ok later) = refl
  segment_last h docs (Err refusal) = refl

  segments_on : (h : HeadData) (docs : List ℕ) (f g : ℕ → Result SegmentsRead OpenRefusal) → ((next : ℕ) → f (by + next) ≡ segments_shifted by (g next))
      → (r : Result ℕ OpenRefusal) → (place_on by r >>= segment_step h docs f) ≡ segments_shifted by (r >>= segment_step h docs g)
  segments_on h docs f g is (Ok next) = ap (λ read. segment_step h docs (λ n. read) 0) (is next) ∙ segment_last h docs (g next)
  segments_on h docs f g is (Err refusal) = refl

  term_last : (t : TermHeads) (here : SegmentsRead) (read : Result IndexRead OpenRefusal) → term_step t (λ n. shifted by read) here ≡ shifted by (term_step t (λ n. read) here)
  term_last t here (Ok later) = refl
  term_last t here (Err refusal) = refl

  terms_on : (t : TermHeads) (f g : ℕ → Result IndexRead OpenRefusal) → ((next : ℕ) → f (by + next) ≡ shifted by (g next))
      → (r : Result SegmentsRead OpenRefusal) → (segments_shifted by r >>= term_step t f) ≡ shifted by (r >>= term_step t g)
  terms_on t f g is (Ok here) = ap (λ read. term_step t (λ n. read) here) (is here.end) ∙ term_last t here (g here.end)
  terms_on t f g is (Err refusal) = refl

module _ (bytes payloads : List ℕ) (place : ℕ) (same : payloads ≡ drop place bytes) (within : place ≤ length bytes) where
  pub whole_length : length bytes ≡ place + length payloads
  whole_length = (let l = ap length same ∙ length-drop place bytes in omega (arith, l, within))

  pub range_shift : (at size : ℕ) → slice_range bytes (place + at) (place + at + size) ≡ slice_range payloads at (at + size)
  range_shift at size =
      let a : place + at + size - (place + at) ≡ size = omega arith in
      let b : at + size - at ≡ size = omega arith in
      let here : drop (place + at) bytes ≡ drop at payloads = sym (ap (drop at) same ∙ drop-drop at place bytes) in
      ap (λ n. take n (drop (place + at) bytes)) a ∙ ap (take size) here ∙ sym (ap (λ n. take n (drop at payloads)) b)

  module _ (d : ℕ) where
    segment_shift : (h : HeadData) (at : ℕ) → read_segment bytes d h (place + at) ≡ read_segment payloads d h at
    unfolding read_segment
    segment_shift h at = ap (read_payload h.codec d h.count) (range_shift at h.size)

    pub docs_shift : (h : HeadData) (at : ℕ) → docs_in bytes d h (place + at) ≡ docs_in payloads d h at
    unfolding docs_in
    docs_shift h at = ap docs_or_none (segment_shift h at)

    pub payload_shift : (earlier : List ℕ) (h : HeadData) (at : ℕ) → payload_end bytes d earlier h (place + at) ≡ place_on place (payload_end payloads d earlier h at)
    unfolding payload_end
    payload_shift earlier h at =
        let far : place + at + h.size ≡ place + (at + h.size) = omega arith in
        let cut : nat_lt (length bytes) (place + at + h.size) ≡ nat_lt (length payloads) (at + h.size)
        = ap (λ n. nat_lt n (place + at + h.size)) whole_length ∙ ap (nat_lt (place + length payloads)) far ∙ both_below place (length payloads) (at + h.size) in
        ap (λ cut. payload_steps cut (read_segment bytes d h (place + at)) earlier (place + at) (place + at + h.size)) cut
        ∙ ap (λ read. payload_steps (nat_lt (length payloads) (at + h.size)) read earlier (place + at) (place + at + h.size)) (segment_shift h at)
        ∙ ap (payload_steps (nat_lt (length payloads) (at + h.size)) (read_segment payloads d h at) earlier (place + at)) far
        ∙ steps_on place (nat_lt (length payloads) (at + h.size)) (read_segment payloads d h at) earlier at (at + h.size)

    -- the segments of a term
    pub segments_shift : (heads : List HeadData) (earlier : List ℕ) (at : ℕ) → read_segments bytes d earlier heads (place + at) ≡ segments_shifted place (read_segments payloads d earlier heads at)
    segments_shift [] earlier at = refl
    segments_shift (h ∷ heads) earlier at =
        let docs = docs_in payloads d h at in
        ap (λ (r : Result ℕ OpenRefusal). r >>= segment_step h (docs_in bytes d h (place + at)) (read_segments bytes d (earlier ++ docs_in bytes d h (place + at)) heads)) (payload_shift earlier h at)
        ∙ ap (λ docs. place_on place (payload_end payloads d earlier h at) >>= segment_step h docs (read_segments bytes d (earlier ++ docs) heads)) (docs_shift h at)
        ∙ segments_on place h docs (read_segments bytes d (earlier ++ docs) heads) (read_segments payloads d (earlier ++ docs) heads) (λ next. segments_shift heads (earlier ++ docs) next) (payload_end payloads d earlier h at)

    -- the terms of a file
    pub payloads_shift : (terms : List TermHeads) (at : ℕ) → read_payloads bytes d terms (place + at) ≡ shifted place (read_payloads payloads d terms at)
    payloads_shift [] at = refl
    payloads_shift (t ∷ terms) at =
        ap (λ (r : Result SegmentsRead OpenRefusal). r >>= term_step t (read_payloads bytes d terms)) (segments_shift t.heads [] at)
        ∙ terms_on place t (read_payloads bytes d terms) (read_payloads payloads d terms) (λ next. payloads_shift terms next) (read_segments payloads d [] t.heads at)

-- what is read ends within so many bytes, and is refused within them
abbrev PlaceWithin : ℕ → Result ℕ OpenRefusal → Type 0
PlaceWithin n (Ok next) = next ≤ n
PlaceWithin n (Err refusal) = refusal.at ≤ n

abbrev SegmentsWithin : ℕ → Result SegmentsRead OpenRefusal → Type 0
SegmentsWithin n (Ok x) = x.end ≤ n
SegmentsWithin n (Err refusal) = refusal.at ≤ n

abbrev IsWithin : ℕ → Result IndexRead OpenRefusal → Type 0
IsWithin n (Ok x) = x.end ≤ n
IsWithin n (Err refusal) = refusal.at ≤ n

last_within : (n : ℕ) (twice : Bool) (at next : ℕ) → at ≤ n → next ≤ n → PlaceWithin n (judged (check twice at DocTwice ∷ []) next)
last_within n true at next low high = low
last_within n false at next low high = high

steps_within : (n : ℕ) (cut : Bool) (read : Result (List ℕ) PayloadFault) (earlier : List ℕ) (at next : ℕ) → at ≤ n → (cut ≡ false → next ≤ n) → PlaceWithin n (payload_steps cut read earlier at next)
steps_within n true read earlier at next low high = low
steps_within n false (Ok docs) earlier at next low high = last_within n (shares_one earlier docs) at next low (high refl)
steps_within n false (Err fault) earlier at next low high = low

segments_pass : (n : ℕ) (h : HeadData) (docs : List ℕ) (f : ℕ → Result SegmentsRead OpenRefusal) → ((next : ℕ) → next ≤ n → SegmentsWithin n (f next))
    → (r : Result ℕ OpenRefusal) → PlaceWithin n r → SegmentsWithin n (r >>= segment_step h docs f)
segments_pass n h docs f all (Ok next) is = last (f next) (all next is)
  where
    last : (read : Result SegmentsRead OpenRefusal) → SegmentsWithin n read → SegmentsWithin n (segment_step h docs (λ m. read) 0)
    last (Ok later) is = is
    last (Err refusal) is = is
segments_pass n h docs f all (Err refusal) is = is

terms_pass : (n : ℕ) (t : TermHeads) (f : ℕ → Result IndexRead OpenRefusal) → ((next : ℕ) → next ≤ n → IsWithin n (f next))
    → (r : Result SegmentsRead OpenRefusal) → SegmentsWithin n r → IsWithin n (r >>= term_step t f)
terms_pass n t f all (Ok here) is = last (f here.end) (all here.end is)
  where
    last : (read : Result IndexRead OpenRefusal) → IsWithin n read → IsWithin n (term_step t (λ m. read) here)
    last (Ok later) is = is
    last (Err refusal) is = is
terms_pass n t f all (Err refusal) is = is

module _ (bytes : List ℕ) (d : ℕ) where
  payload_within : (earlier : List ℕ) (h : HeadData) (at : ℕ) → at ≤ length bytes → PlaceWithin (length bytes) (payload_end bytes d earlier h at)
  unfolding payload_end
  payload_within earlier h at low =
      steps_within (length bytes) (nat_lt (length bytes) (at + h.size)) (read_segment bytes d h at) earlier at (at + h.size) low (λ whole. grind (arith, nat_tests))

  segments_within : (heads : List HeadData) (earlier : List ℕ) (at : ℕ) → at ≤ length bytes → SegmentsWithin (length bytes) (read_segments bytes d earlier heads at)
  segments_within [] earlier at low = low
  segments_within (h ∷ heads) earlier at low =
      let before = earlier ++ docs_in bytes d h at in
      segments_pass (length bytes) h (docs_in bytes d h at) (read_segments bytes d before heads) (λ next is. segments_within heads before next is) (payload_end bytes d earlier h at) (payload_within earlier h at low)

  payloads_within : (terms : List TermHeads) (at : ℕ) → at ≤ length bytes → IsWithin (length bytes) (read_payloads bytes d terms at)
  payloads_within [] at low = low
  payloads_within (t ∷ terms) at low =
      terms_pass (length bytes) t (read_payloads bytes d terms) (λ next is. payloads_within terms next is) (read_segments bytes d [] t.heads at) (segments_within t.heads [] at low)

  pub refused_within : (terms : List TermHeads) (at : ℕ) (refusal : OpenRefusal) → read_payloads bytes d terms at ≡ Err refusal → at ≤ length bytes → refusal.at ≤ length bytes
  refused_within terms at refusal is low = subst (IsWithin (length bytes)) is (payloads_within terms at low)

-- what is read of the payloads from their front on, as it is read of the file from their place on
module _ (bytes payloads : List ℕ) (place : ℕ) (same : payloads ≡ drop place bytes) (within : place ≤ length bytes) (d : ℕ) (terms : List TermHeads) where
  pub read_from_place : read_payloads bytes d terms place ≡ shifted place (read_payloads payloads d terms 0)
  read_from_place = (let here : place ≡ place + 0 = omega arith in ap (read_payloads bytes d terms) here ∙ payloads_shift bytes payloads place same within d terms 0)

  pub fails_from_place : (fault : OpenFault) → place + length payloads ≤ 2 ^ 32 → Fails fault (read_payloads payloads d terms 0) → Fails (moved_fault place fault) (read_payloads bytes d terms place)
  fails_from_place (faults.Refused refusal) small is =
      let low = refused_within payloads d terms 0 refusal is (omega arith) in
      let few : refusal.at + place ≤ 2 ^ 64 - 1 = omega (arith, low, small) in
      let at : place + refusal.at ≡ min (refusal.at + place) (2 ^ 64 - 1) = (let turned : place + refusal.at ≡ refusal.at + place = omega arith in turned ∙ sym (min-eq_left few)) in
      read_from_place ∙ ap (shifted place) is ∙ ap (λ at. (let r : Result IndexRead OpenRefusal = Err (record { at = at; why = refusal.why }) in r)) at
  fails_from_place faults.ReadFault small is = is
  fails_from_place faults.NoMemory small is = tt
