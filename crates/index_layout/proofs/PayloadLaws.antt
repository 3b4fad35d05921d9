-- Payloads are read as they are written.
use Rattle.shared_lemmas.proofs.Common.{◌≡◌, ℕ, suc, ◌+◌, ◌-◌, ◌<◌, ◌≤◌, ◌^◌, false, nat_lt, List, [], ◌∷◌, ◌++◌, length, take, drop, All, Option, Some, Result, Ok, Err, ap, sym, subst, ◌∙◌, refl, arith, slice_range, map, take-append_seam, length-append, length-drop, take-append-drop, drop-drop}
use Rattle.shared_lemmas.proofs.Common.{length-take-le, length-map, All-take, All-drop, All-from_get_or}
use borrow.Author.Tests.{ltb-false}
use Rattle.std.proofs.lemmas.List.{append_assoc}
use Rattle.jass_base.specs.Gaps.{AreDocs}
use Rattle.jass_base.specs.declared.payload_fault.PayloadFault.{PayloadFault}
use Rattle.segment_codecs.specs.declared.codec.Codec.{Codec}
use Rattle.segment_codecs.specs.Codecs.{payload_of, read_payload, payload_size}
use Rattle.index_model.specs.Index.{SegmentData, TermData}
use Rattle.shared_lemmas.proofs.Rising.{few_below}
use Rattle.index_layout.specs.Heads.{HeadData, TermHeads, head_of, heads_of, terms_heads}
use Rattle.index_layout.specs.Layout.{segments_payloads, terms_payloads}
use Rattle.index_layout.specs.View.{HaveCodecs}
use Rattle.index_layout.specs.declared.refusal.OpenRefusal.{OpenRefusal}
use Rattle.index_layout.specs.declared.refusal.OpenWhy.TheVariants.{Length, DocTwice}
use Rattle.index_layout.specs.Refusals.{◌>>=◌, check, judged}
use Rattle.index_layout.specs.Reading.{SegmentsRead, IndexRead, docs_or_none, payload_placed, shares_one, read_segment, docs_in, payload_end, read_segments, read_payloads, head_codecs}
use Rattle.index_layout.proofs.Judging.{bind_ok, judged_ok, behind, reaches, parts_stand}
use Rattle.index_layout.proofs.Numbers.{Fit}
use Rattle.index_layout.proofs.HeadLaws.{HeadsFall}
use Rattle.index_layout.proofs.Apart.{Alone}
use Rattle.index_layout.proofs.TermLaws.{TermsRise}
use Rattle.index_layout.proofs.IndexFacts.{SegmentsFall, TermsStand}
use Rattle.shared_lemmas.proofs.Results.{ok_same}

-- the heads of segments that fall
pub heads_fall : (d above : ℕ) (segments : List SegmentData) (codecs : List Codec) → length codecs ≡ length segments → SegmentsFall d above segments → HeadsFall d above (heads_of d segments codecs)
heads_fall d above [] codecs same fall = tt
heads_fall d above (s ∷ segments) [] same fall = absurd (omega (arith, same))
heads_fall d above (s ∷ segments) (codec ∷ codecs) same fall =
    let is = fall.0 in
    let some = is.docs.some in (
      record { some = is.impact.0; falls = fall.1; postings = omega (arith, some); few = few_below s.docs d is.docs.rising is.docs.below },
      heads_fall d s.impact segments codecs (omega (arith, same)) fall.2,
    )

pub heads_count : (d : ℕ) (segments : List SegmentData) (codecs : List Codec) → length codecs ≡ length segments → length (heads_of d segments codecs) ≡ length segments
heads_count d [] codecs same = refl
heads_count d (s ∷ segments) [] same = absurd (omega (arith, same))
heads_count d (s ∷ segments) (codec ∷ codecs) same = ap suc (heads_count d segments codecs (omega (arith, same)))

pub first_codecs : (t : TermData) (terms : List TermData) (here : List Codec) (codecs : List (List Codec)) → HaveCodecs (t ∷ terms) (here ∷ codecs) → (length here ≡ length t.segments) × HaveCodecs terms codecs
first_codecs t terms here codecs have = (cc, cc)

-- the terms with their heads rise
pub terms_rise : (d : ℕ) (before : Option (List ℕ)) (terms : List TermData) (codecs : List (List Codec)) → HaveCodecs terms codecs → TermsStand d before terms → TermsRise d before (terms_heads d terms codecs)
terms_rise d before [] codecs have stand = tt
terms_rise d before (t ∷ terms) [] have stand = absurd cc
terms_rise d before (t ∷ terms) (here ∷ codecs) have stand =
    let first = first_codecs t terms here codecs have in (
      stand.0,
      subst (λ n. 1 ≤ n) (sym (heads_count d t.segments here first.0)) stand.1,
      heads_fall d 65536 t.segments here first.0 stand.2,
      terms_rise d (Some t.term) terms codecs first.1 stand.4,
    )

module _ (found : (codec : Codec) (d count : ℕ) (docs bytes : List ℕ) → AreDocs d docs → length docs ≡ count → bytes ≡ payload_of codec d docs → read_payload codec d count bytes ≡ Ok docs) where
  payload_found : (bytes : List ℕ) (d : ℕ) (earlier : List ℕ) (s : SegmentData) (codec : Codec) (at : ℕ) (rest : List ℕ) → AreDocs d s.docs → shares_one earlier s.docs ≡ false → at ≤ length bytes → drop at bytes ≡ payload_of codec d s.docs ++ rest
      → (payload_end bytes d earlier (head_of d s codec) at ≡ Ok (at + length (payload_of codec d s.docs))) × (docs_in bytes d (head_of d s codec) at ≡ s.docs)
  unfolding payload_end docs_in read_segment
  payload_found bytes d earlier s codec at rest are alone from stands =
      let docs = s.docs in
      let size = length (payload_of codec d docs) in
      let exact : at + size - at ≡ size = omega arith in
      let part : slice_range bytes at (at + size) ≡ payload_of codec d docs = ap (λ k. take k (drop at bytes)) exact ∙ ap (take size) stands ∙ take-append_seam (payload_of codec d docs) rest in
      let read = found codec d (length docs) docs (slice_range bytes at (at + size)) are refl part in
      let end : at + size ≤ length bytes = reaches bytes at (payload_of codec d docs) rest stands from in
      let a : nat_lt (length bytes) (at + size) ≡ false = grind (arith) in
      (rw (a, read, alone) refl, rw read refl)

  pub segments_found : (bytes : List ℕ) (d above : ℕ) (earlier : List ℕ) (segments : List SegmentData) (codecs : List Codec) (at : ℕ) (rest : List ℕ) → length codecs ≡ length segments → SegmentsFall d above segments → Alone earlier segments → at ≤ length bytes
      → drop at bytes ≡ segments_payloads d segments codecs ++ rest
      → read_segments bytes d earlier (heads_of d segments codecs) at ≡ Ok (record { segments = segments; end = at + length (segments_payloads d segments codecs) })
  segments_found bytes d above earlier [] codecs at rest same fall alone from stands = ap (λ n. (let r : Result SegmentsRead OpenRefusal = Ok (record { segments = []; end = n }) in r)) (omega arith)
  segments_found bytes d above earlier (s ∷ segments) [] at rest same fall alone from stands = absurd (omega (arith, same))
  segments_found bytes d above earlier (s ∷ segments) (codec ∷ codecs) at rest same fall alone from stands =
      let payload = payload_of codec d s.docs in
      let more = segments_payloads d segments codecs ++ rest in
      let here : drop at bytes ≡ payload ++ more = stands ∙ append_assoc payload (segments_payloads d segments codecs) rest in
      let one = payload_found bytes d earlier s codec at more fall.0.docs alone.0 from here in
      let later = segments_found bytes d s.impact (earlier ++ s.docs) segments codecs (at + length payload) rest (omega (arith, same)) fall.2 alone.1 (reaches bytes at payload more here from) (behind bytes at payload more here) in
      let long = length-append payload (segments_payloads d segments codecs) in
      rw (one.0, one.1, later) (ap (λ n. (let r : Result SegmentsRead OpenRefusal = Ok (record { segments = s ∷ segments; end = n }) in r)) (omega (arith, long)))

  pub payloads_found : (bytes : List ℕ) (d : ℕ) (before : Option (List ℕ)) (terms : List TermData) (codecs : List (List Codec)) (at : ℕ) (rest : List ℕ) → HaveCodecs terms codecs → TermsStand d before terms → at ≤ length bytes
      → drop at bytes ≡ terms_payloads d terms codecs ++ rest
      → read_payloads bytes d (terms_heads d terms codecs) at ≡ Ok (record { terms = terms; end = at + length (terms_payloads d terms codecs) })
  payloads_found bytes d before [] codecs at rest have stand from stands = ap (λ n. (let r : Result IndexRead OpenRefusal = Ok (record { terms = []; end = n }) in r)) (omega arith)
  payloads_found bytes d before (t ∷ terms) [] at rest have stand from stands = absurd cc
  payloads_found bytes d before (t ∷ terms) (here ∷ codecs) at rest have stand from stands =
      let first = first_codecs t terms here codecs have in
      let payloads = segments_payloads d t.segments here in
      let more = terms_payloads d terms codecs ++ rest in
      let there : drop at bytes ≡ payloads ++ more = stands ∙ append_assoc payloads (terms_payloads d terms codecs) rest in
      let one = segments_found bytes d 65536 [] t.segments here at more first.0 stand.2 stand.3 from there in
      let later = payloads_found bytes d (Some t.term) terms codecs (at + length payloads) rest first.1 stand.4 (reaches bytes at payloads more there from) (behind bytes at payloads more there) in
      let long = length-append payloads (terms_payloads d terms codecs) in
      rw (one, later) (ap (λ n. (let r : Result IndexRead OpenRefusal = Ok (record { terms = t ∷ terms; end = n }) in r)) (omega (arith, long)))

pub part_bytes : (bytes : List ℕ) (from to : ℕ) → Fit bytes → All (λ byte. byte < 256) (slice_range bytes from to)
part_bytes bytes from to fits = All-take (λ byte. byte < 256) _ _ (All-drop (λ byte. byte < 256) _ _ (All-from_get_or (λ byte. byte < 256) bytes 0 (λ i inside. fits i)))

-- a payload that was read
record PayloadRead (bytes : List ℕ) (d : ℕ) (earlier : List ℕ) (h : HeadData) (at next : ℕ) : Type 0 where
  pub docs : AreDocs d (docs_in bytes d h at)
  pub count : length (docs_in bytes d h at) ≡ h.count
  pub size : payload_size d (docs_in bytes d h at) h.codec ≡ h.size
  pub alone : shares_one earlier (docs_in bytes d h at) ≡ false
  pub stands : drop at bytes ≡ payload_of h.codec d (docs_in bytes d h at) ++ drop next bytes
  pub within : next ≤ length bytes

abbrev segment_in : List ℕ → ℕ → HeadData → ℕ → SegmentData
segment_in bytes d h at = record { impact = h.impact; docs = docs_in bytes d h at }

head_again : (bytes : List ℕ) (d : ℕ) (earlier : List ℕ) (h : HeadData) (at next : ℕ) → PayloadRead bytes d earlier h at next → head_of d (segment_in bytes d h at) h.codec ≡ h
head_again bytes d earlier h at next is = ap (λ n. (let x : HeadData = record { impact = h.impact; count = n; codec = h.codec; size = payload_size d (docs_in bytes d h at) h.codec } in x)) is.count
    ∙ ap (λ n. (let x : HeadData = record { impact = h.impact; count = h.count; codec = h.codec; size = n } in x)) is.size

placed : (at : ℕ) (r : Result (List ℕ) PayloadFault) (docs : List ℕ) → payload_placed at r ≡ Ok docs → r ≡ Ok docs
placed at (Ok x) docs is = ap Ok (ok_same x docs is)
placed at (Err fault) docs is = absurd cc

abbrev pub head_codec_list : List HeadData → List Codec
head_codec_list heads = map (λ (h : HeadData). h.codec) heads

pub record SegmentsAre (bytes : List ℕ) (d above : ℕ) (earlier : List ℕ) (heads : List HeadData) (at : ℕ) (x : SegmentsRead) : Type 0 where
  pub fall : SegmentsFall d above x.segments
  pub alone : Alone earlier x.segments
  pub same : heads_of d x.segments (head_codec_list heads) ≡ heads
  pub count : length x.segments ≡ length heads
  pub stand : drop at bytes ≡ segments_payloads d x.segments (head_codec_list heads) ++ drop x.end bytes
  pub within : x.end ≤ length bytes

pub record PayloadsAre (bytes : List ℕ) (d : ℕ) (before : Option (List ℕ)) (terms : List TermHeads) (at : ℕ) (x : IndexRead) : Type 0 where
  pub terms_stand : TermsStand d before x.terms
  pub have : HaveCodecs x.terms (head_codecs terms)
  pub same : terms_heads d x.terms (head_codecs terms) ≡ terms
  pub count : length x.terms ≡ length terms
  pub stand : drop at bytes ≡ terms_payloads d x.terms (head_codecs terms) ++ drop x.end bytes
  pub within : x.end ≤ length bytes

module _ (only : (codec : Codec) (d count : ℕ) (docs bytes : List ℕ) → 1 ≤ count → d ≤ 2 ^ 26 → All (λ byte. byte < 256) bytes → read_payload codec d count bytes ≡ Ok docs → AreDocs d docs × (length docs ≡ count) × (bytes ≡ payload_of codec d docs)) where
  payload_only : (bytes : List ℕ) (d : ℕ) (earlier : List ℕ) (h : HeadData) (at next : ℕ) → Fit bytes → d ≤ 2 ^ 26 → 1 ≤ h.count → payload_end bytes d earlier h at ≡ Ok next → PayloadRead bytes d earlier h at next
  unfolding payload_end docs_in read_segment
  payload_only bytes d earlier h at next fits limit some read =
      let part = slice_range bytes at (at + h.size) in
      let result = read_payload h.codec d h.count part in
      let a = bind_ok (judged (check (nat_lt (length bytes) (at + h.size)) at Length ∷ []) result >>= payload_placed at) (λ docs. judged (check (shares_one earlier docs) at DocTwice ∷ []) (at + h.size)) next read in
      let b = bind_ok (judged (check (nat_lt (length bytes) (at + h.size)) at Length ∷ []) result) (payload_placed at) a.0 a.1 in
      let e = judged_ok (check (nat_lt (length bytes) (at + h.size)) at Length ∷ []) result b.0 b.1 in
      let f = judged_ok (check (shares_one earlier a.0) at DocTwice ∷ []) (at + h.size) next a.2 in
      let is_read : result ≡ Ok a.0 = e.1 ∙ placed at b.0 a.0 b.2 in
      let these : docs_or_none result ≡ a.0 = ap docs_or_none is_read in
      let law = only h.codec d h.count a.0 part some limit (part_bytes bytes at (at + h.size) fits) is_read in
      let end : at + h.size ≤ length bytes = ltb-false (length bytes) (at + h.size) e.0.0 in
      let exact : at + h.size - at ≡ h.size = omega arith in
      let long : length part ≡ h.size = ap (λ k. length (take k (drop at bytes))) exact ∙ length-take-le h.size (drop at bytes) (let l = length-drop at bytes in omega (arith, l, end)) in
      let text : drop at bytes ≡ part ++ drop next bytes = sym (take-append-drop h.size (drop at bytes)) ∙ ap (λ xs. xs ++ drop h.size (drop at bytes)) (ap (λ k. take k (drop at bytes)) (sym exact)) ∙ ap (λ xs. part ++ xs) (drop-drop h.size at bytes
      ∙ ap (λ k. drop k bytes) f.1) in
      record {
        docs = subst (AreDocs d) (sym these) law.0;
        count = ap length these ∙ law.1;
        size = ap (λ docs. length (payload_of h.codec d docs)) these ∙ ap length (sym law.2) ∙ long;
        alone = ap (shares_one earlier) these ∙ f.0.0;
        stands = text ∙ ap (λ xs. xs ++ drop next bytes) (law.2 ∙ ap (payload_of h.codec d) (sym these));
        within = subst (λ n. n ≤ length bytes) f.1 end;
      }

  pub segments_only : (bytes : List ℕ) (d above : ℕ) (earlier : List ℕ) (heads : List HeadData) (at : ℕ) (x : SegmentsRead) → Fit bytes → d ≤ 2 ^ 26 → above ≤ 65536 → HeadsFall d above heads → at ≤ length bytes → read_segments bytes d earlier heads at ≡ Ok x
      → SegmentsAre bytes d above earlier heads at x
  segments_only bytes d above earlier [] at x fits limit below fall from read = subst (SegmentsAre bytes d above earlier [] at) (ok_same (record { segments = []; end = at }) x read) (record { fall = tt; alone = tt; same = refl; count = refl; stand = refl; within = from })
  segments_only bytes d above earlier (h ∷ heads) at x fits limit below fall from read =
      let docs = docs_in bytes d h at in
      let s = segment_in bytes d h at in
      let is = fall.0 in
      let falls = is.falls in
      let a = bind_ok (payload_end bytes d earlier h at) (λ next.
      (read_segments bytes d (earlier ++ docs_in bytes d h at) heads next >>= λ later.
      Ok (record { segments = record { impact = h.impact; docs = docs_in bytes d h at } ∷ later.segments; end = later.end }))) x read in
      let one = payload_only bytes d earlier h at a.0 fits limit is.postings a.1 in
      let b = bind_ok (read_segments bytes d (earlier ++ docs_in bytes d h at) heads a.0) (λ later.
      Ok (record { segments = record { impact = h.impact; docs = docs_in bytes d h at } ∷ later.segments; end = later.end })) x a.2 in
      let later = segments_only bytes d h.impact (earlier ++ docs) heads a.0 b.0 fits limit (omega (arith, falls, below)) fall.1 one.within b.1 in
      let codecs = head_codec_list heads in
      subst (SegmentsAre bytes d above earlier (h ∷ heads) at) (ok_same (record { segments = s ∷ b.0.segments; end = b.0.end }) x b.2) (record {
        fall = (record { impact = (is.some, omega (arith, falls, below)); docs = one.docs }, falls, later.fall);
        alone = (one.alone, later.alone);
        same = ap (λ x. x ∷ heads_of d b.0.segments codecs) (head_again bytes d earlier h at a.0 one) ∙ ap (λ xs. h ∷ xs) later.same;
        count = ap suc later.count;
        stand = parts_stand bytes at a.0 b.0.end (payload_of h.codec d docs) (segments_payloads d b.0.segments codecs) one.stands later.stand;
        within = later.within;
      })

  pub payloads_only : (bytes : List ℕ) (d : ℕ) (before : Option (List ℕ)) (terms : List TermHeads) (at : ℕ) (x : IndexRead) → Fit bytes → d ≤ 2 ^ 26 → TermsRise d before terms → at ≤ length bytes
      → read_payloads bytes d terms at ≡ Ok x → PayloadsAre bytes d before terms at x
  payloads_only bytes d before [] at x fits limit rise from read = subst (PayloadsAre bytes d before [] at) (ok_same (record { terms = []; end = at }) x read) (record { terms_stand = tt; have = refl; same = refl; count = refl; stand = refl; within = from })
  payloads_only bytes d before (t ∷ terms) at x fits limit rise from read =
      let a = bind_ok (read_segments bytes d [] t.heads at) (λ here.
      (read_payloads bytes d terms here.end >>= λ later.
      Ok (record { terms = record { term = t.term; segments = here.segments } ∷ later.terms; end = later.end }))) x read in
      let here = segments_only bytes d 65536 [] t.heads at a.0 fits limit (omega arith) rise.2 from a.1 in
      let b = bind_ok (read_payloads bytes d terms a.0.end) (λ later.
      Ok (record { terms = record { term = t.term; segments = a.0.segments } ∷ later.terms; end = later.end })) x a.2 in
      let later = payloads_only bytes d (Some t.term) terms a.0.end b.0 fits limit rise.3 here.within b.1 in
      let codecs = head_codec_list t.heads in
      let payloads = segments_payloads d a.0.segments codecs in
      let one : TermData = record { term = t.term; segments = a.0.segments } in
      let lengths : length codecs ≡ length a.0.segments = length-map t.heads (λ (h : HeadData). h.codec) ∙ sym here.count in
      subst (PayloadsAre bytes d before (t ∷ terms) at) (ok_same (record { terms = one ∷ b.0.terms; end = b.0.end }) x b.2) (record {
        terms_stand = (rise.0, subst (λ n. 1 ≤ n) (sym here.count) rise.1, here.fall, here.alone, later.terms_stand);
        have = ap (λ n. n ∷ map (λ (here : List Codec). length here) (head_codecs terms)) lengths ∙ ap (λ ns. length a.0.segments ∷ ns) later.have;
        same = ap (λ heads. (let y : TermHeads = record { term = t.term; heads = heads } in y) ∷ terms_heads d b.0.terms (head_codecs terms)) here.same ∙ ap (λ xs. t ∷ xs) later.same;
        count = ap suc later.count;
        stand = parts_stand bytes at a.0.end b.0.end payloads (terms_payloads d b.0.terms (head_codecs terms)) here.stand later.stand;
        within = later.within;
      })
