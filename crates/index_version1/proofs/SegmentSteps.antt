-- Segments that are read one after the other.
use Rattle.std.proofs.Common.{suc, add-one, ◌≡◌, ℕ, ◌+◌, ◌<◌, List, [], ◌∷◌, ◌++◌, length, map, drop, get_or, Result, Ok, ap, sym, subst, ◌∙◌, flat_map}
use Rattle.std.proofs.Math.Seq.{drop-cons}
use Rattle.std.proofs.lemmas.List.{map_push, append-nil}
use Rattle.std.proofs.lemmas.Grind.{flat_map-append}
use Rattle.index_version1.proofs.Below.{Segment, SegmentData, segment_data, HeadData, OpenRefusal, ◌>>=◌, SegmentsRead, docs_in, payload_end, read_segments, HeadsFall, with_segments, behind_segments}
use Rattle.index_version1.specs.declared.head.Head.{Head}
use Rattle.index_version1.specs.Private.Tables.{head_data}

-- the documents of segments
abbrev pub all_docs : List SegmentData → List ℕ
all_docs segments = flat_map (λ (s : SegmentData). s.docs) segments

pub heads_next : (heads : List Head) (i : ℕ) (h : Head) → i < length heads → h ≡ get_or heads i h → map head_data (drop i heads) ≡ head_data h ∷ map head_data (drop (i + 1) heads)
heads_next heads i h inside is =
    ap (map head_data) (drop-cons heads i h inside ∙ ap (λ x. x ∷ drop (suc i) heads) (sym is) ∙ ap (λ n. h ∷ drop n heads) (sym (add-one i)))

docs_pushed : (front : List SegmentData) (s : SegmentData) → all_docs (front ++ s ∷ []) ≡ all_docs front ++ s.docs
docs_pushed front s = flat_map-append (λ (s : SegmentData). s.docs) front (s ∷ []) ∙ ap (λ xs. all_docs front ++ xs) (append-nil s.docs)

-- one segment more
pub segments_on : (bytes : List ℕ) (d : ℕ) (total : Result SegmentsRead OpenRefusal) (segments new : List Segment) (s : Segment) (h : HeadData) (heads rest : List HeadData) (at next : ℕ) → new ≡ segments ++ s ∷ [] → heads ≡ h ∷ rest
    → total ≡ with_segments (map segment_data segments) (read_segments bytes d (all_docs (map segment_data segments)) heads at)
    → payload_end bytes d (all_docs (map segment_data segments)) h at ≡ Ok next → segment_data s ≡ record { impact = h.impact; docs = docs_in bytes d h at }
    → total ≡ with_segments (map segment_data new) (read_segments bytes d (all_docs (map segment_data new)) rest next)
segments_on bytes d total segments new s h heads rest at next put split is end segment =
    let front = map segment_data segments in
    let earlier = all_docs front in
    let docs = docs_in bytes d h at in
    is ∙ ap (λ hs. with_segments front (read_segments bytes d earlier hs at)) split
    ∙ ap (λ (e : Result ℕ OpenRefusal). with_segments front (e >>= λ next. (read_segments bytes d (earlier ++ docs) rest next >>= λ later. Ok (record { segments = record { impact = h.impact; docs = docs } ∷ later.segments; end = later.end })))) end
    ∙ behind_segments front (record { impact = h.impact; docs = docs }) (read_segments bytes d (earlier ++ docs) rest next)
    ∙ ap (λ (x : SegmentData). with_segments (front ++ x ∷ []) (read_segments bytes d (earlier ++ x.docs) rest next)) (sym segment)
    ∙ ap (λ xs. with_segments (front ++ segment_data s ∷ []) (read_segments bytes d xs rest next)) (sym (docs_pushed front (segment_data s)))
    ∙ ap (λ (ss : List SegmentData). with_segments ss (read_segments bytes d (all_docs ss) rest next)) (sym (map_push segment_data segments s))
    ∙ ap (λ (ss : List Segment). with_segments (map segment_data ss) (read_segments bytes d (all_docs (map segment_data ss)) rest next)) (sym put)

-- the documents so far, with those of one segment more
pub docs_on : (bytes : List ℕ) (d : ℕ) (segments new : List Segment) (s : Segment) (h : HeadData) (at : ℕ) → new ≡ segments ++ s ∷ [] → segment_data s ≡ record { impact = h.impact; docs = docs_in bytes d h at }
    → all_docs (map segment_data segments) ++ docs_in bytes d h at ≡ all_docs (map segment_data new)
docs_on bytes d segments new s h at put segment =
    ap (λ (x : SegmentData). all_docs (map segment_data segments) ++ x.docs) (sym segment) ∙ sym (docs_pushed (map segment_data segments) (segment_data s))
    ∙ ap all_docs (sym (map_push segment_data segments s)) ∙ ap (λ (ss : List Segment). all_docs (map segment_data ss)) (sym put)

pub fall_on : (d above : ℕ) (h : HeadData) (heads rest : List HeadData) → heads ≡ h ∷ rest → HeadsFall d above heads → (above : ℕ) × HeadsFall d above rest
fall_on d above h heads rest split fall = (h.impact, (subst (HeadsFall d above) split fall).1)
