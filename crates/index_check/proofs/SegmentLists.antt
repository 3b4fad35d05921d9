-- The segments of a term, read one after the other.
use Rattle.shared_lemmas.proofs.Common.{◌≡◌, ℕ, ◌+◌, ◌*◌, ◌<◌, ◌≤◌, nat_tests, All, All-weaker, List, [], ◌∷◌, ◌++◌, length, drop, slice_index, slice_index_or, Result, Ok, Err, refl, ap, sym, subst, ◌∙◌, arith, flat_map, flat_map-append, sum_by, sum_by-append, sum_by-cons, drop_more, drop_of_length-le}
use Rattle.std.proofs.lemmas.List.{append-nil}
use Rattle.std.proofs.lemmas.List.FromFn.{get_or-map-range_with_len, length-map-range_with_len}
use Rattle.segment_codecs.specs.declared.codec.Codec.TheVariants.{Varbyte}
use Rattle.whole_files.specs.Windows.{AreFrom}
use Rattle.index_model.specs.Index.{SegmentData}
use Rattle.index_layout.specs.Heads.{HeadData}
use Rattle.index_layout.specs.Reading.{SegmentsRead, docs_in, head_in, payload_end, read_segments}
use Rattle.index_layout.specs.Refusals.{◌>>=◌}
use Rattle.index_layout.specs.declared.refusal.OpenFault.{OpenFault}
use Rattle.index_layout.specs.declared.refusal.OpenRefusal.{OpenRefusal}
use Rattle.index_layout.proofs.Behind.{behind_segments, with_segments}
use Rattle.index_file.specs.Marks.{AreMarks}
use Rattle.index_file.specs.Parts.{IsCounted, heads_from}
use Rattle.index_file.proofs.Pieces.{head_moved}
use Rattle.index_file.specs.Answers.{Stops}
use Rattle.index_check.specs.Private.Answers.{EndsSegments}
use Rattle.index_file.proofs.Stopping.{stops_as, stops_on}

none : HeadData
none = record { impact = 0; count = 0; codec = Varbyte; size = 0 }

pub heads_length : (content : List ℕ) (k place : ℕ) → length (heads_from content k place) ≡ k
heads_length content k place = length-map-range_with_len (λ s. head_in content (place + 11 * s)) 0 k

head_there : (content : List ℕ) (k place i : ℕ) → i < k → slice_index_or (heads_from content k place) i none ≡ head_in content (place + 11 * i)
head_there content k place i inside = get_or-map-range_with_len (λ s. head_in content (place + 11 * s)) 0 k i i none inside (omega arith)

-- the next head, read from the heads of a term
module _ (content heads : List ℕ) (place k i : ℕ) (h : HeadData) (from : AreFrom content place heads) (many : 11 * k ≤ length heads) (inside : i < k) (is : h ≡ head_in heads (11 * i)) where
  here : head_in content (place + 11 * i) ≡ h
  here = sym (is ∙ head_moved content heads place (11 * i) from (omega (arith, many, inside)))

  pub next_head : drop i (heads_from content k place) ≡ h ∷ drop (i + 1) (heads_from content k place)
  next_head =
      let size = heads_length content k place in
      drop_more (heads_from content k place) i none (omega (arith, inside, size))
      ∙ ap (λ x. x ∷ drop (i + 1) (heads_from content k place)) (head_there content k place i inside ∙ here)

  pub next_counted : (d : ℕ) → All (IsCounted d) (heads_from content k place) → IsCounted d h
  next_counted d counted =
      let size = heads_length content k place in
      subst (IsCounted d) (head_there content k place i inside ∙ here) (counted i none (omega (arith, inside, size)))

abbrev docs_of : SegmentData → List ℕ
docs_of s = s.docs

-- so many segments are read, and their documents marked
pub record SegmentsStand (content : List ℕ) (d now : ℕ) (heads : List HeadData) (from i at : ℕ) (marks : List ℕ) : Type 0 where
  pub front : List SegmentData
  pub read : read_segments content d [] heads from ≡ with_segments front (read_segments content d (flat_map docs_of front) (drop i heads) at)
  pub marked : AreMarks now (flat_map docs_of front) marks
  pub counts : sum_by (λ (s : SegmentData). length s.docs) front + sum_by (λ (h : HeadData). h.count) (drop i heads) ≡ sum_by (λ (h : HeadData). h.count) heads

unmarked : (now : ℕ) (marks : List ℕ) → All (λ mark. mark < now) marks → AreMarks now [] marks
unmarked now marks below = record {
  met = λ doc inside. (let less : slice_index marks doc < now = below doc 0 inside in grind (arith, nat_tests, less));
  most = All-weaker (λ mark. mark < now) (λ mark. mark ≤ now) (λ mark less. omega (arith, less)) marks below;
}

no_segments : (read : Result SegmentsRead OpenRefusal) → read ≡ with_segments [] read
no_segments (Ok x) = refl
no_segments (Err e) = refl

pub segments_begin : (content : List ℕ) (d now : ℕ) (heads : List HeadData) (from : ℕ) (marks : List ℕ) → All (λ mark. mark < now) marks → SegmentsStand content d now heads from 0 from marks
segments_begin content d now heads from marks below = record {
  front = [];
  read = no_segments (read_segments content d [] heads from);
  marked = unmarked now marks below;
  counts = omega arith;
}

module _ (content : List ℕ) (d now : ℕ) (heads : List HeadData) (from i at : ℕ) (marks : List ℕ) (stand : SegmentsStand content d now heads from i at marks) where
  pub segments_end : length heads ≤ i → EndsSegments heads (Ok at) (read_segments content d [] heads from)
  segments_end all =
      let none_left : drop i heads ≡ [] = drop_of_length-le heads all in
      let counts : sum_by (λ (s : SegmentData). length s.docs) stand.front ≡ sum_by (λ (h : HeadData). h.count) heads =
      (let rest = ap (sum_by (λ (h : HeadData). h.count)) none_left in let both = stand.counts in omega (arith, rest, both)) in
      let x : SegmentsRead = record { segments = stand.front; end = at } in (
        x,
        stand.read ∙ ap (λ left. with_segments stand.front (read_segments content d (flat_map docs_of stand.front) left at)) (drop_of_length-le heads all)
            ∙ ap (λ (segments : List SegmentData). (let r : Result SegmentsRead OpenRefusal = Ok (record { segments = segments; end = at }) in r)) (append-nil stand.front),
        refl,
        counts,
      )

  module _ (h : HeadData) (rest : List HeadData) (next_is : drop i heads ≡ h ∷ rest) where
    abbrev behind : ℕ → Result SegmentsRead OpenRefusal
    behind next = read_segments content d (flat_map docs_of stand.front ++ docs_in content d h at) rest next >>= λ later.
        Ok (record { segments = record { impact = h.impact; docs = docs_in content d h at } ∷ later.segments; end = later.end })

    read_next : read_segments content d [] heads from ≡ with_segments stand.front (payload_end content d (flat_map docs_of stand.front) h at >>= behind)
    read_next = stand.read ∙ ap (λ left. with_segments stand.front (read_segments content d (flat_map docs_of stand.front) left at)) next_is

    pub segments_stop : (fault : OpenFault) → ((earlier : List ℕ) → AreMarks now earlier marks → Stops fault (payload_end content d earlier h at)) → Stops fault (read_segments content d [] heads from)
    segments_stop fault stops =
        let read = payload_end content d (flat_map docs_of stand.front) h at in
        stops_as fault (read_segments content d [] heads from) (with_segments stand.front (read >>= behind)) read_next
        (stops_on fault (read >>= behind) (λ x. Ok (record { segments = stand.front ++ x.segments; end = x.end })) (stops_on fault read behind (stops (flat_map docs_of stand.front) stand.marked)))

module _ (content : List ℕ) (d now : ℕ) (heads : List HeadData) (from i at next : ℕ) (marks newer : List ℕ) (h : HeadData) where
  pub segments_more : SegmentsStand content d now heads from i at marks → drop i heads ≡ h ∷ drop (i + 1) heads → ((earlier : List ℕ) → AreMarks now earlier marks → payload_end content d earlier h at ≡ Ok next)
      → ((earlier : List ℕ) → AreMarks now earlier marks → AreMarks now (earlier ++ docs_in content d h at) newer) → length (docs_in content d h at) ≡ h.count
      → SegmentsStand content d now heads from (i + 1) next newer
  segments_more stand next_is end marked many =
      let segment : SegmentData = record { impact = h.impact; docs = docs_in content d h at } in
      let front : List SegmentData = stand.front in
      let docs : List ℕ = flat_map docs_of front ++ docs_in content d h at in
      let all : flat_map docs_of (front ++ segment ∷ []) ≡ docs = flat_map-append docs_of front (segment ∷ []) ∙ ap (λ xs. flat_map docs_of front ++ xs) (append-nil (docs_in content d h at)) in
      let rest : List HeadData = drop (i + 1) heads in
      record {
        front = front ++ segment ∷ [];
        read = read_next content d now heads from i at marks stand h rest next_is
            ∙ ap (λ (e : Result ℕ OpenRefusal). with_segments front (e >>= behind content d now heads from i at marks stand h rest next_is)) (end (flat_map docs_of front) stand.marked)
            ∙ behind_segments front segment (read_segments content d docs rest next)
            ∙ ap (λ xs. with_segments (front ++ segment ∷ []) (read_segments content d xs rest next)) (sym all);
        marked = subst (λ xs. AreMarks now xs newer) (sym all) (marked (flat_map docs_of front) stand.marked);
        counts =
            let both = stand.counts in
            let left = ap (sum_by (λ (h : HeadData). h.count)) next_is in
            let grown = sum_by-append (λ (s : SegmentData). length s.docs) front (segment ∷ []) in
            let one = sum_by-cons (λ (s : SegmentData). length s.docs) segment [] in
            let first = sum_by-cons (λ (h : HeadData). h.count) h rest in
            omega (arith, both, left, grown, one, first, many);
      }
