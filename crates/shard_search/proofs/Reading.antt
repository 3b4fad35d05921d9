-- Terms and segments of a table by their numbers.
use Rattle.shared_lemmas.proofs.Common.{◌≡◌, ◌≤◌, ◌<◌, ◌+◌, ◌-◌, ℕ, List, [], length, map, drop, slice_range, slice_index_or, ap, sym, ◌∙◌, arith, length-map, length-drop, length-take-le, get_or-map, get_or-take, get_or-drop}
use Rattle.index_model.specs.Index.{SegmentData, TermData}
use Rattle.index_model.specs.Querying.{segments_at}
use Rattle.index_layout.specs.View.{FileView}
use Rattle.index_file.specs.Places.{segment_at, term_at}
use Rattle.shard_search.proofs.Joins.{no_row, term_told, terms_counted, text_told}
use Rattle.shard_search.proofs.Tables.{row_is}
use Rattle.shard_search.specs.Parts.{index_at, pieces_docs}
use Rattle.shard_search.specs.Private.Tables.{IsSegmentRow, IsTable, IsTermRow, row_segment, row_term, span_segments, told_terms}
use Rattle.shard_search.specs.declared.rows.SegmentRow.{SegmentRow}
use Rattle.shard_search.specs.declared.rows.TermRow.{TermRow}
use Rattle.shard_search.specs.declared.table.Table.{Table}

abbrev pub no_segment : SegmentRow
no_segment = record { impact = 0; count = 0; from = 0; to = 0 }

-- an item of a range
range_at : {A : Type 0} (xs : List A) (from to i : ℕ) (d : A) → i < to - from → slice_index_or (slice_range xs from to) i d ≡ slice_index_or xs (from + i) d
range_at xs from to i d inside = get_or-take (to - from) (drop from xs) i d inside ∙ get_or-drop from xs i d

range_counted : {A : Type 0} (xs : List A) (from to : ℕ) → to ≤ length xs → length (slice_range xs from to) ≡ to - from
range_counted xs from to within = length-take-le (to - from) (drop from xs) (let left = length-drop from xs in omega (arith, left, within))

module _ (files : List FileView) (t : Table) (stands : IsTable files t) (terms : List TermData) (told : terms ≡ told_terms files t) (n : ℕ) (inside : n < length terms) where
  abbrev row : TermRow
  row = slice_index_or t.terms n no_row

  pub row_there : n < length t.terms
  row_there = (let count = terms_counted files t in let same = ap length told in omega (arith, inside, count, same))

  pub row_stands : IsTermRow files t.segments (slice_index_or t.terms n no_row)
  row_stands = stands.terms n no_row row_there

  term_is : slice_index_or terms n (record { term = []; segments = [] }) ≡ row_term files t row
  term_is = ap (λ (l : List TermData). slice_index_or l n (record { term = []; segments = [] })) told ∙ term_told files t n no_row (record { term = []; segments = [] }) row_there

  pub text_is : term_at terms n ≡ term_at (index_at files (slice_index_or t.terms n no_row).part).terms (slice_index_or t.terms n no_row).term
  text_is = ap (λ (x : TermData). x.term) term_is ∙ text_told files t row

  segments_are : segments_at terms n ≡ map (row_segment files t.pieces) (slice_range t.segments row.span.from row.span.to)
  unfolding row_term span_segments
  segments_are = ap (λ (x : TermData). x.segments) term_is

  pub segments_counted : length (segments_at terms n) ≡ (slice_index_or t.terms n no_row).span.to - (slice_index_or t.terms n no_row).span.from
  segments_counted =
      ap length segments_are ∙ length-map (slice_range t.segments row.span.from row.span.to) (row_segment files t.pieces)
      ∙ range_counted t.segments row.span.from row.span.to row_stands.span.within

  module _ (s : ℕ) (has : s < length (segments_at terms n)) where
    pub segment_there : (slice_index_or t.terms n no_row).span.from + s < length t.segments
    segment_there = (let count = segments_counted in let within = row_stands.span.within in omega (arith, has, count, within))

    pub segment_stands : IsSegmentRow files t.pieces (slice_index_or t.segments ((slice_index_or t.terms n no_row).span.from + s) no_segment)
    segment_stands = stands.segments (row.span.from + s) no_segment segment_there

    pub segment_is : segment_at terms n s ≡ row_segment files t.pieces (slice_index_or t.segments ((slice_index_or t.terms n no_row).span.from + s) no_segment)
    segment_is =
        let low : s < row.span.to - row.span.from = (let count = segments_counted in omega (arith, has, count)) in
        let size = range_counted t.segments row.span.from row.span.to row_stands.span.within in
        ap (λ (l : List SegmentData). slice_index_or l s (record { impact = 0; docs = [] })) segments_are
        ∙ get_or-map (row_segment files t.pieces) (slice_range t.segments row.span.from row.span.to) s no_segment (record { impact = 0; docs = [] }) (omega (arith, low, size))
        ∙ ap (row_segment files t.pieces) (range_at t.segments row.span.from row.span.to s no_segment low)

    pub impact_is : (slice_index_or t.segments ((slice_index_or t.terms n no_row).span.from + s) no_segment).impact ≡ (segment_at terms n s).impact
    unfolding row_segment
    impact_is = sym (ap (λ (x : SegmentData). x.impact) segment_is)

    pub count_is : (slice_index_or t.segments ((slice_index_or t.terms n no_row).span.from + s) no_segment).count ≡ length (segment_at terms n s).docs
    count_is = segment_stands.count ∙ ap (λ (x : SegmentData). length x.docs) (sym segment_is)

    pub docs_are : pieces_docs files (slice_range t.pieces (slice_index_or t.segments ((slice_index_or t.terms n no_row).span.from + s) no_segment).from (slice_index_or t.segments ((slice_index_or t.terms n no_row).span.from + s) no_segment).to)
        ≡ (segment_at terms n s).docs
    docs_are = ap (λ (x : SegmentData). x.docs) (row_is files t.pieces (slice_index_or t.segments (row.span.from + s) no_segment) ∙ sym segment_is)
