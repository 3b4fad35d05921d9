-- Tables that grow: what stood there stays.
use Rattle.shared_lemmas.proofs.Common.{◌≡◌, ◌≤◌, ◌-◌, ℕ, List, [], ◌++◌, length, map, drop, slice_range, All, ap, sym, subst, ◌∙◌, refl, arith, length-append, length-drop, length-take-le, All-take, All-drop, All-nil, recursion_from_All}
use Rattle.shared_lemmas.proofs.Lists.{all_weaker}
use Rattle.index_model.specs.Index.{SegmentData, TermData}
use Rattle.index_layout.specs.View.{FileView}
use Rattle.index_file.specs.Places.{term_at}
use Rattle.shared_lemmas.proofs.Places.{slice_stays, slice_new}
use Rattle.shard_search.proofs.Ranges.{map_alike}
use Rattle.shard_search.specs.Parts.{IsPartSegment, index_at, pieces_docs}
use Rattle.shard_search.specs.Private.Tables.{IsSegmentRow, IsSpan, IsTable, IsTermRow, row_segment, row_term, span_segments, told_terms}
use Rattle.shard_search.specs.declared.rows.PartSegment.{PartSegment}
use Rattle.shard_search.specs.declared.rows.SegmentRow.{SegmentRow}
use Rattle.shard_search.specs.declared.rows.TermRow.{TermRow}
use Rattle.shard_search.specs.declared.rows.Span.{Span}
use Rattle.shard_search.specs.declared.table.Table.{Table}

module _ (files : List FileView) where
  -- ---- segments

  pub row_stays : (pieces more : List PartSegment) (row : SegmentRow) → IsSegmentRow files pieces row → row_segment files (pieces ++ more) row ≡ row_segment files pieces row
  unfolding row_segment
  row_stays pieces more row is =
      ap (λ (ps : List PartSegment). (let s : SegmentData = record { impact = row.impact; docs = pieces_docs files ps } in s))
      (slice_stays pieces more row.from row.to (omega (arith, is.some)) is.within)

  -- the part segments of a row
  pub row_is : (pieces : List PartSegment) (row : SegmentRow) → (let s : SegmentData = record { impact = row.impact; docs = pieces_docs files (slice_range pieces row.from row.to) } in s) ≡ row_segment files pieces row
  unfolding row_segment
  row_is pieces row = refl

  pub row_counts : (pieces : List PartSegment) (row : SegmentRow) → IsSegmentRow files pieces row → row.count ≡ length (pieces_docs files (slice_range pieces row.from row.to))
  unfolding row_segment
  row_counts pieces row is = is.count

  pub row_pieces : (pieces : List PartSegment) (row : SegmentRow) → All (IsPartSegment files) pieces → All (IsPartSegment files) (slice_range pieces row.from row.to)
  row_pieces pieces row are = All-take (IsPartSegment files) (row.to - row.from) (drop row.from pieces) (All-drop (IsPartSegment files) row.from pieces are)

  pub row_some : (pieces : List PartSegment) (row : SegmentRow) → IsSegmentRow files pieces row → 1 ≤ length (slice_range pieces row.from row.to)
  row_some pieces row is =
      let left = length-drop row.from pieces in
      let size = length-take-le (row.to - row.from) (drop row.from pieces) (omega (arith, left, is.within)) in
      omega (arith, size, is.some)

  pub still_row : (pieces more : List PartSegment) (row : SegmentRow) → IsSegmentRow files pieces row → IsSegmentRow files (pieces ++ more) row
  still_row pieces more row is = record {
    some = is.some;
    within = (let size = length-append pieces more in omega (arith, size, is.within));
    count = is.count ∙ ap (λ (s : SegmentData). length s.docs) (sym (row_stays pieces more row is));
  }

  pub rows_stay : (pieces more : List PartSegment) (rows : List SegmentRow) → All (IsSegmentRow files pieces) rows
      → map (row_segment files (pieces ++ more)) rows ≡ map (row_segment files pieces) rows
  rows_stay pieces more rows are =
      map_alike (row_segment files (pieces ++ more)) (row_segment files pieces) rows
      (all_weaker (IsSegmentRow files pieces) (λ row. row_segment files (pieces ++ more) row ≡ row_segment files pieces row) (row_stays pieces more) rows
      (recursion_from_All (IsSegmentRow files pieces) rows are))

  -- the segment of part segments that were put behind the others
  pub row_behind : (pieces more : List PartSegment) (impact count : ℕ) → row_segment files (pieces ++ more) (record { impact = impact; count = count; from = length pieces; to = length (pieces ++ more) }) ≡ record { impact = impact; docs = pieces_docs files more }
  unfolding row_segment
  row_behind pieces more impact count =
      ap (λ (ps : List PartSegment). (let s : SegmentData = record { impact = impact; docs = pieces_docs files ps } in s)) (slice_new pieces more (length pieces) (length (pieces ++ more)) refl refl)

  -- ---- terms

  module _ (old : Table) (ps : List PartSegment) (rows : List SegmentRow) (stands : IsTable files old) where
    abbrev pub grown : List TermRow → Table
    grown terms = record { pieces = old.pieces ++ ps; segments = old.segments ++ rows; terms = terms }

    span_stays : (terms : List TermRow) (span : Span) → IsSpan old.segments span → span_segments files (grown terms) span ≡ span_segments files old span
    unfolding span_segments row_segment
    span_stays terms span is =
        ap (map (row_segment files (old.pieces ++ ps))) (slice_stays old.segments rows span.from span.to is.order is.within)
        ∙ rows_stay old.pieces ps (slice_range old.segments span.from span.to)
        (All-take (IsSegmentRow files old.pieces) (span.to - span.from) (drop span.from old.segments) (All-drop (IsSegmentRow files old.pieces) span.from old.segments stands.segments))

    term_stays : (terms : List TermRow) (row : TermRow) → IsTermRow files old.segments row → row_term files (grown terms) row ≡ row_term files old row
    unfolding row_term
    term_stays terms row is = ap (λ (ss : List SegmentData). (let t : TermData = record { term = term_at (index_at files row.part).terms row.term; segments = ss } in t)) (span_stays terms row.span is.span)

    pub terms_stay : (terms : List TermRow) → map (row_term files (grown terms)) old.terms ≡ map (row_term files old) old.terms
    terms_stay terms =
        map_alike (row_term files (grown terms)) (row_term files old) old.terms
        (all_weaker (IsTermRow files old.segments) (λ row. row_term files (grown terms) row ≡ row_term files old row) (term_stays terms) old.terms
        (recursion_from_All (IsTermRow files old.segments) old.terms stands.terms))

    pub still_term : (row : TermRow) → IsTermRow files old.segments row → IsTermRow files (old.segments ++ rows) row
    still_term row is = record {
      part = is.part;
      term = is.term;
      span = record { order = is.span.order; within = (let size = length-append old.segments rows in omega (arith, size, is.span.within)) };
    }

  -- ---- a table with no rows

  pub nothing_stands : (t : Table) → t.pieces ≡ [] → t.segments ≡ [] → t.terms ≡ [] → IsTable files t
  nothing_stands t pieces segments terms = record {
    pieces = subst (All (IsPartSegment files)) (sym pieces) (All-nil (IsPartSegment files));
    segments = subst (All (IsSegmentRow files t.pieces)) (sym segments) (All-nil (IsSegmentRow files t.pieces));
    terms = subst (All (IsTermRow files t.segments)) (sym terms) (All-nil (IsTermRow files t.segments));
  }

  pub nothing_told : (t : Table) → t.terms ≡ [] → told_terms files t ≡ []
  unfolding told_terms
  nothing_told t terms = ap (map (row_term files t)) terms
