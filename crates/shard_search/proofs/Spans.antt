-- Two spans of segments that are merged, step by step.
use Rattle.shared_lemmas.proofs.Common.{◌≡◌, ◌≤◌, ◌<◌, ◌+◌, List, [], ◌∷◌, ◌++◌, map, slice_index_or, ap, ap₂, sym, ◌∙◌, refl, arith, append_assoc, append-nil, nat_cmp, Less, Equal, Greater}
use Rattle.index_model.specs.Index.{SegmentData}
use Rattle.index_layout.specs.View.{FileView}
use Rattle.shard_search.proofs.Ranges.{range_cons, range_none}
use Rattle.shard_search.proofs.Merges.{takes_first, takes_second, takes_both}
use Rattle.index_model.specs.Merging.{joined_segment, merged_segments, segment_cmp}
use Rattle.shard_search.specs.Private.Heads.{head_order}
use Rattle.shard_search.specs.Private.Tables.{Grows, IsSpan, IsTable, row_segment, span_segments, told_segments, told_terms}
use Rattle.shard_search.specs.declared.rows.SegmentRow.{SegmentRow}
use Rattle.shard_search.specs.declared.rows.Span.{Span}
use Rattle.shard_search.specs.declared.table.Table.{Table}

-- the span without its first row
abbrev pub behind : Span → Span
behind span = record { from = span.from + 1; to = span.to }

module _ (files : List FileView) where
  pub span_none : (t : Table) (span : Span) → span.to ≤ span.from → span_segments files t span ≡ []
  unfolding span_segments
  span_none t span over = ap (map (row_segment files t.pieces)) (range_none t.segments span.from span.to over)

  pub span_cons : (t : Table) (span : Span) (d : SegmentRow) → IsSpan t.segments span → span.from < span.to
      → span_segments files t span ≡ row_segment files t.pieces (slice_index_or t.segments span.from d) ∷ span_segments files t (behind span)
  unfolding span_segments
  span_cons t span d is some = ap (map (row_segment files t.pieces)) (range_cons t.segments span.from span.to d some is.within)

  same_impact : (t : Table) (row : SegmentRow) → (row_segment files t.pieces row).impact ≡ row.impact
  unfolding row_segment
  same_impact t row = refl

  pub behind_is : (t : Table) (span : Span) → IsSpan t.segments span → span.from < span.to → IsSpan t.segments (behind span)
  behind_is t span is some = record { order = omega (arith, some); within = is.within }

  -- ---- which span has the next segment

  module _ (first second : Table) (own other : Span) where
    pub second_next : own.to ≤ own.from → head_order segment_cmp (span_segments files first own) (span_segments files second other) ≡ Greater
    second_next over = ap (λ (l : List SegmentData). head_order segment_cmp l (span_segments files second other)) (span_none first own over)

    pub first_next : (d : SegmentRow) → IsSpan first.segments own → own.from < own.to → other.to ≤ other.from
        → head_order segment_cmp (span_segments files first own) (span_segments files second other) ≡ Less
    first_next d is some over = ap₂ (head_order segment_cmp) (span_cons first own d is some) (span_none second other over)

    pub both_next : (d : SegmentRow) → IsSpan first.segments own → own.from < own.to → IsSpan second.segments other → other.from < other.to
        → head_order segment_cmp (span_segments files first own) (span_segments files second other)
        ≡ nat_cmp (slice_index_or second.segments other.from d).impact (slice_index_or first.segments own.from d).impact
    both_next d is some has more =
        ap₂ (head_order segment_cmp) (span_cons first own d is some) (span_cons second other d has more)
        ∙ ap₂ nat_cmp (same_impact second (slice_index_or second.segments other.from d)) (same_impact first (slice_index_or first.segments own.from d))

  -- ---- the merging of two spans, of which these are left

  pub record Merging (first second : Table) (own_all other_all : Span) (entry : Table) (own other : Span) (now : Table) : Type 0 where
    pub left : told_segments files now ++ merged_segments (span_segments files first own) (span_segments files second other)
        ≡ told_segments files entry ++ merged_segments (span_segments files first own_all) (span_segments files second other_all)
    pub terms : told_terms files now ≡ told_terms files entry
    pub stands : IsTable files now
    pub own_is : IsSpan first.segments own
    pub other_is : IsSpan second.segments other

  module _ (first second : Table) (own_all other_all : Span) (entry : Table) (own other : Span) (now new : Table)
      (merging : Merging first second own_all other_all entry own other now) where
    moved : (own_next other_next : Span) (x : SegmentData) → Grows files now new (x ∷ [])
        → merged_segments (span_segments files first own) (span_segments files second other)
        ≡ x ∷ merged_segments (span_segments files first own_next) (span_segments files second other_next)
        → IsSpan first.segments own_next → IsSpan second.segments other_next
        → Merging first second own_all other_all entry own_next other_next new
    moved own_next other_next x grows step mine theirs = record {
      left =
          ap (λ (l : List SegmentData). l ++ merged_segments (span_segments files first own_next) (span_segments files second other_next)) grows.segments
          ∙ append_assoc (told_segments files now) (x ∷ []) (merged_segments (span_segments files first own_next) (span_segments files second other_next))
          ∙ ap (λ (l : List SegmentData). told_segments files now ++ l) (sym step)
          ∙ merging.left;
      terms = grows.terms ∙ merging.terms;
      stands = grows.stands;
      own_is = mine;
      other_is = theirs;
    }

    order_at : (d : SegmentRow) → own.from < own.to
        → head_order segment_cmp (span_segments files first own) (span_segments files second other)
        ≡ head_order segment_cmp (row_segment files first.pieces (slice_index_or first.segments own.from d) ∷ span_segments files first (behind own)) (span_segments files second other)
    order_at d some = ap (λ (l : List SegmentData). head_order segment_cmp l (span_segments files second other)) (span_cons first own d merging.own_is some)

    pub first_moves : (d : SegmentRow) → own.from < own.to
        → head_order segment_cmp (span_segments files first own) (span_segments files second other) ≡ Less
        → Grows files now new (row_segment files first.pieces (slice_index_or first.segments own.from d) ∷ [])
        → Merging first second own_all other_all entry (behind own) other new
    first_moves d some less grows =
        moved (behind own) other (row_segment files first.pieces (slice_index_or first.segments own.from d)) grows
        (ap (λ (l : List SegmentData). merged_segments l (span_segments files second other)) (span_cons first own d merging.own_is some)
        ∙ takes_first segment_cmp joined_segment (row_segment files first.pieces (slice_index_or first.segments own.from d)) (span_segments files first (behind own)) (span_segments files second other)
        (sym (order_at d some) ∙ less))
        (behind_is first own merging.own_is some) merging.other_is

    pub second_moves : (d : SegmentRow) → other.from < other.to
        → head_order segment_cmp (span_segments files first own) (span_segments files second other) ≡ Greater
        → Grows files now new (row_segment files second.pieces (slice_index_or second.segments other.from d) ∷ [])
        → Merging first second own_all other_all entry own (behind other) new
    second_moves d some greater grows =
        let cons = span_cons second other d merging.other_is some in
        moved own (behind other) (row_segment files second.pieces (slice_index_or second.segments other.from d)) grows
        (ap (merged_segments (span_segments files first own)) cons
        ∙ takes_second segment_cmp joined_segment (span_segments files first own) (row_segment files second.pieces (slice_index_or second.segments other.from d)) (span_segments files second (behind other))
        (sym (ap (head_order segment_cmp (span_segments files first own)) cons) ∙ greater))
        merging.own_is (behind_is second other merging.other_is some)

    pub both_move : (d : SegmentRow) → own.from < own.to → other.from < other.to
        → head_order segment_cmp (span_segments files first own) (span_segments files second other) ≡ Equal
        → Grows files now new (joined_segment (row_segment files first.pieces (slice_index_or first.segments own.from d)) (row_segment files second.pieces (slice_index_or second.segments other.from d)) ∷ [])
        → Merging first second own_all other_all entry (behind own) (behind other) new
    both_move d some more equal grows =
        let one = span_cons first own d merging.own_is some in
        let two = span_cons second other d merging.other_is more in
        moved (behind own) (behind other) _ grows
        (ap₂ merged_segments one two
        ∙ takes_both segment_cmp joined_segment (row_segment files first.pieces (slice_index_or first.segments own.from d)) (span_segments files first (behind own))
        (row_segment files second.pieces (slice_index_or second.segments other.from d)) (span_segments files second (behind other))
        (sym (ap₂ (head_order segment_cmp) one two) ∙ equal))
        (behind_is first own merging.own_is some) (behind_is second other merging.other_is more)

  module _ (first second : Table) (own_all other_all : Span) (entry : Table) where
    pub begins : IsTable files entry → IsSpan first.segments own_all → IsSpan second.segments other_all → Merging first second own_all other_all entry own_all other_all entry
    begins stands own other = record { left = refl; terms = refl; stands = stands; own_is = own; other_is = other }

    pub ends : (own other : Span) (now : Table) → Merging first second own_all other_all entry own other now → own.to ≤ own.from → other.to ≤ other.from
        → Grows files entry now (merged_segments (span_segments files first own_all) (span_segments files second other_all))
    ends own other now merging over out = record {
      segments =
          sym (append-nil (told_segments files now))
          ∙ ap (λ (l : List SegmentData). told_segments files now ++ l) (sym (ap₂ merged_segments (span_none first own over) (span_none second other out)))
          ∙ merging.left;
      terms = merging.terms;
      stands = merging.stands;
    }
