-- A table with one segment more, and with one term more.
use Rattle.shared_lemmas.proofs.Common.{◌≡◌, ◌≤◌, ◌<◌, ◌+◌, ℕ, List, [], ◌∷◌, ◌++◌, length, map, take, slice_range, slice_index_or, map_more, take_all, All, ap, ap₂, sym, subst, ◌∙◌, refl, arith, map-append, length-append, length-map, All-append, All-weaker, All-push, append_assoc, append-nil}
use Rattle.index_model.specs.Index.{SegmentData, TermData}
use Rattle.index_layout.specs.View.{FileView}
use Rattle.index_file.specs.Places.{term_at}
use Rattle.shared_lemmas.proofs.Places.{slice_new}
use Rattle.shard_search.proofs.Ranges.{map_range}
use Rattle.shard_search.proofs.Tables.{grown, row_behind, rows_stay, still_row, still_term, terms_stay}
use Rattle.shard_search.specs.Parts.{IsPartSegment, index_at, pieces_docs}
use Rattle.shard_search.specs.Private.Tables.{Grows, GrowsTerm, IsSegmentRow, IsTable, IsTermRow, row_segment, row_term, span_segments, told_segments, told_terms}
use Rattle.shard_search.specs.declared.rows.PartSegment.{PartSegment}
use Rattle.shard_search.specs.declared.rows.SegmentRow.{SegmentRow}
use Rattle.shard_search.specs.declared.rows.TermRow.{TermRow}
use Rattle.shard_search.specs.declared.table.Table.{Table}

table_is : (t : Table) (pieces : List PartSegment) (segments : List SegmentRow) (terms : List TermRow) → t.pieces ≡ pieces → t.segments ≡ segments → t.terms ≡ terms
    → record { pieces = pieces; segments = segments; terms = terms } ≡ t
table_is t pieces segments terms p s m = rw (sym p, sym s, sym m) refl

module _ (files : List FileView) (old : Table) (stands : IsTable files old) where
  module _ (ps : List PartSegment) (impact count : ℕ) (are : All (IsPartSegment files) ps) (some : 1 ≤ length ps) (counts : count ≡ length (pieces_docs files ps)) where
    abbrev row : SegmentRow
    row = record { impact = impact; count = count; from = length old.pieces; to = length (old.pieces ++ ps) }

    abbrev after : Table
    after = grown files old ps (row ∷ []) stands old.terms

    here : row_segment files (old.pieces ++ ps) row ≡ record { impact = impact; docs = pieces_docs files ps }
    here = row_behind files old.pieces ps impact count

    is_row : IsSegmentRow files (old.pieces ++ ps) row
    is_row = record {
      some = (let size = length-append old.pieces ps in omega (arith, size, some));
      within = omega arith;
      count = counts ∙ ap (λ (s : SegmentData). length s.docs) (sym here);
    }

    more_segments : told_segments files after ≡ told_segments files old ++ (record { impact = impact; docs = pieces_docs files ps } ∷ [])
    unfolding told_segments
    more_segments =
        map-append (row_segment files (old.pieces ++ ps)) old.segments (row ∷ [])
        ∙ ap₂ (λ (a b : List SegmentData). a ++ b) (rows_stay files old.pieces ps old.segments stands.segments) (ap (λ (s : SegmentData). s ∷ []) here)

    same_terms : told_terms files after ≡ told_terms files old
    unfolding told_terms
    same_terms = terms_stay files old ps (row ∷ []) stands old.terms

    stands_after : IsTable files after
    stands_after = record {
      pieces = All-append (IsPartSegment files) old.pieces ps stands.pieces are;
      segments = All-push (IsSegmentRow files (old.pieces ++ ps)) old.segments row
          (All-weaker (IsSegmentRow files old.pieces) (IsSegmentRow files (old.pieces ++ ps)) (still_row files old.pieces ps) old.segments stands.segments) is_row;
      terms = All-weaker (IsTermRow files old.segments) (IsTermRow files (old.segments ++ row ∷ [])) (still_term files old ps (row ∷ []) stands) old.terms stands.terms;
    }

    -- a segment that joins some part segments was put behind the others
    pub segment_grows : (new : Table) (mid : List PartSegment) (from : ℕ) (x : SegmentData) → mid ≡ old.pieces ++ ps → new.pieces ≡ mid → from ≡ length old.pieces
        → new.segments ≡ old.segments ++ (record { impact = impact; count = count; from = from; to = length mid }) ∷ []
        → new.terms ≡ old.terms
        → (let s : SegmentData = record { impact = impact; docs = pieces_docs files ps } in s) ≡ x
        → Grows files old new (x ∷ [])
    segment_grows new mid from x put pieces start segments terms is =
        subst (λ (s : SegmentData). Grows files old new (s ∷ [])) is
        (subst (λ (t : Table). Grows files old t (record { impact = impact; docs = pieces_docs files ps } ∷ []))
        (table_is new (old.pieces ++ ps) (old.segments ++ row ∷ []) old.terms (pieces ∙ put)
        (segments ∙ ap₂ (λ (f : ℕ) (m : List PartSegment). old.segments ++ (record { impact = impact; count = count; from = f; to = length m }) ∷ []) start put) terms)
        (record { segments = more_segments; terms = same_terms; stands = stands_after }))

-- one growth behind another
pub grows_on : (files : List FileView) (a b c : Table) (first second : List SegmentData) → Grows files a b first → Grows files b c second → Grows files a c (first ++ second)
grows_on files a b c first second one two = record {
  segments = two.segments ∙ ap (λ (l : List SegmentData). l ++ second) one.segments ∙ append_assoc (told_segments files a) first second;
  terms = two.terms ∙ one.terms;
  stands = two.stands;
}

module _ (files : List FileView) (old mid : Table) (more : List SegmentData) (grows : Grows files old mid more) (part term : ℕ)
    (there : part < length files) (has : term < length (index_at files part).terms) where
  abbrev row_more : TermRow
  row_more = record { part = part; term = term; span = record { from = length old.segments; to = length mid.segments } }

  abbrev ends : Table
  ends = record { pieces = mid.pieces; segments = mid.segments; terms = mid.terms ++ row_more ∷ [] }

  counted : length mid.segments ≡ length (told_segments files old ++ more)
  unfolding told_segments
  counted = sym (length-map mid.segments (row_segment files mid.pieces)) ∙ ap length grows.segments

  first : length old.segments ≡ length (told_segments files old)
  unfolding told_segments
  first = sym (length-map old.segments (row_segment files old.pieces))

  span_more : span_segments files ends (row_more.span) ≡ more
  unfolding span_segments told_segments row_segment
  span_more =
      sym (map_range (row_segment files mid.pieces) mid.segments (length old.segments) (length mid.segments))
      ∙ ap (λ (l : List SegmentData). slice_range l (length old.segments) (length mid.segments)) grows.segments
      ∙ ap₂ (slice_range (told_segments files old ++ more)) first counted
      ∙ slice_new (told_segments files old) more (length (told_segments files old)) (length (told_segments files old ++ more)) refl refl

  has_more : row_term files ends row_more ≡ record { term = term_at (index_at files part).terms term; segments = more }
  unfolding row_term
  has_more = ap (λ (ss : List SegmentData). (let t : TermData = record { term = term_at (index_at files part).terms term; segments = ss } in t)) span_more

  same_rows : map (row_term files ends) mid.terms ≡ map (row_term files mid) mid.terms
  unfolding row_term span_segments
  same_rows = refl

  more_terms : told_terms files ends ≡ told_terms files old ++ (record { term = term_at (index_at files part).terms term; segments = more }) ∷ []
  unfolding told_terms
  more_terms =
      map-append (row_term files ends) mid.terms (row_more ∷ [])
      ∙ ap₂ (λ (a b : List TermData). a ++ b) (same_rows ∙ grows.terms) (ap (λ (t : TermData). t ∷ []) has_more)

  row_stands : IsTermRow files mid.segments row_more
  row_stands = record {
    part = there;
    term = has;
    span = record { order = (let size = length-append (told_segments files old) more in omega (arith, size, counted, first)); within = omega arith };
  }

  -- a term whose segments were put behind the others was put there itself
  pub term_grows : (new : Table) (from : ℕ) → from ≡ length old.segments → new.pieces ≡ mid.pieces → new.segments ≡ mid.segments
      → new.terms ≡ mid.terms ++ (record { part = part; term = term; span = record { from = from; to = length mid.segments } }) ∷ []
      → GrowsTerm files old new (record { term = term_at (index_at files part).terms term; segments = more })
  term_grows new from start pieces segments terms =
      subst (λ (t : Table). GrowsTerm files old t (record { term = term_at (index_at files part).terms term; segments = more }))
      (table_is new mid.pieces mid.segments (mid.terms ++ row_more ∷ []) pieces segments
      (terms ∙ ap (λ (f : ℕ). mid.terms ++ (record { part = part; term = term; span = record { from = f; to = length mid.segments } }) ∷ []) start))
      (record {
        terms = more_terms;
        stands = record { pieces = grows.stands.pieces; segments = grows.stands.segments; terms = All-push (IsTermRow files mid.segments) mid.terms row_more grows.stands.terms row_stands };
      })

-- ---- the segments of a part's term, one after the other

module _ (files : List FileView) (a : Table) (segments : List SegmentData) (f : SegmentData → SegmentData) where
  pub none_grow : IsTable files a → Grows files a a (map f (take 0 segments))
  none_grow stands = record { segments = sym (append-nil (told_segments files a)); terms = refl; stands = stands }

  pub one_grows : (b c : Table) (i : ℕ) (d : SegmentData) → i < length segments → Grows files a b (map f (take i segments)) → Grows files b c (f (slice_index_or segments i d) ∷ [])
      → Grows files a c (map f (take (i + 1) segments))
  one_grows b c i d inside one two = subst (Grows files a c) (sym (map_more f segments i d inside)) (grows_on files a b c (map f (take i segments)) (f (slice_index_or segments i d) ∷ []) one two)

  pub all_grow : (b : Table) (i : ℕ) → length segments ≤ i → Grows files a b (map f (take i segments)) → Grows files a b (map f segments)
  all_grow b i over one = subst (λ (l : List SegmentData). Grows files a b (map f l)) (take_all i segments over) one
