-- Two lists of terms that are merged, step by step.
use Rattle.shared_lemmas.proofs.Common.{◌≡◌, ◌≤◌, ◌<◌, ◌+◌, ℕ, suc, List, [], ◌∷◌, ◌++◌, length, drop, slice_index_or, ap, ap₂, sym, ◌∙◌, refl, arith, append_assoc, append-nil, drop-cons, drop_all, slice_cmp, nat_cmp, Less, Equal, Greater, get_or-map, length-map}
use Rattle.index_model.specs.Index.{SegmentData, TermData}
use Rattle.index_layout.specs.View.{FileView}
use Rattle.index_file.specs.Places.{term_at}
use Rattle.shard_search.proofs.Merges.{merged_nothing, takes_first, takes_second, takes_both}
use Rattle.shard_search.proofs.Spans.{span_none}
use Rattle.index_model.specs.Merging.{joined_segment, joined_term, merged_segments, merged_terms, segment_cmp, term_cmp}
use Rattle.shard_search.specs.Parts.{index_at}
use Rattle.shard_search.specs.Private.Heads.{head_order}
use Rattle.shard_search.specs.Private.Tables.{GrowsTerm, row_term, span_segments, told_terms}
use Rattle.shard_search.specs.declared.rows.TermRow.{TermRow}
use Rattle.shard_search.specs.declared.table.Table.{Table}

-- ---- the terms of rows

module _ (files : List FileView) where
  pub term_told : (t : Table) (i : ℕ) (d : TermRow) (e : TermData) → i < length t.terms → slice_index_or (told_terms files t) i e ≡ row_term files t (slice_index_or t.terms i d)
  unfolding told_terms
  term_told t i d e inside = get_or-map (row_term files t) t.terms i d e inside

  pub terms_counted : (t : Table) → length (told_terms files t) ≡ length t.terms
  unfolding told_terms
  terms_counted t = length-map t.terms (row_term files t)

  pub text_told : (t : Table) (row : TermRow) → (row_term files t row).term ≡ term_at (index_at files row.part).terms row.term
  unfolding row_term
  text_told t row = refl

  -- the bytes of a row's term
  pub text_at : (t : Table) (i : ℕ) (d : TermRow) (e : TermData) → i < length t.terms
      → (slice_index_or (told_terms files t) i e).term ≡ term_at (index_at files (slice_index_or t.terms i d).part).terms (slice_index_or t.terms i d).term
  text_at t i d e inside = ap (λ (x : TermData). x.term) (term_told t i d e inside) ∙ text_told t (slice_index_or t.terms i d)

  -- a term whose segments are merged with none
  pub copied : (t other : Table) (row : TermRow) → (let x : TermData = record {
    term = term_at (index_at files row.part).terms row.term;
    segments = merged_segments (span_segments files t row.span) (span_segments files other (record { from = 0; to = 0 }));
  } in x) ≡ row_term files t row
  unfolding row_term
  copied t other row = ap (λ (ss : List SegmentData). (let x : TermData = record { term = term_at (index_at files row.part).terms row.term; segments = ss } in x))
      (ap (merged_segments (span_segments files t row.span)) (span_none files other (record { from = 0; to = 0 }) (omega arith))
      ∙ merged_nothing segment_cmp joined_segment (span_segments files t row.span))

  -- a term of two tables
  pub joins : (first second : Table) (own other : TermRow) → (let x : TermData = record {
    term = term_at (index_at files own.part).terms own.term;
    segments = merged_segments (span_segments files first own.span) (span_segments files second other.span);
  } in x) ≡ joined_term (row_term files first own) (row_term files second other)
  unfolding row_term
  joins first second own other = refl

-- ---- which list has the next term

module _ (first second : List TermData) (i j : ℕ) where
  pub second_next : length first ≤ i → head_order term_cmp (drop i first) (drop j second) ≡ Greater
  second_next over = ap (λ (l : List TermData). head_order term_cmp l (drop j second)) (drop_all i first over)

  pub first_next : (d : TermData) → i < length first → length second ≤ j → head_order term_cmp (drop i first) (drop j second) ≡ Less
  first_next d some over = ap₂ (head_order term_cmp) (drop-cons first i d some) (drop_all j second over)

  pub both_next : (d : TermData) → i < length first → j < length second
      → head_order term_cmp (drop i first) (drop j second) ≡ slice_cmp nat_cmp (slice_index_or first i d).term (slice_index_or second j d).term
  both_next d some more = ap₂ (head_order term_cmp) (drop-cons first i d some) (drop-cons second j d more)

-- ---- these terms and what is left, merged, are the two lists merged

abbrev pub Joining : List TermData → List TermData → ℕ → ℕ → List TermData → Type 0
Joining first second i j now = now ++ merged_terms (drop i first) (drop j second) ≡ merged_terms first second

module _ (first second : List TermData) (i j : ℕ) (now new : List TermData) (joining : Joining first second i j now) where
  step : (x : TermData) (rest : List TermData) → new ≡ now ++ x ∷ [] → merged_terms (drop i first) (drop j second) ≡ x ∷ rest → new ++ rest ≡ merged_terms first second
  step x rest grows is =
      ap (λ (l : List TermData). l ++ rest) grows
      ∙ append_assoc now (x ∷ []) rest
      ∙ ap (λ (l : List TermData). now ++ l) (sym is)
      ∙ joining

  next : (xs : List TermData) (n : ℕ) (d : TermData) → n < length xs → drop n xs ≡ slice_index_or xs n d ∷ drop (n + 1) xs
  next xs n d some = drop-cons xs n d some ∙ ap (λ (m : ℕ). slice_index_or xs n d ∷ drop m xs) (let one : suc n ≡ n + 1 = omega arith in one)

  pub first_joins : (d : TermData) → i < length first → head_order term_cmp (drop i first) (drop j second) ≡ Less
      → new ≡ now ++ slice_index_or first i d ∷ [] → Joining first second (i + 1) j new
  first_joins d some less grows =
      let cons = next first i d some in
      step (slice_index_or first i d) (merged_terms (drop (i + 1) first) (drop j second)) grows
      (ap (λ (l : List TermData). merged_terms l (drop j second)) cons
      ∙ takes_first term_cmp joined_term (slice_index_or first i d) (drop (i + 1) first) (drop j second)
      (sym (ap (λ (l : List TermData). head_order term_cmp l (drop j second)) cons) ∙ less))

  pub second_joins : (d : TermData) → j < length second → head_order term_cmp (drop i first) (drop j second) ≡ Greater
      → new ≡ now ++ slice_index_or second j d ∷ [] → Joining first second i (j + 1) new
  second_joins d some greater grows =
      let cons = next second j d some in
      step (slice_index_or second j d) (merged_terms (drop i first) (drop (j + 1) second)) grows
      (ap (merged_terms (drop i first)) cons
      ∙ takes_second term_cmp joined_term (drop i first) (slice_index_or second j d) (drop (j + 1) second)
      (sym (ap (head_order term_cmp (drop i first)) cons) ∙ greater))

  pub both_join : (d : TermData) → i < length first → j < length second → head_order term_cmp (drop i first) (drop j second) ≡ Equal
      → new ≡ now ++ joined_term (slice_index_or first i d) (slice_index_or second j d) ∷ [] → Joining first second (i + 1) (j + 1) new
  both_join d some more equal grows =
      let one = next first i d some in
      let two = next second j d more in
      step (joined_term (slice_index_or first i d) (slice_index_or second j d)) (merged_terms (drop (i + 1) first) (drop (j + 1) second)) grows
      (ap₂ merged_terms one two
      ∙ takes_both term_cmp joined_term (slice_index_or first i d) (drop (i + 1) first) (slice_index_or second j d) (drop (j + 1) second)
      (sym (ap₂ (head_order term_cmp) one two) ∙ equal))

pub all_joined : (first second : List TermData) (i j : ℕ) (now : List TermData) → Joining first second i j now → length first ≤ i → length second ≤ j → now ≡ merged_terms first second
all_joined first second i j now joining over out =
    sym (append-nil now) ∙ ap (λ (l : List TermData). now ++ l) (sym (ap₂ merged_terms (drop_all i first over) (drop_all j second out))) ∙ joining

-- ---- a table that has a row's term more

abbrev pub no_row : TermRow
no_row = record { part = 0; term = 0; span = record { from = 0; to = 0 } }

module _ (files : List FileView) (now new : Table) (e : TermData) where
  pub copy_grows : (t : Table) (rows : List TermRow) (i : ℕ) → rows ≡ t.terms → i < length t.terms
      → GrowsTerm files now new (record {
        term = term_at (index_at files (slice_index_or rows i no_row).part).terms (slice_index_or rows i no_row).term;
        segments = merged_segments (span_segments files t (slice_index_or rows i no_row).span) (span_segments files t (record { from = 0; to = 0 }));
      })
      → told_terms files new ≡ told_terms files now ++ slice_index_or (told_terms files t) i e ∷ []
  copy_grows t rows i same inside grows =
      grows.terms
      ∙ ap (λ (x : TermData). told_terms files now ++ x ∷ [])
      (copied files t t (slice_index_or rows i no_row) ∙ ap (λ (l : List TermRow). row_term files t (slice_index_or l i no_row)) same ∙ sym (term_told files t i no_row e inside))

  pub join_grows : (first second : Table) (rows others : List TermRow) (i j : ℕ) → rows ≡ first.terms → others ≡ second.terms → i < length first.terms → j < length second.terms
      → GrowsTerm files now new (record {
        term = term_at (index_at files (slice_index_or rows i no_row).part).terms (slice_index_or rows i no_row).term;
        segments = merged_segments (span_segments files first (slice_index_or rows i no_row).span) (span_segments files second (slice_index_or others j no_row).span);
      })
      → told_terms files new ≡ told_terms files now ++ joined_term (slice_index_or (told_terms files first) i e) (slice_index_or (told_terms files second) j e) ∷ []
  join_grows first second rows others i j same alike inside there grows =
      grows.terms
      ∙ ap (λ (x : TermData). told_terms files now ++ x ∷ [])
      (joins files first second (slice_index_or rows i no_row) (slice_index_or others j no_row)
      ∙ ap₂ (λ (l m : List TermRow). joined_term (row_term files first (slice_index_or l i no_row)) (row_term files second (slice_index_or m j no_row))) same alike
      ∙ ap₂ joined_term (sym (term_told files first i no_row e inside)) (sym (term_told files second j no_row e there)))
