-- Tables as wholes: how many terms there are, and the greatest impact.
use Rattle.shared_lemmas.proofs.Common.{◌≡◌, ◌+◌, ℕ, List, [], ◌∷◌, ◌++◌, length, ap, ap₂, sym, ◌∙◌, refl, arith, max, flat_map}
use Rattle.index_layout.proofs.Greatest.{greatest_joins}
use Rattle.shared_lemmas.proofs.Numbers.{max_joins}
use Rattle.index_file.proofs.Below.{SegmentData, TermData, HeadData, all_heads, greatest_of, greatest_impact, greatest_in}
use Rattle.index_file.specs.declared.term_row.TermRow.{TermRow}
use Rattle.index_file.specs.Private.Payloads.{first_payload, row_terms, segment_in, segments_from}
use Rattle.index_file.specs.Private.Tables.{AreRows, heads_between, row_heads}

module _ (bytes : List ℕ) (d : ℕ) (heads : List HeadData) (text groups : List ℕ) where
  terms_count : (a : TermRow) (rows : List TermRow) → length (a ∷ rows) ≡ length (row_terms bytes d heads text groups (a ∷ rows)) + 1
  terms_count a [] = omega arith
  terms_count a (b ∷ rows) = (let e = terms_count b rows in omega (arith, e))

  pub count_is : (rows : List TermRow) → AreRows heads text rows → length rows ≡ length (row_terms bytes d heads text groups rows) + 1
  count_is [] are = absurd are
  count_is (a ∷ rows) are = terms_count a rows

  impact_told : (h : HeadData) (at : ℕ) → (segment_in bytes d h at).impact ≡ h.impact
  unfolding segment_in
  impact_told h at = refl

  greatest_on : (some : List HeadData) (at : ℕ) (more : List SegmentData) → greatest_in (segments_from bytes d some at ++ more) ≡ max (greatest_of some) (greatest_in more)
  greatest_on [] at more = omega arith
  greatest_on (h ∷ some) at more =
      ap₂ max (impact_told h at) (greatest_on some (at + h.size) more) ∙ sym (max_joins h.impact (greatest_of some) (greatest_in more))

  pub greatest_are : (rows : List TermRow) → greatest_impact (row_heads heads text rows) ≡ greatest_in (flat_map (λ (t : TermData). t.segments) (row_terms bytes d heads text groups rows))
  greatest_are [] = refl
  greatest_are (a ∷ []) = refl
  greatest_are (a ∷ b ∷ rows) =
      greatest_joins (heads_between heads a b) (all_heads (row_heads heads text (b ∷ rows)))
      ∙ ap (max (greatest_of (heads_between heads a b))) (greatest_are (b ∷ rows))
      ∙ sym (greatest_on (heads_between heads a b) (first_payload groups a) (flat_map (λ (t : TermData). t.segments) (row_terms bytes d heads text groups (b ∷ rows))))
