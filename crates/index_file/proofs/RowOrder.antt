-- Rows of terms, and what neighbouring ones have in common.
use Rattle.shared_lemmas.proofs.Common.{◌≡◌, ◌<◌, ◌≤◌, ◌+◌, ◌-◌, ℕ, zero, suc, List, [], ◌∷◌, length, ap, subst, arith}
use Rattle.index_file.proofs.Below.{HeadData}
use Rattle.index_file.specs.declared.term_row.TermRow.{TermRow}
use Rattle.index_file.specs.Private.Tables.{RowsFrom, AreRows, group_count, row_at}

module _ (heads : List HeadData) (text : List ℕ) where
  pub text_below : (a : TermRow) (rows : List TermRow) → RowsFrom heads text a rows → a.text ≤ length text
  text_below a [] are = omega (arith, are.0)
  text_below a (b ∷ rows) are = (let later = text_below b rows are.3 in omega (arith, are.0, later))

  pub heads_below : (a : TermRow) (rows : List TermRow) → RowsFrom heads text a rows → a.head ≤ length heads
  heads_below a [] are = omega (arith, are.1)
  heads_below a (b ∷ rows) are = (let later = heads_below b rows are.3 in omega (arith, are.1, later))

  -- of a term between two neighbouring rows: its text, its heads and its groups
  pub record InOrder (x y : TermRow) : Type 0 where
    pub text_rises : x.text ≤ y.text
    pub text_within : y.text ≤ length text
    pub heads_rise : x.head < y.head
    pub heads_within : y.head ≤ length heads
    pub groups : y.group ≡ x.group + group_count (y.head - x.head)

  in_order : (a : TermRow) (rows : List TermRow) (t : ℕ) → RowsFrom heads text a rows → t < length rows → InOrder (row_at (a ∷ rows) t) (row_at rows t)
  in_order a [] t are inside = absurd (omega (arith, inside))
  in_order a (b ∷ rows) zero are inside = record {
    text_rises = are.0;
    text_within = text_below b rows are.3;
    heads_rise = are.1;
    heads_within = heads_below b rows are.3;
    groups = are.2;
  }
  in_order a (b ∷ rows) (suc t) are inside = in_order b rows t are.3 (omega (arith, inside))

  next_row : (a : TermRow) (rows : List TermRow) (t : ℕ) → row_at rows t ≡ row_at (a ∷ rows) (t + 1)
  next_row a rows t = (let e : suc t ≡ t + 1 = omega arith in ap (row_at (a ∷ rows)) e)

  pub rows_in_order : (rows : List TermRow) (t : ℕ) → AreRows heads text rows → t + 1 < length rows → InOrder (row_at rows t) (row_at rows (t + 1))
  rows_in_order [] t are inside = absurd are
  rows_in_order (a ∷ rows) t are inside =
      subst (λ y. InOrder (row_at (a ∷ rows) t) y) (next_row a rows t) (in_order a rows t are.3 (omega (arith, inside)))
