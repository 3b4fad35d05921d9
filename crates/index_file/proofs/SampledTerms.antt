-- Samples of terms, one after the other.
use Rattle.shared_lemmas.proofs.Common.{◌≡◌, ◌<◌, ◌≤◌, ◌+◌, ◌-◌, ◌*◌, ℕ, List, [], ◌∷◌, ◌++◌, length, ap, sym, subst, ◌∙◌, slice_index, inl, inr, arith, div_ceil, cases_lt, get_or-append, get_or-append_seam}
use Rattle.index_file.specs.declared.term_row.TermRow.{TermRow}
use Rattle.index_file.specs.Private.Samples.{first_eight, text_at}

-- one sample more
pub sampled_on : (text : List ℕ) (rows : List TermRow) (samples newest : List ℕ) (i n : ℕ) → newest ≡ samples ++ n ∷ [] → length samples ≡ i
    → ((j : ℕ) → j < i → slice_index samples j ≡ first_eight (text_at text rows (64 * j))) → n ≡ first_eight (text_at text rows (64 * i))
    → (j : ℕ) → j < i + 1 → slice_index newest j ≡ first_eight (text_at text rows (64 * j))
sampled_on text rows samples newest i n more count told new j low = elim (cases_lt j i) [
  | inl l ↦ ap (λ (xs : List ℕ). slice_index xs j) more ∙ get_or-append samples (n ∷ []) 0 j (omega (arith, l, count)) ∙ told j l
  | inr g ↦ (
      let last : j ≡ i = omega (arith, low, g) in
      let here : slice_index newest (length samples) ≡ n = ap (λ (xs : List ℕ). slice_index xs (length samples)) more ∙ get_or-append_seam samples n [] 0 in
      subst (λ k. slice_index newest k ≡ first_eight (text_at text rows (64 * k))) (count ∙ sym last) (here ∙ new ∙ ap (λ k. first_eight (text_at text rows (64 * k))) (sym count)))
]

pub term_after : (rows i : ℕ) → i < div_ceil (rows - 1) 64 → 64 * i + 1 < rows
term_after rows i low = omega (arith, low)

pub all_sampled : (rows i : ℕ) → div_ceil (rows - 1) 64 ≤ i → rows ≤ 64 * i + 1
all_sampled rows i high = omega (arith, high)
