-- Finding a term among terms that rise by their bytes.
use Rattle.shared_lemmas.proofs.Common.{◌≡◌, ◌<◌, ◌≤◌, ◌+◌, ℕ, true, false, List, [], ◌∷◌, length, Some, None, arith, inl, inr, ap, sym, subst, ◌∙◌, slice_index_or, AllPairs, position, bytes_eq, is_lt, is_eq, nat_cmp, slice_cmp, cases_lt, length-map, get_or-map, is_eq-slice_cmp, bytes_eq-Decides}
use Rattle.std.proofs.Common.{Less, Equal, Greater}
use Rattle.index_file.proofs.Below.{BytesRise, TermData, RisesTo, bytes_apart, bytes_fall, below_on, above_on}
use Rattle.shared_lemmas.proofs.Places.{position_at, position_past}
use Rattle.shared_lemmas.proofs.Texts.{bytes_flipped}
use Rattle.index_file.specs.Places.{texts_of}

-- the terms of an index rise by their bytes
pub texts_rise : (terms : List TermData) → AllPairs RisesTo terms → AllPairs BytesRise (texts_of terms)
texts_rise [] rise i j d less inside = absurd (omega (arith, inside))
texts_rise (t ∷ ts) rise i j d less inside =
    let terms : List TermData = t ∷ ts in
    let within : j < length terms = omega (arith, inside, length-map terms (λ (x : TermData). x.term)) in
    let first = get_or-map (λ (x : TermData). x.term) terms i t d (omega (arith, less, within)) in
    let later = get_or-map (λ (x : TermData). x.term) terms j t d within in
    subst (λ (a : List ℕ). BytesRise a (slice_index_or (texts_of terms) j d)) (sym first)
    (subst (λ (b : List ℕ). BytesRise (slice_index_or terms i t).term b) (sym later) (rise i j t less within))

-- what stands below a place rises to the term, and what stands from a place on rises from it
pub record Halves (terms : List TermData) (term : List ℕ) (from to : ℕ) : Type 0 where
  pub order : from ≤ to
  pub within : to ≤ length terms
  pub below : (i : ℕ) → i < from → BytesRise (slice_index_or (texts_of terms) i []) term
  pub above : (i : ℕ) → to ≤ i → i < length terms → BytesRise term (slice_index_or (texts_of terms) i [])

module _ (terms : List TermData) (term : List ℕ) (rising : AllPairs RisesTo terms) where
  rise : AllPairs BytesRise (texts_of terms)
  rise = texts_rise terms rising

  count : length (texts_of terms) ≡ length terms
  count = length-map terms (λ (x : TermData). x.term)

  pub text_is : (i : ℕ) → i < length terms → slice_index_or (texts_of terms) i [] ≡ (slice_index_or terms i (record { term = []; segments = [] })).term
  text_is i inside = get_or-map (λ (x : TermData). x.term) terms i (record { term = []; segments = [] }) [] inside

  module _ (from to middle : ℕ) (t : List ℕ) (h : Halves terms term from to) (first : from ≤ middle) (last : middle < to) (is : t ≡ (slice_index_or terms middle (record { term = []; segments = [] })).term) where
    inside : middle < length terms
    inside = (let within = h.within in omega (arith, last, within))

    here_is : t ≡ slice_index_or (texts_of terms) middle []
    here_is = is ∙ sym (text_is middle inside)

    pub upper : slice_cmp nat_cmp t term ≡ Less → Halves terms term (middle + 1) to
    upper less = record {
      order = omega (arith, last);
      within = h.within;
      below = below_on (texts_of terms) term rise middle (omega (arith, inside, count)) (subst (λ t. BytesRise t term) here_is (ap is_lt less));
      above = h.above;
    }

    pub lower : slice_cmp nat_cmp t term ≡ Greater → Halves terms term from middle
    lower greater = record {
      order = first;
      within = omega (arith, inside);
      below = h.below;
      above = λ i high inside. above_on (texts_of terms) term rise middle (subst (λ t. BytesRise term t) here_is (bytes_fall t term greater)) i high (omega (arith, inside, count));
    }

    pub found : slice_cmp nat_cmp t term ≡ Equal → position (λ t. bytes_eq t term) (texts_of terms) ≡ Some middle
    found equal =
        let same : bytes_eq t term ≡ true = sym (is_eq-slice_cmp t term) ∙ ap is_eq equal in
        let term_is : slice_index_or (texts_of terms) middle [] ≡ term = sym here_is ∙ (bytes_eq-Decides t term).0 same in
        position_at (λ t. bytes_eq t term) (texts_of terms) middle [] (omega (arith, inside, count))
        (λ k low. bytes_apart (slice_index_or (texts_of terms) k []) term (subst (λ t. BytesRise (slice_index_or (texts_of terms) k []) t) term_is (rise k middle [] low (omega (arith, inside, count)))))
        (ap (λ t. bytes_eq t term) (sym here_is) ∙ same)

  pub missing : (from to : ℕ) → Halves terms term from to → to ≤ from → position (λ t. bytes_eq t term) (texts_of terms) ≡ None
  missing from to h over = position_past (λ t. bytes_eq t term) (texts_of terms) [] none where
    none : (k : ℕ) → k < length (texts_of terms) → bytes_eq (slice_index_or (texts_of terms) k []) term ≡ false
    none k low = elim (cases_lt k from) [
      | inl l ↦ bytes_apart (slice_index_or (texts_of terms) k []) term (h.below k l)
      | inr g ↦ bytes_flipped term (slice_index_or (texts_of terms) k []) (bytes_apart term (slice_index_or (texts_of terms) k []) (h.above k (omega (arith, g, over)) (omega (arith, low, count))))
    ]
