-- Terms that rise by their bytes, and one that is looked for among them.
use Rattle.shared_lemmas.proofs.Common.{◌≡◌, ◌∙◌, ℕ, suc, ◌+◌, ◌<◌, ◌≤◌, true, false, List, [], ◌∷◌, ◌++◌, length, get_or, All, refl, sym, ap, subst, arith, inl, inr, AllPairs, bytes_eq, is_lt, is_eq, nat_cmp, slice_cmp, cases_lt, length-append, get_or_default, get_or_append_left, list_any_at}
use Rattle.shared_lemmas.proofs.Common.{list_any_none, is_eq-slice_cmp, get_or-append_seam}
use Rattle.std.proofs.Common.{Less, Equal, Greater}
use Rattle.shared_lemmas.proofs.Texts.{bytes_same, bytes_itself, bytes_flipped}
use Rattle.ciff_read.proofs.Below.{BytesRise, bytes_apart, bytes_fall, below_on, above_on}
use Rattle.ciff_read.specs.declared.kept_lists.ListPlace.{ListPlace}
use Rattle.ciff_read.specs.Private.KeptEntries.{terms_in}
use Rattle.ciff_read.specs.Seen.{is_seen}

-- what stands below a place rises to the term, and what stands from a place on rises from it
pub record Halves (terms : List (List ℕ)) (term : List ℕ) (from to : ℕ) : Type 0 where
  pub order : from ≤ to
  pub within : to ≤ length terms
  pub below : (i : ℕ) → i < from → BytesRise (get_or terms i []) term
  pub above : (i : ℕ) → to ≤ i → i < length terms → BytesRise term (get_or terms i [])

module _ (terms : List (List ℕ)) (term : List ℕ) (rising : AllPairs BytesRise terms) where
  -- where the last rises to the term, all do
  pub all_before : (n : ℕ) → length terms ≡ n + 1 → BytesRise (get_or terms n []) term → All (λ t. BytesRise t term) terms
  all_before n size last i d inside =
      subst (λ t. BytesRise t term) (get_or_default terms i [] d inside) (below_on terms term rising n (omega (arith, size)) last i (omega (arith, inside, size)))

  module _ (from to middle : ℕ) (h : Halves terms term from to) (first : from ≤ middle) (last : middle < to) where
    inside : middle < length terms
    inside = (let within = h.within in omega (arith, last, within))

    pub upper : slice_cmp nat_cmp (get_or terms middle []) term ≡ Less → Halves terms term (middle + 1) to
    upper less = record {
      order = omega (arith, last);
      within = h.within;
      below = below_on terms term rising middle inside (ap is_lt less);
      above = h.above;
    }

    pub lower : slice_cmp nat_cmp (get_or terms middle []) term ≡ Greater → Halves terms term from middle
    lower greater = record {
      order = first;
      within = omega (arith, inside);
      below = h.below;
      above = above_on terms term rising middle (bytes_fall (get_or terms middle []) term greater);
    }

    pub found : slice_cmp nat_cmp (get_or terms middle []) term ≡ Equal → is_seen term terms ≡ true
    found equal =
        let same : bytes_eq (get_or terms middle []) term ≡ true = sym (is_eq-slice_cmp (get_or terms middle []) term) ∙ ap is_eq equal in
        list_any_at (bytes_eq term) terms middle [] inside (ap (bytes_eq term) (bytes_same (get_or terms middle []) term same) ∙ bytes_itself term)

  pub missing : (from to : ℕ) → Halves terms term from to → to ≤ from → is_seen term terms ≡ false
  missing from to h over = list_any_none (bytes_eq term) terms none where
    at : (k : ℕ) → k < length terms → bytes_eq term (get_or terms k []) ≡ false
    at k low = elim (cases_lt k from) [
      | inl l ↦ bytes_flipped (get_or terms k []) term (bytes_apart (get_or terms k []) term (h.below k l))
      | inr g ↦ bytes_apart term (get_or terms k []) (h.above k (omega (arith, g, over)) low)
    ]

    none : All (λ t. bytes_eq term t ≡ false) terms
    none k d low = subst (λ t. bytes_eq term t ≡ false) (get_or_default terms k [] d low) (at k low)

-- a term that all rise to is none of them
pub not_seen : (terms : List (List ℕ)) (term : List ℕ) → All (λ t. BytesRise t term) terms → is_seen term terms ≡ false
not_seen terms term before = list_any_none (bytes_eq term) terms (λ k d low. bytes_flipped (get_or terms k d) term (bytes_apart (get_or terms k d) term (before k d low)))

-- one term more, which all rise to
more_rise : (terms : List (List ℕ)) (term : List ℕ) → AllPairs BytesRise terms → All (λ t. BytesRise t term) terms → AllPairs BytesRise (terms ++ term ∷ [])
more_rise terms term rising before i j d less inside =
    elim (cases_lt j (length terms)) [
      | inl lt ↦ rw (get_or_append_left terms (term ∷ []) d i (omega arith), get_or_append_left terms (term ∷ []) d j lt) (rising i j d less lt)
      | inr le ↦
          let at : j ≡ length terms = omega (arith, length-append terms (term ∷ [])) in
          let lt : i < length terms = omega arith in
          rw (get_or_append_left terms (term ∷ []) d i lt, at, get_or-append_seam terms term [] d) (before i d lt)
    ]

-- ---- the terms of lists

pub terms_count : (entries : List (List ℕ × ListPlace)) → length (terms_in entries) ≡ length entries
terms_count [] = refl
terms_count (e ∷ es) = ap suc (terms_count es)

pub terms_append : (xs ys : List (List ℕ × ListPlace)) → terms_in (xs ++ ys) ≡ terms_in xs ++ terms_in ys
terms_append [] ys = refl
terms_append (x ∷ xs) ys = ap (λ (l : List (List ℕ)). x.0 ∷ l) (terms_append xs ys)

-- a list more, whose term all rise to
pub entry_rises : (entries : List (List ℕ × ListPlace)) (term : List ℕ) (place : ListPlace) → AllPairs BytesRise (terms_in entries) → All (λ t. BytesRise t term) (terms_in entries) → AllPairs BytesRise (terms_in (entries ++ (term, place) ∷ []))
entry_rises entries term place rising before = subst (λ (terms : List (List ℕ)). AllPairs BytesRise terms) (sym (terms_append entries ((term, place) ∷ []))) (more_rise (terms_in entries) term rising before)
