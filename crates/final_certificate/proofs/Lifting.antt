-- All documents as hits, those of score 0 among them, and gains as a function of the document.
use Rattle.shared_lemmas.proofs.Common.{◌≡◌, ℕ, zero, suc, ◌+◌, ◌<◌, ◌≤◌, ◌==◌, List, [], ◌∷◌, length, map, filter, Bool, true, false, not, cond, get_or, refl, ap, ◌∙◌, arith, inl, inr, ◌⊎◌, AllByRecursion, sum_by-cons, nat_tests, cases_Bool}
use borrow.Author.Tests.{eqb-true}
use Rattle.jass_base.specs.declared.answer.Hit.{Hit}
use Rattle.ranking_model.specs.Scores.{hits_from}
use Rattle.ranking_model.specs.Finality.{AreGains, raised}
use Rattle.final_certificate.specs.Rule.{gained}
use Rattle.ranking_model.proofs.Candidates.{count_doc}

abbrev pub is_unscored : Hit → Bool
is_unscored hit = hit.score == 0

abbrev pub is_scored : Hit → Bool
is_scored hit = not (is_unscored hit)

-- all documents, from a document on
abbrev pub documents_from : ℕ → List ℕ → List Hit
documents_from doc [] = []
documents_from doc (score ∷ scores) = record { doc = doc; score = score } ∷ documents_from (doc + 1) scores

pub hits_documents : (doc : ℕ) (scores : List ℕ) → hits_from doc scores ≡ filter is_scored (documents_from doc scores)
hits_documents doc [] = refl
hits_documents doc (score ∷ scores) = step (score == 0) refl (hits_documents (doc + 1) scores) where
  step : (b : Bool) → (score == 0) ≡ b → hits_from (doc + 1) scores ≡ filter is_scored (documents_from (doc + 1) scores) → hits_from doc (score ∷ scores) ≡ filter is_scored (documents_from doc (score ∷ scores))
  step true e rest = rw e rest
  step false e rest = rw e (ap (λ (l : List Hit). record { doc = doc; score = score } ∷ l) rest)

-- ---- gains

abbrev pub lift : (ℕ → ℕ) → Hit → Hit
lift gain hit = gained (gain hit.doc) hit

abbrev pub gains_by : (ℕ → ℕ) → ℕ → List ℕ → List ℕ
gains_by gain doc [] = []
gains_by gain doc (score ∷ scores) = gain doc ∷ gains_by gain (doc + 1) scores

pub raised_documents : (gain : ℕ → ℕ) (doc : ℕ) (scores : List ℕ) → documents_from doc (raised scores (gains_by gain doc scores)) ≡ map (lift gain) (documents_from doc scores)
raised_documents gain doc [] = refl
raised_documents gain doc (score ∷ scores) = ap (λ (l : List Hit). record { doc = doc; score = score + gain doc } ∷ l) (raised_documents gain (doc + 1) scores)

pub are_gains : (gain : ℕ → ℕ) (bound : ℕ) → ((d : ℕ) → gain d ≤ bound) → (doc : ℕ) (scores : List ℕ) → AreGains bound scores (gains_by gain doc scores)
are_gains gain bound small doc scores = record { each = size doc scores; within = each doc scores } where
  size : (doc : ℕ) (scores : List ℕ) → length (gains_by gain doc scores) ≡ length scores
  size doc [] = refl
  size doc (score ∷ scores) = let rest = size (doc + 1) scores in omega arith

  each : (doc : ℕ) (scores : List ℕ) → AllByRecursion (λ g. g ≤ bound) (gains_by gain doc scores)
  each doc [] = tt
  each doc (score ∷ scores) = (small doc, each (doc + 1) scores)

gains_are : (gain : ℕ → ℕ) (doc : ℕ) (scores gains : List ℕ) → length gains ≡ length scores → ((i : ℕ) → i < length gains → get_or gains i 0 ≡ gain (doc + i)) → gains ≡ gains_by gain doc scores
gains_are gain doc [] [] same at = refl
gains_are gain doc [] (g ∷ gains) same at = absurd (omega arith)
gains_are gain doc (score ∷ scores) [] same at = absurd (omega arith)
gains_are gain doc (score ∷ scores) (g ∷ gains) same at =
    let here : doc + 0 ≡ doc = omega arith in
    let first : g ≡ gain doc = at 0 (omega arith) ∙ ap gain here in
    let rest = gains_are gain (doc + 1) scores gains (omega arith) (λ i inside. at (suc i) (omega arith) ∙ ap gain (omega arith)) in
    λ i. first i ∷ rest i

get_or_le : (bound : ℕ) (gains : List ℕ) → AllByRecursion (λ g. g ≤ bound) gains → (i : ℕ) → get_or gains i 0 ≤ bound
get_or_le bound [] h zero = omega arith
get_or_le bound [] h (suc i) = omega arith
get_or_le bound (g ∷ gains) h zero = h.0
get_or_le bound (g ∷ gains) h (suc i) = get_or_le bound gains h.1 i

-- any gains are those of a function
pub gain_of_doc : List ℕ → ℕ → ℕ
gain_of_doc gains doc = get_or gains doc 0

pub gain_is : (gains : List ℕ) (doc : ℕ) → gain_of_doc gains doc ≡ get_or gains doc 0
unfolding gain_of_doc
gain_is gains doc = refl

pub gain_small : (bound : ℕ) (scores gains : List ℕ) → AreGains bound scores gains → (d : ℕ) → gain_of_doc gains d ≤ bound
unfolding gain_of_doc
gain_small bound scores gains a d = get_or_le bound gains a.within d

pub gains_by_doc : (bound : ℕ) (scores gains : List ℕ) → AreGains bound scores gains → gains ≡ gains_by (gain_of_doc gains) 0 scores
unfolding gain_of_doc
gains_by_doc bound scores gains a = gains_are (λ d. get_or gains d 0) 0 scores gains a.each (λ i inside. ap (λ d. get_or gains d 0) (omega arith))

-- ---- a document stands once

pub true_from : (score_of : ℕ → ℕ) (doc : ℕ) (scores : List ℕ) → ((i : ℕ) → i < length scores → get_or scores i 0 ≡ score_of (doc + i)) → AllByRecursion (λ (h : Hit). h.score ≡ score_of h.doc) (documents_from doc scores)
true_from score_of doc [] at = tt
true_from score_of doc (score ∷ scores) at =
    let here : doc + 0 ≡ doc = omega arith in
    (at 0 (omega arith) ∙ ap score_of here, true_from score_of (doc + 1) scores (λ i inside. at (suc i) (omega arith) ∙ ap score_of (omega arith)))

pub documents_below : (doc limit : ℕ) (scores : List ℕ) → doc + length scores ≤ limit → AllByRecursion (λ (h : Hit). h.doc < limit) (documents_from doc scores)
documents_below doc limit [] within = tt
documents_below doc limit (score ∷ scores) within = (omega arith, documents_below (doc + 1) limit scores (omega arith))

none_before : (z doc : ℕ) (scores : List ℕ) → z < doc → count_doc z (documents_from doc scores) ≡ 0
none_before z doc [] before = refl
none_before z doc (score ∷ scores) before = step (cases_Bool (doc == z)) (none_before z (doc + 1) scores (omega arith)) where
  step : ((doc == z) ≡ true) ⊎ ((doc == z) ≡ false) → count_doc z (documents_from (doc + 1) scores) ≡ 0 → count_doc z (documents_from doc (score ∷ scores)) ≡ 0
  step (inl t) rest = let e = eqb-true doc z t in absurd (omega arith)
  step (inr f) rest = rw (sum_by-cons (λ (h : Hit). cond (h.doc == z) 1 0) (record { doc = doc; score = score }) (documents_from (doc + 1) scores), f) (omega arith)

pub at_most_once : (z doc : ℕ) (scores : List ℕ) → count_doc z (documents_from doc scores) ≤ 1
at_most_once z doc [] = omega arith
at_most_once z doc (score ∷ scores) = step (cases_Bool (doc == z)) (at_most_once z (doc + 1) scores) where
  step : ((doc == z) ≡ true) ⊎ ((doc == z) ≡ false) → count_doc z (documents_from (doc + 1) scores) ≤ 1 → count_doc z (documents_from doc (score ∷ scores)) ≤ 1
  step (inl t) rest = let e = eqb-true doc z t in let none = none_before z (doc + 1) scores (omega arith) in rw (sum_by-cons (λ (h : Hit). cond (h.doc == z) 1 0) (record { doc = doc; score = score }) (documents_from (doc + 1) scores), t) (omega arith)
  step (inr f) rest = rw (sum_by-cons (λ (h : Hit). cond (h.doc == z) 1 0) (record { doc = doc; score = score }) (documents_from (doc + 1) scores), f) (omega arith)

pub at_least_once : (z doc : ℕ) (scores : List ℕ) → doc ≤ z → z < doc + length scores → 1 ≤ count_doc z (documents_from doc scores)
at_least_once z doc [] low high = absurd (omega arith)
at_least_once z doc (score ∷ scores) low high = step (cases_Bool (doc == z)) (λ more. at_least_once z (doc + 1) scores more (omega arith)) where
  step : ((doc == z) ≡ true) ⊎ ((doc == z) ≡ false) → (doc + 1 ≤ z → 1 ≤ count_doc z (documents_from (doc + 1) scores)) → 1 ≤ count_doc z (documents_from doc (score ∷ scores))
  step (inl t) rest = rw (sum_by-cons (λ (h : Hit). cond (h.doc == z) 1 0) (record { doc = doc; score = score }) (documents_from (doc + 1) scores), t) (omega arith)
  step (inr f) rest = rw (sum_by-cons (λ (h : Hit). cond (h.doc == z) 1 0) (record { doc = doc; score = score }) (documents_from (doc + 1) scores), f) (let n : doc + 1 ≤ z = apart f in let m = rest n in omega arith) where
    apart : (doc == z) ≡ false → doc + 1 ≤ z
    apart f = grind (arith, nat_tests)
