-- An index file whose payloads are appended term by term.
use Rattle.shared_lemmas.proofs.Common.{◌≡◌, ◌<◌, ◌⊎◌, ℕ, List, [], ◌∷◌, ◌++◌, length, take, drop, get_or, min, Option, Some, None, refl, sym, ap, subst, ◌∙◌, inl, inr, arith, append-nil, suc, IfSome, get, take-append_seam, take-suc, flat_map-append, take-append-drop, take-append-le, take_min}
use Rattle.index_import.proofs.Below.{Files, Extends, ForContent, IsMissing, Sets, content_or_empty, TermData, chosen_payloads, table_payloads, LeavesPrefix}

pub extends_sets : (old new : Option Files) (name bytes : List ℕ) → Extends old new name bytes → (text : List ℕ) × Sets old new name text
extends_sets None new name bytes is = ([], is)
extends_sets (Some old) None name bytes is = absurd is
extends_sets (Some old) (Some new) name bytes is = (content_or_empty old name ++ bytes, is)

-- a fact on the content of a name that is told
pub on_told : (files : Option Files) (name : List ℕ) (P : Type 0) → ForContent files name (λ content. P) → ¬ IsMissing files name → (files ≡ None) ⊎ P
on_told None name P is there = inl refl
on_told (Some files) name P is there = at (get files name) refl is
  where
    at : (o : Option (List ℕ)) → get files name ≡ o → IfSome o (λ content. P) → (let all : Option Files = Some files in all ≡ None) ⊎ P
    at None missing is = absurd (there missing)
    at (Some content) found is = inr is

-- one part more, which is the wanted one where the content is told
module _ (file : (old mid new : Option Files) (name text part : List ℕ) → Sets old mid name text → Extends mid new name part → Sets old new name (text ++ part)) where
  pub sets_wanted : (old mid new : Option Files) (index text part wanted : List ℕ) → Sets old mid index text → Extends mid new index part → (old ≡ None) ⊎ (part ≡ wanted) → Sets old new index (text ++ wanted)
  sets_wanted old mid new index text part wanted set put (inl untold) =
      let nothing : mid ≡ None = subst (λ (m : Option Files). Sets m mid index text) untold set in
      subst (λ (m : Option Files). Sets m new index (text ++ wanted)) (sym untold) (subst (λ (m : Option Files). Extends m new index part) nothing put)
  sets_wanted old mid new index text part wanted set put (inr same) = subst (λ (bytes : List ℕ). Sets old new index (text ++ bytes)) same (file old mid new index text part set put)

module _ (prefix : (old mid new : Option Files) (name text part : List ℕ) → Sets old mid name text → (new ≡ mid) ⊎ ((n : ℕ) × Extends mid new name (take n part)) → LeavesPrefix old new name (text ++ part)) where
  pub prefix_wanted : (old mid new : Option Files) (index text part wanted : List ℕ) → Sets old mid index text → (new ≡ mid) ⊎ ((n : ℕ) × Extends mid new index (take n part)) → (old ≡ None) ⊎ (part ≡ wanted) → LeavesPrefix old new index (text ++ wanted)
  prefix_wanted old mid new index text part wanted set put (inl untold) =
      let nothing : mid ≡ None = subst (λ (m : Option Files). Sets m mid index text) untold set in
      inl (stays put ∙ nothing ∙ sym untold)
    where
      stays : (new ≡ mid) ⊎ ((n : ℕ) × Extends mid new index (take n part)) → new ≡ mid
      stays (inl same) = same
      stays (inr (n, put)) =
          let nothing : mid ≡ None = subst (λ (m : Option Files). Sets m mid index text) untold set in
          let none : new ≡ None = subst (λ (m : Option Files). Extends m new index (take n part)) nothing put in
          none ∙ sym nothing
  prefix_wanted old mid new index text part wanted set put (inr same) = subst (λ (bytes : List ℕ). LeavesPrefix old new index (text ++ bytes)) same (prefix old mid new index text part set put)

-- a front of a front is a front of the whole
pub front_of_whole : (old new : Option Files) (index front rest whole : List ℕ) → whole ≡ front ++ rest → LeavesPrefix old new index front → LeavesPrefix old new index whole
front_of_whole old new index front rest whole is (inl same) = inl same
front_of_whole old new index front rest whole is (inr (n, set)) = inr (min n (length front), subst (λ (bytes : List ℕ). Sets old new index bytes) (cut n front rest ∙ ap (take (min n (length front))) (sym is)) set)
  where
    cut : (n : ℕ) (xs ys : List ℕ) → take n xs ≡ take (min n (length xs)) (xs ++ ys)
    cut n xs ys = sym (take-append-le (min n (length xs)) xs ys (omega arith) ∙ take_min n xs)

pub whole_front : (old new : Option Files) (index front rest whole : List ℕ) → whole ≡ front ++ rest → Sets old new index front → (n : ℕ) × Sets old new index (take n whole)
whole_front old new index front rest whole is set = (length front, subst (λ (bytes : List ℕ). Sets old new index bytes) (sym (ap (take (length front)) is ∙ take-append_seam front rest)) set)

-- the payloads of some terms, and of those that are left
pub payloads_parted : (d i : ℕ) (terms : List TermData) → table_payloads d terms ≡ table_payloads d (take i terms) ++ table_payloads d (drop i terms)
payloads_parted d i terms = ap (table_payloads d) (sym (take-append-drop i terms)) ∙ flat_map-append (λ (t : TermData). chosen_payloads d t.segments) (take i terms) (drop i terms)

-- the payloads of one term more
pub payloads_more : (d i : ℕ) (terms : List TermData) (x : TermData) → i < length terms → table_payloads d (take (suc i) terms) ≡ table_payloads d (take i terms) ++ chosen_payloads d (get_or terms i x).segments
payloads_more d i terms x low =
    ap (table_payloads d) (take-suc terms i x low) ∙ flat_map-append (λ (t : TermData). chosen_payloads d t.segments) (take i terms) (get_or terms i x ∷ [])
    ∙ ap (λ (bytes : List ℕ). table_payloads d (take i terms) ++ bytes) (append-nil (chosen_payloads d (get_or terms i x).segments))
