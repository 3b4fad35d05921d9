-- Lists whose terms stand one behind the other, while bytes and lists are appended.
use Rattle.shared_lemmas.proofs.Common.{◌≡◌, ◌∙◌, ℕ, zero, suc, ◌+◌, ◌<◌, ◌^◌, List, [], ◌∷◌, ◌++◌, length, get_or, All, Some, refl, sym, ap, subst, arith, AllPairs, slice_get, map-append, length-append, All-append, All-head, All-tail}
use Rattle.jass_base.specs.Terms.{BytesRise}
use Rattle.ciff_read.specs.declared.kept_lists.ListPlace.{ListPlace}
use Rattle.ciff_read.specs.declared.rising_lists.KeptTerm.{KeptTerm}
use Rattle.ciff_read.specs.Private.KeptEntries.{places_in, terms_in}
use Rattle.ciff_read.specs.Private.RisingEntries.{term_of, IsWithin, entries_at, AreRising}
use Rattle.ciff_read.proofs.Postings.{All-one}
use Rattle.ciff_read.proofs.RisingTerms.{entry_rises}
use Rattle.shared_lemmas.proofs.Places.{slice_stays, slice_new}

-- the term and the place of one of the lists
term_at : (bytes : List ℕ) (lists : List KeptTerm) (i : ℕ) (list : KeptTerm) → i < length (entries_at bytes lists) → list ≡ get_or lists i list → get_or (terms_in (entries_at bytes lists)) i [] ≡ term_of bytes list
term_at bytes [] i list inside is = absurd (omega (arith, inside))
term_at bytes (x ∷ xs) zero list inside is = ap (term_of bytes) (sym is)
term_at bytes (x ∷ xs) (suc i) list inside is = term_at bytes xs i list (omega arith) is

place_at : (bytes : List ℕ) (lists : List KeptTerm) (i : ℕ) (list : KeptTerm) → i < length (entries_at bytes lists) → list ≡ get_or lists i list → slice_get (places_in (entries_at bytes lists)) i ≡ Some list.place
place_at bytes [] i list inside is = absurd (omega (arith, inside))
place_at bytes (x ∷ xs) zero list inside is = ap (λ (l : KeptTerm). Some l.place) (sym is)
place_at bytes (x ∷ xs) (suc i) list inside is = place_at bytes xs i list (omega arith) is

module _ (bytes : List ℕ) (lists : List KeptTerm) (entries : List (List ℕ × ListPlace)) (are : entries_at bytes lists ≡ entries) (i : ℕ) (list : KeptTerm) (inside : i < length entries) (is : list ≡ get_or lists i list) where
  within : i < length (entries_at bytes lists)
  within = omega (arith, inside, ap (λ (es : List (List ℕ × ListPlace)). length es) are)

  pub term_of_list : get_or (terms_in entries) i [] ≡ term_of bytes list
  term_of_list = ap (λ (es : List (List ℕ × ListPlace)). get_or (terms_in es) i []) (sym are) ∙ term_at bytes lists i list within is

  pub place_of_list : slice_get (places_in entries) i ≡ Some list.place
  place_of_list = ap (λ (es : List (List ℕ × ListPlace)). slice_get (places_in es) i) (sym are) ∙ place_at bytes lists i list within is

entries_on : (bytes more : List ℕ) (lists : List KeptTerm) → All (IsWithin bytes) lists → entries_at (bytes ++ more) lists ≡ entries_at bytes lists
entries_on bytes more [] within = refl
entries_on bytes more (x ∷ xs) within =
    let here = All-head (IsWithin bytes) x xs within in
    rw (slice_stays bytes more x.from x.to here.0 here.1, entries_on bytes more xs (All-tail (IsWithin bytes) x xs within)) refl

-- what a push leaves: more bytes, with or without a list whose term they are
module _ (bytes more newer : List ℕ) (grown : newer ≡ bytes ++ more) (lists longer : List KeptTerm) (are : AreRising bytes lists) where
  size : length newer ≡ length bytes + length more
  size = ap length grown ∙ length-append bytes more

  entries_before : entries_at newer lists ≡ entries_at bytes lists
  entries_before = ap (λ (b : List ℕ). entries_at b lists) grown ∙ entries_on bytes more lists are.within

  within_before : All (IsWithin newer) lists
  within_before i d low = (let here = are.within i d low in (here.0, omega (arith, here.1, size)))

  pub entries_stay : longer ≡ lists → entries_at newer longer ≡ entries_at bytes lists
  entries_stay same = ap (entries_at newer) same ∙ entries_before

  pub rising_stay : longer ≡ lists → AreRising newer longer
  rising_stay same = record {
    within = subst (λ (l : List KeptTerm). All (IsWithin newer) l) (sym same) within_before;
    rises = subst (λ (entries : List (List ℕ × ListPlace)). AllPairs BytesRise (terms_in entries)) (sym (entries_stay same)) are.rises;
    few = omega (arith, are.few, ap (λ (l : List KeptTerm). length l) same);
  }

  module _ (list : KeptTerm) (with_list : longer ≡ lists ++ list ∷ []) (from : list.from ≡ length bytes) (to : list.to ≡ length newer) where
    pub entries_more : entries_at newer longer ≡ entries_at bytes lists ++ (more, list.place) ∷ []
    entries_more =
        let part : term_of newer list ≡ more = ap (λ (b : List ℕ). term_of b list) grown ∙ slice_new bytes more list.from list.to from (to ∙ ap length grown) in
        ap (entries_at newer) with_list ∙ map-append (λ (l : KeptTerm). (term_of newer l, l.place)) lists (list ∷ []) ∙ rw (entries_before, part) refl

    pub rising_more : length lists < 2 ^ 32 → All (λ t. BytesRise t more) (terms_in (entries_at bytes lists)) → AreRising newer longer
    rising_more few before = record {
      within = subst (λ (l : List KeptTerm). All (IsWithin newer) l) (sym with_list) (All-append (IsWithin newer) lists (list ∷ []) within_before (All-one (IsWithin newer) list (omega (arith, size, from, to), omega (arith, to))));
      rises = subst (λ (entries : List (List ℕ × ListPlace)). AllPairs BytesRise (terms_in entries)) (sym entries_more) (entry_rises (entries_at bytes lists) more list.place are.rises before);
      few = omega (arith, few, ap (λ (l : List KeptTerm). length l) with_list, length-append lists (list ∷ []));
    }
