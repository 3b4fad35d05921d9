-- Documents whose names stand one behind the other, while bytes and documents are appended, and in another order.
use Rattle.shared_lemmas.proofs.Common.{◌≡◌, ◌∙◌, ℕ, ◌+◌, ◌≤◌, List, [], ◌∷◌, ◌++◌, length, map, get_or, All, IsPermutation, refl, sym, ap, subst, arith, slice_range, map-append, length-append, All-append, All-cons, All-nil, All-head, All-tail, All-map, All-permutation, IsPermutation-map, map-map, suc, ◌<◌, take, take-suc}
use Rattle.std.specs.List.Sorted.{IsNonDecreasingBy}
use Rattle.jass_base.specs.Ciff.{FitsDoc}
use Rattle.index_import.proofs.Below.{NumberedDoc}
use Rattle.index_import.specs.Private.KeptDocs.{AreInOrder, IsKept, lengths_in, record_at, records_at}
use Rattle.index_import.specs.declared.kept_docs.KeptDoc.{KeptDoc}
use Rattle.index_import.proofs.Outlining.{mapped}
use Rattle.shared_lemmas.proofs.Places.{slice_stays, slice_new}

-- the record stays while bytes are appended
record_on : (bytes more : List ℕ) (d : KeptDoc) → IsKept bytes d → record_at (bytes ++ more) d ≡ record_at bytes d
record_on bytes more d is = rw (slice_stays bytes more d.from d.to is.order is.within) refl

records_on : (bytes more : List ℕ) (docs : List KeptDoc) → All (IsKept bytes) docs → records_at (bytes ++ more) docs ≡ records_at bytes docs
records_on bytes more [] kept = refl
records_on bytes more (d ∷ docs) kept =
    rw (record_on bytes more d (All-head (IsKept bytes) d docs kept), records_on bytes more docs (All-tail (IsKept bytes) d docs kept)) refl

kept_on : (bytes more : List ℕ) (d : KeptDoc) → IsKept bytes d → IsKept (bytes ++ more) d
kept_on bytes more d is = record {
  order = is.order;
  within = (let inside = is.within in omega (arith, inside, length-append bytes more));
  fits = subst (λ (r : NumberedDoc). FitsDoc r.doc) (sym (record_on bytes more d is)) is.fits;
}

-- what a push leaves: more bytes, with or without a document whose name they are
module _ (bytes more newer : List ℕ) (grown : newer ≡ bytes ++ more) (docs longer : List KeptDoc) (kept : All (IsKept bytes) docs) where
  records_before : records_at newer docs ≡ records_at bytes docs
  records_before = ap (λ (b : List ℕ). records_at b docs) grown ∙ records_on bytes more docs kept

  kept_before : All (IsKept newer) docs
  kept_before i d low = subst (λ (b : List ℕ). IsKept b (get_or docs i d)) (sym grown) (kept_on bytes more (get_or docs i d) (kept i d low))

  module _ (d : KeptDoc) (with_doc : longer ≡ docs ++ d ∷ []) (from : d.from ≡ length bytes) (to : d.to ≡ length newer) where
    record_new : record_at newer d ≡ record { number = d.number; doc = record { name = more; length = d.length } }
    record_new =
        let part : slice_range newer d.from d.to ≡ more = ap (λ (b : List ℕ). slice_range b d.from d.to) grown ∙ slice_new bytes more d.from d.to from (to ∙ ap length grown) in
        rw part refl

    pub records_more : records_at newer longer ≡ records_at bytes docs ++ record { number = d.number; doc = record { name = more; length = d.length } } ∷ []
    records_more = ap (records_at newer) with_doc ∙ map-append (record_at newer) docs (d ∷ []) ∙ rw (records_before, record_new) refl

    pub kept_more : FitsDoc (record { name = more; length = d.length }) → All (IsKept newer) longer
    kept_more fits =
        let size : length newer ≡ length bytes + length more = ap length grown ∙ length-append bytes more in
        let here : IsKept newer d = record {
          order = omega (arith, size, from, to);
          within = omega (arith, to);
          fits = subst (λ (r : NumberedDoc). FitsDoc r.doc) (sym record_new) fits;
        } in
        subst (λ (ds : List KeptDoc). All (IsKept newer) ds) (sym with_doc) (All-append (IsKept newer) docs (d ∷ []) kept_before (All-cons (IsKept newer) d [] here (All-nil (IsKept newer))))

-- documents in order are records in order
pub ordered_docs : (bytes : List ℕ) (docs ordered : List KeptDoc) → All (IsKept bytes) docs → IsPermutation docs ordered → IsNonDecreasingBy (λ (d : KeptDoc). d.number) ordered → AreInOrder (records_at bytes docs) (records_at bytes ordered)
ordered_docs bytes docs ordered kept same rising = record {
  same = IsPermutation-map (record_at bytes) docs ordered same;
  rising = mapped (λ (a b : NumberedDoc). a.number ≤ b.number) (record_at bytes) ordered (λ i j d less low. rising i j d (omega (arith, less)) low);
  fit = All-map (λ (r : NumberedDoc). FitsDoc r.doc) (record_at bytes) ordered (λ i d low. (All-permutation (IsKept bytes) docs ordered same kept i d low).fits);
}

-- the lengths of the documents
pub lengths_at : (bytes : List ℕ) (docs : List KeptDoc) → map (λ (d : KeptDoc). d.length) docs ≡ lengths_in (records_at bytes docs)
lengths_at bytes docs = sym (map-map (λ (r : NumberedDoc). r.doc.length) (record_at bytes) docs)

-- the length of one document more
pub lengths_next : (docs : List KeptDoc) (i : ℕ) (d : KeptDoc) → i < length docs
    → map (λ (d : KeptDoc). d.length) (take (i + 1) docs) ≡ map (λ (d : KeptDoc). d.length) (take i docs) ++ (get_or docs i d).length ∷ []
lengths_next docs i d low =
    let one : i + 1 ≡ suc i = omega arith in
    ap (λ (n : ℕ). map (λ (d : KeptDoc). d.length) (take n docs)) one ∙ ap (map (λ (d : KeptDoc). d.length)) (take-suc docs i d low)
    ∙ map-append (λ (d : KeptDoc). d.length) (take i docs) (get_or docs i d ∷ [])
