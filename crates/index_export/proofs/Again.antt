-- An export, made an index again.
use Rattle.shared_lemmas.proofs.Common.{◌≡◌, ℕ, ◌≤◌, List, [], ◌∷◌, ◌++◌, length, map, min, refl, sym, ap, ap₂, ◌∙◌, subst, arith, IsPermutation, AllByRecursion, flat_map, slice_cmp, nat_cmp-IsAntisymmetric, slice_cmp-IsAntisymmetric, nat_list_cmp_total, map-append, recursion_from_All}
use Rattle.shared_lemmas.proofs.Common.{IsPermutation-refl, IsPermutation-sym, IsPermutation-map, IsPermutation-append, map-map}
use Rattle.std.proofs.Common.{nat_cmp}
use Rattle.jass_base.specs.Ciff.{ListData, DocData}
use Rattle.jass_base.specs.declared.posting.Posting.{Posting}
use Rattle.weights.specs.declared.quantizing.Bits.TheVariants.{Raw}
use Rattle.weights.specs.declared.weighting.Rule.TheVariants.{Tf}
use Rattle.ranking_model.specs.declared.entry.Entry.{Entry}
use Rattle.ranking_model.specs.Flat.{entry_cmp, IsFlat}
use Rattle.ranking_model.specs.Order.{sorted}
use Rattle.ranking_model.proofs.Orders.{entry_total, entry_same}
use Rattle.ranking_model.proofs.Sorting.{all_sorted, sort_is_sorted, sorted_is_permutation}
use Rattle.index_model.specs.Flat.{term_entries, flat_of_terms, flat_of}
use Rattle.index_model.specs.Index.{SegmentData, TermData, IndexData, IsTerm, IsIndex}
use Rattle.impact_segments.specs.Collections.{index_of}
use Rattle.index_export.specs.Exports.{doc_cmp, segment_postings, term_list, exported_list, export_of}
use Rattle.index_export.proofs.OneTerm.{gathered, each_tf}

-- the entry of a posting whose impact is its tf
abbrev entry_of : List ℕ → Posting → Entry (List ℕ)
entry_of term p = record { term = term; doc = p.doc; impact = p.tf }

-- the same, cut off as a raw impact
abbrev raw_entry : List ℕ → Posting → Entry (List ℕ)
raw_entry term p = record { term = term; doc = p.doc; impact = min p.tf 65535 }

raw_same : (term : List ℕ) (ps : List Posting) → AllByRecursion (λ (p : Posting). (1 ≤ p.tf) × (p.tf ≤ 65535)) ps → map (raw_entry term) ps ≡ map (entry_of term) ps
raw_same term [] h = refl
raw_same term (p ∷ ps) h =
    let small : min p.tf 65535 ≡ p.tf = omega (arith, h.0.1) in
    ap₂ (λ (n : ℕ) (es : List (Entry (List ℕ))). (let e : Entry (List ℕ) = record { term = term; doc = p.doc; impact = n } in e) ∷ es) small (raw_same term ps h.1)

entries_same : (term : List ℕ) (segments : List SegmentData) → map (entry_of term) (gathered segments) ≡ term_entries term segments
entries_same term [] = refl
entries_same term (s ∷ ss) =
    map-append (entry_of term) (segment_postings s) (gathered ss)
    ∙ ap₂ (λ (x y : List (Entry (List ℕ))). x ++ y) (map-map (entry_of term) (λ (doc : ℕ). record { doc = doc; tf = s.impact }) s.docs) (entries_same term ss)

-- the entries of an exported list are those of its term
one_list : (d : ℕ) (t : TermData) → IsTerm d t → IsPermutation (map (raw_entry t.term) (term_list t)) (term_entries t.term t.segments)
one_list d t is =
    let ps = gathered t.segments in
    let P : List (Entry (List ℕ)) → Type 0 = λ (es : List (Entry (List ℕ))). IsPermutation es (term_entries t.term t.segments) in
    let Q : List (Entry (List ℕ)) → Type 0 = λ (es : List (Entry (List ℕ))). IsPermutation (map (entry_of t.term) (sorted doc_cmp ps)) es in
    subst P (sym (raw_same t.term (sorted doc_cmp ps) (all_sorted doc_cmp (λ (p : Posting). (1 ≤ p.tf) × (p.tf ≤ 65535)) ps (each_tf d t is))))
    (subst Q (entries_same t.term t.segments)
    (IsPermutation-map (entry_of t.term) (sorted doc_cmp ps) ps (IsPermutation-sym ps (sorted doc_cmp ps) (sorted_is_permutation doc_cmp ps))))

abbrev list_entries : ListData → List (Entry (List ℕ))
list_entries l = map (raw_entry l.term) l.postings

all_lists : (d : ℕ) (terms : List TermData) → AllByRecursion (IsTerm d) terms → IsPermutation (flat_map list_entries (map exported_list terms)) (flat_of_terms terms)
all_lists d [] h = IsPermutation-refl []
all_lists d (t ∷ ts) h =
    IsPermutation-append (list_entries (exported_list t)) (term_entries t.term t.segments) (flat_map list_entries (map exported_list ts)) (flat_of_terms ts) (one_list d t h.0) (all_lists d ts h.1)

pub export_is_flat : (index : IndexData) → IsIndex index → IsFlat (slice_cmp nat_cmp) (length index.names) (flat_of index) → index_of (export_of index) Tf Raw ≡ flat_of index
unfolding export_of
export_is_flat index is flat =
    sym (sort_is_sorted (entry_cmp (slice_cmp nat_cmp)) (entry_total (slice_cmp nat_cmp) nat_list_cmp_total) (entry_same (slice_cmp nat_cmp) (slice_cmp-IsAntisymmetric nat_cmp-IsAntisymmetric))
    (flat_map list_entries (map exported_list index.terms)) (flat_of index)
    (all_lists (length index.names) index.terms (recursion_from_All (IsTerm (length index.names)) index.terms is.terms)) flat.order)

same_names : (names : List (List ℕ)) → map (λ (d : DocData). d.name) (map (λ (name : List ℕ). record { name = name; length = 0 }) names) ≡ names
same_names [] = refl
same_names (n ∷ ns) = ap (λ (l : List (List ℕ)). n ∷ l) (same_names ns)

pub names_are : (index : IndexData) → map (λ (d : DocData). d.name) (export_of index).docs ≡ index.names
unfolding export_of
names_are index = same_names index.names
