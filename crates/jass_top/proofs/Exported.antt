-- The collection of an exported index keeps the limits of CIFF, and its import is the index again.
use Rattle.shared_lemmas.proofs.Common.{◌≡◌, ◌≢◌, ℕ, ◌*◌, ◌≤◌, ◌^◌, List, [], ◌∷◌, length, map, true, Some, refl, sym, ap, subst, ◌∙◌, arith, get_or, All, AllByRecursion, is_lt, nat_cmp, slice_cmp, nat_list_cmp_total, tied_itself, IsUtf8-from_is_utf8, IsUtf8-nil, IsDistinct-from_AllPairs, bytes_eq-Decides, All-map, get_or-le-sum_by, length-map, map-map, recursion_from_All, sum_by, sum_by-cons}
use Rattle.std.proofs.Common.{Ordering, Equal, AllPairs}
use Rattle.shared_lemmas.proofs.Sums.{sum_map}
use Rattle.shared_lemmas.proofs.Pairs.{pairs_by_places, pairs_by_recursion, pairs_map, pairs_weaker}
use Rattle.jass_base.specs.Ciff.{FitsDoc, FitsList, postings_count}
use Rattle.jass_base.specs.Terms.{BytesRise}
use Rattle.jass_top.proofs.Below.{CollectionData, DocData, Files, ListData, canonical_ciff, IndexData, IsIndex, TermData, index_postings, index_text, term_postings, collection_index, Raw, Tf}
use Rattle.index_model.specs.Index.{IsTerm, RisesTo}
use Rattle.index_export.specs.Exports.{export_of, exported_list, impact_sum, term_list}
use Rattle.index_export.proofs.OneTerm.{list_below, list_count, list_rises, list_sum, list_tf}
use Rattle.ciff_write.specs.Keeping.{KeepsLimits}
use Rattle.jass_top.specs.IndexJudging.{fitting}
use Rattle.jass_top.specs.ImportMeaning.{import_meaning}
use Rattle.jass_top.specs.Judging.{Accepted, Judged, behind, judge_ciff}
use Rattle.jass_top.proofs.JudgedFiles.{fits}

-- ---- its lists

list_fits : (d : ℕ) (t : TermData) → IsTerm d t → term_postings t ≤ 2 ^ 29 → FitsList d (exported_list t)
list_fits d t is few =
    let count = list_count t in
    let sum = list_sum d t is in
    record {
      text = IsUtf8-from_is_utf8 t.term is.text;
      short = is.fits;
      df = omega (arith, count, few);
      cf = omega (arith, sum, few);
      rising = list_rises d t is;
      tf = list_tf d t is;
      below = list_below d t is;
    }

abbrev term_sum : TermData → ℕ
term_sum t = impact_sum (term_list t)

all_sums : (d : ℕ) (terms : List TermData) → AllByRecursion (IsTerm d) terms → sum_by term_sum terms ≤ 65535 * sum_by term_postings terms
all_sums d [] are = omega arith
all_sums d (t ∷ terms) are =
    let sums = sum_by-cons term_sum t terms in
    let counts = sum_by-cons term_postings t terms in
    let first = list_sum d t are.0 in
    let rest = all_sums d terms are.1 in
    omega (arith, sums, counts, first, rest)

all_counted : (terms : List TermData) → postings_count (map exported_list terms) ≡ sum_by term_postings terms
all_counted terms =
    sum_map (λ (n : ℕ). n) (λ (l : ListData). length l.postings) (map exported_list terms)
    ∙ sum_map (λ (l : ListData). length l.postings) exported_list terms
    ∙ (λ i. sum_by (λ (t : TermData). list_count t i) terms)

-- ---- their terms differ

abbrev text_of : ListData → List ℕ
text_of l = l.term

abbrev text_in : TermData → List ℕ
text_in t = t.term

not_same : (a b : List ℕ) → BytesRise a b → a ≢ b
not_same a b rises e =
    let own : is_lt (slice_cmp nat_cmp b b) ≡ true = subst (λ (c : List ℕ). is_lt (slice_cmp nat_cmp c b) ≡ true) e rises in
    let tie : is_lt Equal ≡ true = subst (λ (o : Ordering). is_lt o ≡ true) (tied_itself nat_list_cmp_total b) own in
    cc

terms_differ : (index : IndexData) → IsIndex index → AllPairs (λ (a b : List ℕ). a ≢ b) (map text_of (map exported_list index.terms))
terms_differ index is =
    let apart : AllPairs (λ (a b : List ℕ). a ≢ b) (map text_in index.terms) =
    pairs_by_places (λ (a b : List ℕ). a ≢ b) (map text_in index.terms) (pairs_weaker BytesRise (λ (a b : List ℕ). a ≢ b) not_same (map text_in index.terms)
    (pairs_map BytesRise text_in index.terms (pairs_by_recursion RisesTo index.terms is.rising))) in
    subst (λ (texts : List (List ℕ)). AllPairs (λ (a b : List ℕ). a ≢ b) texts) (sym (map-map text_of exported_list index.terms)) apart

-- ---- the whole of it

abbrev named : List ℕ → DocData
named name = record { name = name; length = 0 }

pub export_keeps_limits : (index : IndexData) → IsIndex index → index_postings index ≤ 2 ^ 29 → length (canonical_ciff (export_of index)) ≤ 2 ^ 32 → KeepsLimits (export_of index)
unfolding export_of
export_keeps_limits index is few short =
    let lists : length (map exported_list index.terms) ≡ length index.terms = length-map index.terms exported_list in
    let docs : length (map named index.names) ≡ length index.names = length-map index.names named in
    let sums = all_sums (length index.names) index.terms (recursion_from_All (IsTerm (length index.names)) index.terms is.terms) in
    let count = all_counted index.terms in
    record {
      header = record {
        version = omega arith;
        total_lists = omega (arith, is.few_terms);
        total_docs = omega (arith, is.few_names);
        total_terms = omega (arith, sums, few);
        description = IsUtf8-nil;
        few_lists = omega (arith, lists, is.few_terms);
        few_docs = omega (arith, docs, is.few_names);
      };
      average = refl;
      lists = subst (λ (n : ℕ). All (FitsList n) (map exported_list index.terms)) (sym docs)
          (All-map (FitsList (length index.names)) exported_list index.terms (λ k d inside.
          let one = get_or-le-sum_by term_postings index.terms k d inside in
          list_fits (length index.names) (get_or index.terms k d) (is.terms k d inside) (omega (arith, one, few))));
      docs = All-map FitsDoc named index.names (λ k d inside. record {
        text = IsUtf8-from_is_utf8 (get_or index.names k d) (is.names_are_text k d inside);
        name = is.names k d inside;
        length = omega arith;
      });
      terms_differ = IsDistinct-from_AllPairs bytes_eq-Decides (map text_of (map exported_list index.terms)) (terms_differ index is);
      few_postings = omega (arith, count, few);
      short = short;
    }

-- ---- its import

pub import_is : (ciff again : List ℕ) (files : Files) (index : IndexData) → judge_ciff ciff (Some files) ≡ Accepted (export_of index) → collection_index Tf Raw (export_of index) ≡ index → length (index_text index) ≤ 2 ^ 32
    → (import_meaning ciff again Tf Raw).judge (Some files) ≡ Accepted index
import_is ciff again files index judged kept short =
    ap (λ (j : Judged CollectionData). behind j (λ c. fitting ciff (collection_index Tf Raw c))) judged ∙ ap (fitting ciff) kept ∙ fits ciff index short
