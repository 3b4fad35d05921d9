-- The lists and documents of a whole index.
use Rattle.shared_lemmas.proofs.Common.{◌≡◌, ◌≢◌, ℕ, ◌*◌, ◌<◌, ◌≤◌, ◌^◌, List, [], ◌∷◌, length, map, true, sym, ap, ◌∙◌, subst, arith, AllPairs, AllByRecursion, is_lt, nat_cmp, slice_cmp, nat_list_cmp_total, tied_itself, length-map, recursion_from_All, sum_by-cons, get_or-le-sum_by, map-map}
use Rattle.std.proofs.Common.{Ordering, Equal}
use Rattle.std.specs.List.{sum_by}
use Rattle.jass_base.specs.Ciff.{ListData}
use Rattle.jass_base.specs.CiffViews.{list_data}
use Rattle.jass_base.specs.declared.postings_list.PostingsList.{PostingsList}
use Rattle.jass_base.specs.Lists.{DifferInTerm}
use Rattle.jass_base.specs.Terms.{BytesRise}
use Rattle.index_model.specs.Index.{TermData, IndexData, IsTerm, IsIndex, RisesTo}
use Rattle.shared_lemmas.proofs.Pairs.{Pairs, pairs_by_recursion, pairs_by_places, pairs_map, pairs_unmap, pairs_weaker}
use Rattle.index_layout.specs.View.{term_postings, index_postings}
use Rattle.shared_lemmas.proofs.Sums.{sum_map}
use Rattle.index_export.specs.Exports.{term_list, impact_sum, exported_list}
use Rattle.index_export.specs.Private.Gathering.{cf_sum, term_with}
use Rattle.index_export.proofs.OneTerm.{list_sum}

-- ---- one of its terms

pub term_is : (index : IndexData) (t : ℕ) → IsIndex index → t < length index.terms → IsTerm (length index.names) (term_with index.terms t)
term_is index t is low = is.terms t (record { term = []; segments = [] }) low

pub term_small : (index : IndexData) (t : ℕ) → t < length index.terms → term_postings (term_with index.terms t) ≤ index_postings index
term_small index t low = get_or-le-sum_by term_postings index.terms t (record { term = []; segments = [] }) low

-- ---- all of them

abbrev cf_of : ListData → ℕ
cf_of l = l.cf

abbrev term_sum : TermData → ℕ
term_sum t = impact_sum (term_list t)

pub sum_is : (terms : List TermData) (lists : List PostingsList) → map list_data lists ≡ map exported_list terms → cf_sum lists ≡ sum_by (λ (t : TermData). impact_sum (term_list t)) terms
sum_is terms lists same = sym (sum_map cf_of list_data lists) ∙ ap (sum_by cf_of) same ∙ sum_map cf_of exported_list terms

sums : (d : ℕ) (terms : List TermData) → AllByRecursion (IsTerm d) terms → sum_by term_sum terms ≤ 65535 * sum_by term_postings terms
sums d [] h = omega arith
sums d (t ∷ ts) h =
    let a = sum_by-cons term_sum t ts in
    let b = sum_by-cons term_postings t ts in
    let c = list_sum d t h.0 in
    let e = sums d ts h.1 in
    omega (arith, a, b, c, e)

pub sum_small : (index : IndexData) (lists : List PostingsList) → IsIndex index → index_postings index ≤ 2 ^ 29 → map list_data lists ≡ map exported_list index.terms → cf_sum lists < 2 ^ 63
sum_small index lists is few same =
    let a = sum_is index.terms lists same in
    let b = sums (length index.names) index.terms (recursion_from_All (IsTerm (length index.names)) index.terms is.terms) in
    omega (arith, a, b, few)

pub as_many : {A B C : Type 0} (f : A → C) (g : B → C) (xs : List A) (ys : List B) → map f xs ≡ map g ys → length xs ≡ length ys
as_many f g xs ys same = sym (length-map xs f) ∙ ap length same ∙ length-map ys g

-- ---- their terms differ

abbrev text_of : ListData → List ℕ
text_of l = l.term

not_same : (a b : List ℕ) → BytesRise a b → a ≢ b
not_same a b rises e =
    let own : is_lt (slice_cmp nat_cmp b b) ≡ true = subst (λ (c : List ℕ). is_lt (slice_cmp nat_cmp c b) ≡ true) e rises in
    let tie : is_lt Equal ≡ true = subst (λ (o : Ordering). is_lt o ≡ true) (tied_itself nat_list_cmp_total b) own in
    cc

pub terms_differ : (index : IndexData) (lists : List PostingsList) → IsIndex index → map list_data lists ≡ map exported_list index.terms → AllPairs DifferInTerm lists
terms_differ index lists is same =
    let texts : map (λ (t : TermData). t.term) index.terms ≡ map (λ (l : PostingsList). l.term) lists =
    sym (map-map text_of exported_list index.terms) ∙ ap (map text_of) (sym same) ∙ map-map text_of list_data lists in
    let P : List (List ℕ) → Type 0 = λ (l : List (List ℕ)). Pairs BytesRise l in
    pairs_by_places DifferInTerm lists (pairs_weaker (λ (a b : PostingsList). BytesRise a.term b.term) DifferInTerm (λ a b r. not_same a.term b.term r) lists
    (pairs_unmap BytesRise (λ (l : PostingsList). l.term) lists
    (subst P texts (pairs_map BytesRise (λ (t : TermData). t.term) index.terms (pairs_by_recursion RisesTo index.terms is.rising)))))
