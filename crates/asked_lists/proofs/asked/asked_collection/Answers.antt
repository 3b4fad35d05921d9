use Rattle.shared_lemmas.proofs.Common.{◌≡◌, ◌≤◌, ℕ, List, All, AllPairs, Bool, arith, filter, length, map, not, refl, ap, sym, subst, ◌∙◌, string_bytes, sum_by, All-filter, AllPairs-filter, length-filter, count_by-le-length, sum_by-filter_both}
use Rattle.jass_base.specs.Ciff.{CollectionData, ListData}
use Rattle.jass_base.specs.CiffViews.{collection_data, list_data}
use Rattle.jass_base.specs.Lists.{DifferInTerm, HasDocsBelow}
use Rattle.jass_base.specs.declared.limits.TheConstants.{MOST_TERMS}
use Rattle.jass_base.specs.declared.postings_list.PostingsList.{PostingsList}
use Rattle.asked_lists.specs.Asked.{is_asked}
use Rattle.asked_lists.proofs.Lists.{filter_mapped}
use Rattle.asked_lists.proofs.asked.asked_collection.Goals as goal

fewer : {A : Type 0} (p : A → Bool) (xs : List A) (most : ℕ) → length xs ≤ most → length (filter p xs) ≤ most
fewer p xs most few = omega (arith, few, length-filter p xs, count_by-le-length p xs)

pub invariant_of-result : goal.invariant_of-result
invariant_of-result c =
    let asked : PostingsList → Bool = λ (l : PostingsList). is_asked (map string_bytes c.args.words.now) l.term in
    let all = c.args.collection.lists in
    let below = HasDocsBelow (length c.args.collection.docs) in
    let is : filter asked all ≡ c.in_ok-lists.lists = sym c.in_ok-lists.ensures in
    record {
      few_lists = subst (λ (ls : List PostingsList). length ls ≤ MOST_TERMS) is (fewer asked all MOST_TERMS c.args.collection.few_lists);
      few_docs = c.args.collection.few_docs;
      docs_below = subst (All below) is (All-filter asked below all c.args.collection.docs_below);
      terms_differ = subst (AllPairs DifferInTerm) is (AllPairs-filter DifferInTerm asked all c.args.collection.terms_differ);
    }

pub returns-clause-asked : goal.returns-clause-asked
returns-clause-asked c =
    let from : CollectionData = collection_data c.args.collection in
    ap (λ (ls : List ListData). (let asked : CollectionData = record from { lists = ls } in asked))
    (ap (map list_data) c.in_ok-lists.ensures ∙ sym (filter_mapped (λ (l : ListData). is_asked (map string_bytes c.args.words.now) l.term) list_data c.args.collection.lists))

pub returns-clause-few : goal.returns-clause-few
returns-clause-few c =
    let asked : PostingsList → Bool = λ (l : PostingsList). is_asked (map string_bytes c.args.words.now) l.term in
    let count : PostingsList → ℕ = λ (l : PostingsList). length l.postings in
    subst (λ (ls : List PostingsList). sum_by count ls ≤ sum_by count c.args.collection.lists) (sym c.in_ok-lists.ensures)
    (omega (arith, sum_by-filter_both asked (λ l. not (asked l)) (λ l. refl) count c.args.collection.lists))
