-- What an exhaustive search leaves query by query is its output.
use Rattle.shared_lemmas.proofs.Common.{◌≡◌, ℕ, suc, List, [], ◌∷◌, ◌++◌, length, refl, sym, ap, subst, ◌∙◌, ◌+◌, ◌≤◌, arith, Option, Some, All, AllByRecursion, sum_by, nat_cmp, append-nil, sum_by-cons}
use Rattle.jass_base.specs.declared.answer.Budget.TheVariants as budgets
use Rattle.jass_base.specs.declared.limits.TheConstants.{MOST_POSTINGS, MOST_TIMES}
use Rattle.ranking_model.specs.Limits.{IsSmall}
use Rattle.ranking_model.specs.Plan.{most, plan_segments}
use Rattle.ranking_model.specs.Postings.{AreTerms}
use Rattle.ranking_model.specs.Search as model
use Rattle.ranking_model.specs.declared.posting.WeightedPosting.{WeightedPosting}
use Rattle.std.proofs.Common.{flat_map}
use Rattle.index_model.specs.Index.{TermData}
use Rattle.index_model.specs.Querying.{query_segments, query_segments_at, query_segments_from, segments_at}
use Rattle.max_score.specs.Cursors.{postings_in}
use Rattle.max_score.specs.Searches.{query_postings}
use Rattle.ranking_model.specs.Plan.{postings_of}
use Rattle.run_audit.specs.Private.Reading.{plan_postings}
use Rattle.run_audit.proofs.Gathered.{flat_is_long, postings_long, size_at, size_more}
use Rattle.jass_top.proofs.Below.{AppendsPrefix, Budget, Entry, FileView, Files, IndexData, IsFileView, IsFlat, IsWellFormed, Mode, PlanSegment, QueryData, QueryPlan, QueryTerm, numbered_flat, plan_of, prefix_granted, prefix_within, prefixes_granted, size_of_first, weighted_postings, well_formed}
use Rattle.jass_top.specs.Endings.{Over}
use Rattle.jass_top.specs.ExhaustMeaning.{IsExhaustOutput, exhaust_meaning, exhaustive_output, exhaustive_run, exhaustive_runs, postings_of_queries, postings_of_query}
use Rattle.jass_top.specs.Meanings.{Output}
use Rattle.jass_top.specs.Private.Inputs.{HasInput}
use Rattle.jass_top.specs.QueryJudging.{without_lines}
use Rattle.jass_top.specs.SearchMeaning.{IsSearchOutput, SearchInputs, judge_search, plan_over_index, scored_postings, search_within}
use Rattle.jass_top.specs.Standing.{LeavesFront, OfOutput, PartOfEach}
use Rattle.jass_top.specs.Worlds.{Outer}
use Rattle.jass_top.proofs.Asked.{AreAsked}
use Rattle.jass_top.proofs.Searched.{AreInputs}

pub exact_for : (held : IndexData) (k : ℕ) (tag : List ℕ) (asked : List QueryData) (inputs : SearchInputs) → AreInputs held asked inputs → IsExhaustOutput k tag inputs (exhaustive_output held k tag asked)
exact_for held k tag asked inputs are = λ i. exhaustive_output (sym are.0 i) k tag (sym are.1 i)

pub part_left : (index queries run : List ℕ) (k : ℕ) (tag : List ℕ) (mode : Mode) (held : IndexData) (asked : List QueryData) (told : Option Files) (before after : Outer) → told ≡ before.told
    → HasInput (judge_search index queries mode before.told) (AreInputs held asked) → LeavesFront (Some run) told after.told (exhaustive_output held k tag asked).content
    → AppendsPrefix before.written after.written (exhaustive_output held k tag asked).text → (before.steps ≤ after.steps) × (after.steps ≤ before.steps + (exhaustive_output held k tag asked).steps)
    → Over (exhaust_meaning index queries run k tag mode) (OfOutput (IsExhaustOutput k tag) (PartOfEach run)) before after
part_left index queries run k tag mode held asked told before after same had content text steps = record {
  inputs = had.input;
  accepted = had.accepted;
  stands = record {
    output = exhaustive_output held k tag asked;
    exact = exact_for held k tag asked had.input had.holds;
    stands = record {
      content = subst (λ old. LeavesFront (Some run) old after.told (exhaustive_output held k tag asked).content) same content;
      text = text;
      steps = record { never_less = steps.0; at_most = steps.1 };
    };
  };
}

-- ---- all postings of a query

-- the law of weighted postings
abbrev pub Weigh : Type 0
Weigh = (index : IndexData) (query : List QueryTerm) → weighted_postings (numbered_flat index) query ≡ flat_map postings_of (query_segments index query)

counted_from : (term_place : ℕ) (query : List QueryTerm) (terms : List TermData) → plan_postings (query_segments_from term_place query terms) ≡ sum_by (λ (n : QueryTerm). postings_in (segments_at terms n.term)) query
counted_from term_place [] terms = refl
counted_from term_place (n ∷ query) terms =
    size_more (query_segments_at term_place n (segments_at terms n.term)) (query_segments_from term_place (n ∷ query) terms) (query_segments_from (suc term_place) query terms) refl
    ∙ (λ i. size_at term_place n (segments_at terms n.term) i + counted_from (suc term_place) query terms i)
    ∙ sym (sum_by-cons (λ (n : QueryTerm). postings_in (segments_at terms n.term)) n query)

pub postings_same : Weigh → (index : IndexData) (query : QueryData) → query_postings index query.terms ≡ postings_of_query index query
postings_same weigh index query =
    sym (ap length (weigh index query.terms) ∙ postings_long (query_segments index query.terms) ∙ counted_from 0 query.terms index.terms)

-- ---- all postings are granted

-- the laws of prefixes, of plans that are small, and of flat lists
abbrev pub AreLongest : Type 0
AreLongest = (budget n : ℕ) (segments : List PlanSegment) → n ≤ length segments → size_of_first n segments ≤ budget → n ≤ prefix_within budget segments

abbrev pub AreThere : Type 0
AreThere = (budget : ℕ) (segments : List PlanSegment) → prefix_within budget segments ≤ length segments

abbrev pub AreSmall : Type 0
AreSmall = (docs : ℕ) (flat : List (Entry ℕ)) (terms : List QueryTerm) → IsFlat nat_cmp docs flat → AreTerms terms → All (λ (n : QueryTerm). n.times ≤ MOST_TIMES) terms → length flat ≤ MOST_POSTINGS → IsSmall (plan_of docs flat terms)

abbrev pub HaveAllPostings : Type 0
HaveAllPostings = (postings : List WeightedPosting) → size_of_first (length (plan_segments postings)) (plan_segments postings) ≡ length postings

abbrev pub HaveSegments : Type 0
HaveSegments = (docs : ℕ) (flat : List (Entry ℕ)) (terms : List QueryTerm) → (plan_of docs flat terms).segments ≡ plan_segments (weighted_postings flat terms)

abbrev pub AreFlat : Type 0
AreFlat = (index : IndexData) → IsWellFormed index → IsFlat nat_cmp (length index.names) (numbered_flat index)

abbrev all_of_it : List Budget
all_of_it = budgets.All ∷ []

module _ (longest : AreLongest) (there : AreThere) where
  all_within : (plan : QueryPlan) → IsSmall plan → prefix_granted 1 all_of_it plan ≡ length plan.segments
  all_within plan small =
      let postings = small.postings in
      omega (arith, longest most (length plan.segments) plan.segments (omega arith) (omega (arith, postings)), there most plan.segments)

  module _ (smalls : AreSmall) (postings_are : HaveAllPostings) (segments_are : HaveSegments) (flats : AreFlat) (k : ℕ) (tag : List ℕ) (view : FileView) (file : IsFileView view) where
    abbrev plan : QueryData → QueryPlan
    plan query = plan_over_index view.index query

    small : (query : QueryData) → AreAsked query.terms → IsSmall (plan query)
    small query asked = smalls (length view.index.names) (numbered_flat view.index) query.terms (flats view.index (well_formed view.index file.index)) asked.0 asked.1
        (subst (λ (n : ℕ). n ≤ MOST_POSTINGS) (sym (flat_is_long view.index)) file.postings)

    same_run : (query : QueryData) → AreAsked query.terms
        → exhaustive_run view.index k tag query ≡ model.query_run view.index.names (plan query) query.id k (prefixes_granted all_of_it (plan query)) tag
    same_run query asked =
        sym (append-nil (exhaustive_run view.index k tag query))
        ∙ ap (λ (n : ℕ). model.query_run view.index.names (plan query) query.id k (n ∷ []) tag) (sym (all_within (plan query) (small query asked)))

    pub same_runs : (queries : List QueryData) → AllByRecursion (λ (query : QueryData). AreAsked query.terms) queries
        → exhaustive_runs view.index k tag queries ≡ model.search_run_at (prefixes_granted all_of_it) view.index.names (numbered_flat view.index) queries k tag
    same_runs [] asked = refl
    same_runs (query ∷ queries) asked = λ i. same_run query asked.0 i ++ same_runs queries asked.1 i

    same_count : (query : QueryData) → AreAsked query.terms → postings_of_query view.index query ≡ scored_postings view.index (prefixes_granted all_of_it) query
    same_count query asked =
        sym (postings_are (weighted_postings (numbered_flat view.index) query.terms))
        ∙ ap (λ (segments : List PlanSegment). size_of_first (length segments) segments) (sym (segments_are (length view.index.names) (numbered_flat view.index) query.terms))
        ∙ ap (λ (n : ℕ). size_of_first n (plan query).segments) (sym (all_within (plan query) (small query asked)))

    pub same_counts : (queries : List QueryData) → AllByRecursion (λ (query : QueryData). AreAsked query.terms) queries
        → postings_of_queries view.index queries ≡ sum_by (scored_postings view.index (prefixes_granted all_of_it)) queries
    same_counts [] asked = refl
    same_counts (query ∷ queries) asked =
        sum_by-cons (postings_of_query view.index) query queries
        ∙ (λ i. same_count query asked.0 i + same_counts queries asked.1 i)
        ∙ sym (sum_by-cons (scored_postings view.index (prefixes_granted all_of_it)) query queries)

    pub content_same : (inputs : SearchInputs) (output other : Output) → inputs.index ≡ view.index → AllByRecursion (λ (query : QueryData). AreAsked query.terms) (without_lines inputs.queries)
        → IsExhaustOutput k tag inputs output → IsSearchOutput (search_within k all_of_it tag) inputs other → output.content ≡ other.content
    content_same inputs output other index asked is theirs =
        ap (λ (o : Output). o.content) is
        ∙ ap (λ (x : IndexData). exhaustive_runs x k tag (without_lines inputs.queries)) index
        ∙ same_runs (without_lines inputs.queries) asked
        ∙ ap (λ (x : IndexData). model.search_run_at (prefixes_granted all_of_it) x.names (numbered_flat x) (without_lines inputs.queries) k tag) (sym index)
        ∙ sym theirs.run

    pub steps_same : (inputs : SearchInputs) (output other : Output) → inputs.index ≡ view.index → AllByRecursion (λ (query : QueryData). AreAsked query.terms) (without_lines inputs.queries)
        → IsExhaustOutput k tag inputs output → IsSearchOutput (search_within k all_of_it tag) inputs other → output.steps ≡ other.steps
    steps_same inputs output other index asked is theirs =
        ap (λ (o : Output). o.steps) is
        ∙ ap (λ (x : IndexData). postings_of_queries x (without_lines inputs.queries)) index
        ∙ same_counts (without_lines inputs.queries) asked
        ∙ ap (λ (x : IndexData). sum_by (scored_postings x (prefixes_granted all_of_it)) (without_lines inputs.queries)) (sym index)
        ∙ sym theirs.steps
