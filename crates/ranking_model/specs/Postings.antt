-- The weighted postings of a query. Weights by the number of mentions are this project's; weight as impact times query
-- frequency is that of impact-ordered ranking (Lin and Trotman 2015).
use Rattle.std.specs.Prelude.{ℕ, suc, ◌*◌, ◌≤◌, ◌≢◌, length, All, AllPairs, List, [], ◌∷◌, ◌++◌, map, filter, ◌==◌}
use Rattle.ranking_model.specs.declared.entry.Entry.{Entry}
use Rattle.jass_base.specs.declared.query_term.QueryTerm.{QueryTerm}
use Rattle.ranking_model.specs.declared.posting.WeightedPosting.{WeightedPosting}
use Rattle.jass_base.specs.declared.limits.TheConstants.{MOST_QUERY_TERMS}

-- the known terms of a query: at most 256, which differ, each named at least once
pub record AreTerms (terms : List QueryTerm) : Type 0 where
  pub few : length terms ≤ MOST_QUERY_TERMS
  pub named : All (λ n. 1 ≤ n.times) terms
  pub differ : AllPairs (λ m n. m.term ≢ n.term) terms

-- what the entries of one term weigh for the query: impact times how often the query names the term
abbrev pub weighted_at : ℕ → QueryTerm → List (Entry ℕ) → List WeightedPosting
weighted_at term_place named flat = map (λ e. record { term_place = term_place; doc = e.doc; weight = e.impact * named.times }) (filter (λ e. e.term == named.term) flat)

-- the weighted postings of terms, of which the first has this place in the query
abbrev pub weighted_from : ℕ → List QueryTerm → List (Entry ℕ) → List WeightedPosting
weighted_from term_place [] flat = []
weighted_from term_place (named ∷ terms) flat = weighted_at term_place named flat ++ weighted_from (suc term_place) terms flat

-- one posting for each entry whose term the query names; its place is the term's place in the query
abbrev pub weighted_postings : List (Entry ℕ) → List QueryTerm → List WeightedPosting
weighted_postings flat terms = weighted_from 0 terms flat
