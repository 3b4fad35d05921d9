-- What `trial` means: of a collection from a seed an index is made, queries over it are answered, and a summary is put on
-- the output. Which collection, which queries and what is summed up are this project's.
use Rattle.std.specs.Prelude.{◌≡◌, ℕ, nat_le, Bool, true, false, List, [], ◌∷◌, ◌++◌, length, map, sum_by, count_by, decimal, codes, if◌then◌else◌}
use Rattle.std.specs.List.{AllZip}
use Rattle.jass_base.specs.declared.answer.Budget.{Budget}
use Rattle.jass_base.specs.declared.answer.Budget.TheVariants.{Postings, All}
use Rattle.jass_base.specs.declared.answer.Grade.{Grade}
use Rattle.jass_base.specs.declared.answer.Grade.TheVariants.{Final, Set, Open}
use Rattle.jass_base.specs.declared.answer.Hit.{Hit}
use Rattle.jass_base.specs.declared.answer.Report.{Report}
use Rattle.weights.specs.declared.weighting.Rule.TheVariants.{Bm25}
use Rattle.weights.specs.declared.quantizing.Bits.TheVariants.{Of}
use Rattle.ranking_model.specs.Scores.{top_k}
use Rattle.ranking_model.specs.Search.{QueryData, prefix_granted, prefixes_granted}
use Rattle.index_model.specs.Index.{IndexData, TermData}
use Rattle.index_layout.specs.View.{chosen_codecs, index_postings}
use Rattle.index_file.specs.declared.figures.CodecUse.{CodecUse}
use Rattle.index_file.specs.Places.{codec_use}
use Rattle.trial_data.specs.Trials.{trial_collection, trial_queries}
use Rattle.jass_top.specs.declared.stop.Place.TheVariants.{Byte}
use Rattle.jass_top.specs.Answers.{words_query}
use Rattle.impact_segments.specs.Collections.{collection_index}
use Rattle.jass_top.specs.IndexJudging.{fitting}
use Rattle.jass_top.specs.Judging.{Judged, Accepted, Refuses, behind}
use Rattle.jass_top.specs.Meanings.{Output, Meaning, reading_meaning}
use Rattle.jass_top.specs.SearchMeaning.{IsSearchReport, plan_over_index, scored_postings}
use Rattle.jass_top.specs.Standing.{OfOutput, StepsAlone, TextPart}
use Rattle.jass_base.specs.declared.limits.TheConstants.{MOST_POSTINGS}

-- ---- the index that is made

-- its weights are those of BM25, and its impacts have 8 bits
unfoldable pub trial_index : ℕ → ℕ → ℕ → IndexData
trial_index seed docs terms = collection_index Bm25 (Of 8) (trial_collection seed docs terms)

-- an index as a file has at most 2^29 postings: else 48 at byte 24, where a file has their number
unfoldable pub countable : List ℕ → IndexData → Judged IndexData
countable name index = if nat_le (index_postings index) MOST_POSTINGS then Accepted index else Refuses name 48 (Byte 24)

-- it fits a file by its length, and then by its postings
abbrev pub judge_trial : IndexData → Judged IndexData
judge_trial index = behind (fitting (codes "trial") index) (countable (codes "trial"))

-- ---- the answers

-- each query gets three grants
abbrev pub trial_budgets : List Budget
trial_budgets = Postings 1000 ∷ Postings 9000 ∷ All ∷ []

-- how many segments of a query's plan are scored after so many of them
abbrev pub trial_prefix : IndexData → ℕ → QueryData → ℕ
trial_prefix index grants query = prefix_granted grants trial_budgets (plan_over_index index query)

-- the sum of the scores of its ten hits then
abbrev pub hit_scores : List Hit → ℕ
hit_scores hits = sum_by (λ (hit : Hit). hit.score) hits

abbrev pub trial_scores : IndexData → ℕ → QueryData → ℕ
trial_scores index grants query = hit_scores (top_k (trial_prefix index grants query) (plan_over_index index query) 10)

-- one report for each query, as a report after so many grants has to be
abbrev pub AreTrialReports : IndexData → ℕ → List QueryData → List Report → Type 0
AreTrialReports index grants queries reports =
    AllZip (λ query report. IsSearchReport index query 10 (trial_prefix index grants query) report) queries reports

abbrev pub is_final : Grade → Bool
is_final Final = true
is_final Set = false
is_final Open = false

-- ---- the summary

abbrev pub index_segments : IndexData → ℕ
index_segments index = sum_by (λ (t : TermData). length t.segments) index.terms

-- `documents D terms T postings P segments S`
unfoldable pub size_text : IndexData → List ℕ
size_text index =
    codes "documents " ++ (decimal (length index.names)
    ++ (codes " terms " ++ (decimal (length index.terms)
    ++ (codes " postings " ++ (decimal (index_postings index)
    ++ (codes " segments " ++ decimal (index_segments index)))))))

-- ` codecs A0 A1 A2 A3`
unfoldable pub codecs_text : CodecUse → List ℕ
codecs_text uses =
    codes " codecs " ++ (decimal uses.varbyte
    ++ (codes " " ++ (decimal uses.packed
    ++ (codes " " ++ (decimal uses.bitmap
    ++ (codes " " ++ (decimal uses.simple8 ++ codes "\n")))))))

abbrev pub use_line : IndexData → CodecUse → List ℕ
use_line index uses = size_text index ++ codecs_text uses

-- an index and its segments, each in its shortest codec
abbrev pub index_line : IndexData → List ℕ
index_line index = use_line index (codec_use (chosen_codecs (length index.names) index.terms))

-- `budget B postings P final F scores X`
unfoldable pub sum_line : List ℕ → ℕ → ℕ → ℕ → List ℕ
sum_line budget postings finals scores =
    codes "budget " ++ (budget
    ++ (codes " postings " ++ (decimal postings
    ++ (codes " final " ++ (decimal finals
    ++ (codes " scores " ++ (decimal scores ++ codes "\n")))))))

-- the reports after so many grants in one line, and the scores
abbrev pub budget_line : IndexData → List QueryData → ℕ → List ℕ → List Report → List ℕ
budget_line index queries grants budget reports =
    sum_line budget
    (sum_by (λ (r : Report). r.postings) reports)
    (count_by (λ (r : Report). is_final r.grade) reports)
    (sum_by (trial_scores index grants) queries)

-- the index, and what was answered after each grant
abbrev pub trial_summary : IndexData → List QueryData → List Report → List Report → List Report → List ℕ
trial_summary index queries first second last =
    index_line index
    ++ (budget_line index queries 1 (codes "1000") first
    ++ (budget_line index queries 2 (codes "10000") second
    ++ budget_line index queries 3 (codes "all") last))

-- the summary of answers whose reports keep what they promise; a step is a posting that is scored
pub record IsTrialOutput (queries : List QueryData) (index : IndexData) (output : Output) : Type 0 where
  pub first : List Report
  pub second : List Report
  pub last : List Report
  pub first_are : AreTrialReports index 1 queries first
  pub second_are : AreTrialReports index 2 queries second
  pub last_are : AreTrialReports index 3 queries last
  pub whole : output ≡ record {
    content = [];
    text = trial_summary index queries first second last;
    steps = sum_by (scored_postings index (prefixes_granted trial_budgets)) queries;
  }

-- the queries of words over an index
abbrev pub queries_over : IndexData → List (List (List ℕ)) → List QueryData
queries_over index asked = map (words_query index) asked

-- the index stands for an input of the name `trial`, which is no file; steps are counted while memory is still taken
abbrev pub tried_meaning : IndexData → List (List (List ℕ)) → Meaning
tried_meaning index asked =
    record (reading_meaning (codes "trial" ∷ []) (λ told. judge_trial index)
    (λ made. IsTrialOutput (queries_over made asked) made)
    (λ made. OfOutput (λ (index : IndexData). IsTrialOutput (queries_over index asked) index) TextPart made)) {
      files = [];
      AtMemory = λ made. OfOutput (λ (index : IndexData). IsTrialOutput (queries_over index asked) index) StepsAlone made;
    }

abbrev pub trial_meaning : ℕ → ℕ → ℕ → ℕ → Meaning
trial_meaning seed docs terms queries =
    tried_meaning (trial_index seed docs terms) (trial_queries seed docs terms queries)
