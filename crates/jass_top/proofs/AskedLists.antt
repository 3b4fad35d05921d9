-- How a query of words runs over an index that answers it as another one does.
use Rattle.shared_lemmas.proofs.Common.{◌≡◌, ◌≢◌, ◌≤◌, ◌^◌, ◌++◌, ℕ, List, [], ◌∷◌, length, codes, Result, Ok, Err, true, false, sym, subst, ◌∙◌, inl, inr, ◌⊎◌}
use Rattle.ranking_model.specs.declared.posting.WeightedPosting.{WeightedPosting}
use Rattle.jass_top.proofs.Below.{IndexData, index_text, QueryPlan, granted_sum, prefix_within, size_of_first, weighted_postings, numbered_flat, IsPromised, IsReport, Report, report_line, run_lines, top_k}
use Rattle.asked_lists.specs.Asked.{AnswerAlike, words_named}
use Rattle.jass_top.specs.Answers.{OnceQuery, once_plan, once_prefix, once_query}
use Rattle.jass_top.specs.IndexJudging.{fitting}
use Rattle.jass_top.specs.Judging.{Accepted, Missing, Refuses, Shows}
use Rattle.jass_top.specs.Meanings.{Output}
use Rattle.jass_top.specs.OnceMeaning.{IsOnceOutput}
use Rattle.jass_top.specs.Private.Causes.{Came, Runs, UnreadFile, UnreadFeed}
use Rattle.jass_top.specs.Private.HeldIndexes.{asking_meaning}
use Rattle.jass_top.specs.SearchMeaning.{IsSearchReport}
use Rattle.jass_top.specs.Worlds.{Outer}
use Rattle.jass_top.specs.declared.stop.Place.{Place}
use Rattle.jass_top.specs.declared.stop.Stop.{Stop}
use Rattle.jass_top.specs.declared.stop.Stop.TheVariants as stops
use Rattle.jass_top.proofs.JudgedFiles.{fits}

module _ (input : List ℕ) (query : OnceQuery) (one other : IndexData) (one_fits : length (index_text one) ≤ 2 ^ 32) (other_fits : length (index_text other) ≤ 2 ^ 32) (alike : AnswerAlike query.words one other) where
  abbrev granted : ℕ
  granted = granted_sum (query.budget ∷ [])

  report_is : (report : Report) → IsSearchReport one (once_query one query) query.k (once_prefix one query) report → IsSearchReport other (once_query other query) query.k (once_prefix other query) report
  report_is report is = record {
    exact = subst (λ (plan : QueryPlan). IsReport (prefix_within granted plan.segments) plan query.k report) alike.plan is.exact;
    promised = subst (λ (plan : QueryPlan). IsPromised (weighted_postings (numbered_flat other) (words_named other query.words)) (prefix_within granted plan.segments) plan query.k report) alike.plan
        (subst (λ (postings : List WeightedPosting). IsPromised postings (once_prefix one query) (once_plan one query) query.k report) alike.postings is.promised);
  }

  output_is : (output : Output) → IsOnceOutput query one output → IsOnceOutput query other output
  output_is output is = record {
    report = is.report;
    answer = report_is is.report is.answer;
    whole = is.whole ∙ (λ i. record {
      content = [];
      text = report_line (codes "q") is.report (alike.unknown i) ++ run_lines (alike.names i) (codes "q") (codes "jass") 1 (top_k (prefix_within granted (alike.plan i).segments) (alike.plan i) query.k);
      steps = size_of_first (prefix_within granted (alike.plan i).segments) (alike.plan i).segments;
    });
  }

  is_one : (inputs : IndexData) → Shows (fitting input one) (Accepted inputs) → inputs ≡ one
  is_one inputs (inl untold) = let both = sym (fits input one one_fits) ∙ untold in cc
  is_one inputs (inr same) = let both : Accepted one ≡ Accepted inputs = sym (fits input one one_fits) ∙ same in cc

  exact : (inputs : IndexData) (output : Output) → Shows (fitting input one) (Accepted inputs) → IsOnceOutput query inputs output → IsOnceOutput query other output
  exact inputs output accepted is = output_is output (subst (λ (index : IndexData). IsOnceOutput query index output) (is_one inputs accepted) is)

  never_refused : (name : List ℕ) (number : ℕ) (at : Place) → ¬ Shows (fitting input one) (Refuses name number at)
  never_refused name number at (inl untold) = let both = sym (fits input one one_fits) ∙ untold in cc
  never_refused name number at (inr is) = let both = sym (fits input one one_fits) ∙ is in cc

  never_missing : (name : List ℕ) → fitting input one ≢ Missing name
  never_missing name is = let both = sym (fits input one one_fits) ∙ is in cc

  module _ (before after : Outer) where
    unread : (name : List ℕ) → UnreadFile (asking_meaning input one query) before after name ⊎ UnreadFeed (asking_meaning input one query) before after name
        → UnreadFile (asking_meaning input other query) before after name ⊎ UnreadFeed (asking_meaning input other query) before after name
    unread name (inr feed) = let bad : false ≡ true = feed.feeds in cc
    unread name (inl is) = inl (record {
      input = is.input;
      cause = elim is.cause [ inl rose ↦ inl rose | inr missing ↦ absurd (never_missing name missing) ];
      stands = elim is.stands [ inl kept ↦ inl kept | inr over ↦ absurd over.stands ];
    })

    came : (result : Result (Unit {0}) Stop) → Came (asking_meaning input one query) before after result → Came (asking_meaning input other query) before after result
    came (Ok done) is = record {
      inputs = other;
      input = is.input;
      output = is.output;
      accepted = inr (fits input other other_fits);
      had = λ feeds. (let bad : false ≡ true = feeds in cc);
      exact = exact is.inputs is.output is.accepted is.exact;
      left = is.left;
    }
    came (Err stops.NoMemory) is = elim is [ inl kept ↦ inl kept | inr over ↦ absurd over.stands ]
    came (Err (stops.Refused name number at)) is = absurd (never_refused name.now number at is.1)
    came (Err (stops.ReadFault name)) is = unread name.now is
    came (Err (stops.WriteFault name)) is = (
      is.0,
      record {
        inputs = other;
        accepted = inr (fits input other other_fits);
        stands = record { output = is.1.stands.output; exact = exact is.1.inputs is.1.stands.output is.1.accepted is.1.stands.exact; stands = is.1.stands.stands };
      },
    )
    came (Err stops.InputLimit) is = absurd is.stands

    pub asked_runs : (result : Result (Unit {0}) Stop) → Runs (asking_meaning input one query) before after result → Runs (asking_meaning input other query) before after result
    asked_runs result is = record {
      came = came result is.came;
      untouched = record { no_files = is.untouched.no_files; no_output = is.untouched.no_output; no_feed = is.untouched.no_feed; rest = is.untouched.rest };
      taken = is.taken;
    }
