use Rattle.shared_lemmas.proofs.Common.{[], length, refl, subst, inl, inr, Appends}
use Rattle.jass_top.proofs.Below.{AppendsPrefix, CodecUse, FileView, IndexData, codec_use, queries_from}
use Rattle.index_layout.specs.View.{chosen_codecs}
use Rattle.jass_top.specs.SearchTexts.{queries_steps}
use Rattle.jass_top.specs.TrialMeaning.{queries_over, trial_budgets}
use Rattle.jass_top.specs.declared.trial_sums.TrialSums.{TrialSums}
use Rattle.jass_top.specs.TrialSums.{no_sums, trial_output, trial_text, with_queries}
use Rattle.jass_top.proofs.Stopping.{counted, ran_on_output}
use Rattle.jass_top.proofs.trial.try_file.Goals as goal

abbrev chosen_use : IndexData → CodecUse
chosen_use index = codec_use (chosen_codecs (length index.names) index.terms)

pub returns-in-Err : goal.returns-in-Err
returns-in-Err g c = λ beside.
    let index = c.args.index.now.index in let queries = queries_over index (queries_from c.args.terms c.args.queries c.args.draws.now) in
    ran_on_output refl refl refl refl refl refl refl refl (inr (record {
      inputs = index;
      accepted = inr c.requires.accepted;
      stands = record {
        output = trial_output index (chosen_use index) queries;
        exact = c.a_trial_leaves_its_summary.ensures index queries c.is_searchable.ensures;
        stands = record { told = refl; written = refl; steps = record { never_less = c.in-Err.ensures.steps.0; at_most = c.in-Err.ensures.steps.1 } };
      };
    }))

pub returns-in-Ok-put_summary : goal.returns-in-Ok-put_summary
returns-in-Ok-put_summary g c = λ beside.
    let index = c.args.index.now.index in let queries = queries_over index (queries_from c.args.terms c.args.queries c.args.draws.now) in
    ran_on_output refl refl refl refl refl refl refl c.in-Ok-put_summary.ensures.rest_stays (record {
      inputs = index;
      input = [];
      output = trial_output index (chosen_use index) queries;
      accepted = inr c.requires.accepted;
      had = λ feeds. cc;
      exact = c.a_trial_leaves_its_summary.ensures index queries c.is_searchable.ensures;
      left = record {
        content = refl;
        text = subst (λ (v : FileView). Appends (g.O.Sink.written c.args.out.now) (g.O.Sink.written c.put_summary.new.out) (trial_text index (codec_use v.codecs) (with_queries index queries no_sums))) c.requires.chosen
            (subst (λ (sums : TrialSums). Appends (g.O.Sink.written c.args.out.now) (g.O.Sink.written c.put_summary.new.out) (trial_text index (codec_use c.args.index.now.codecs) sums)) c.in-Ok.ensures.sums c.in-Ok-put_summary.ensures.bytes);
        steps = c.in-Ok.ensures.steps;
      };
    })

pub returns-in-Err-put_summary : goal.returns-in-Err-put_summary
returns-in-Err-put_summary g c = λ beside.
    let index = c.args.index.now.index in let queries = queries_over index (queries_from c.args.terms c.args.queries c.args.draws.now) in
    ran_on_output refl refl refl refl refl refl refl c.in-Err-put_summary.ensures.rest_stays (
      inl (refl, refl, c.in-Err-put_summary.ensures.cause.failed),
      record {
        inputs = index;
        accepted = inr c.requires.accepted;
        stands = record {
          output = trial_output index (chosen_use index) queries;
          exact = c.a_trial_leaves_its_summary.ensures index queries c.is_searchable.ensures;
          stands = record {
            told = refl;
            text = subst (λ (v : FileView). AppendsPrefix (g.O.Sink.written c.args.out.now) (g.O.Sink.written c.put_summary.new.out) (trial_text index (codec_use v.codecs) (with_queries index queries no_sums))) c.requires.chosen
                (subst (λ (sums : TrialSums). AppendsPrefix (g.O.Sink.written c.args.out.now) (g.O.Sink.written c.put_summary.new.out) (trial_text index (codec_use c.args.index.now.codecs) sums)) c.in-Ok.ensures.sums c.in-Err-put_summary.ensures.bytes);
            steps = counted _ _ (queries_steps index trial_budgets queries) c.in-Ok.ensures.steps;
          };
        };
      },
    )
