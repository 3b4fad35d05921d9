-- Each turn counts in the mention of one run.
use Rattle.shared_lemmas.proofs.Common.{◌∙◌, ap, sym, subst, arith, position, bytes_eq}
use Rattle.query_reader.specs.Mentions.{Mention}
use Rattle.query_reader.specs.Texts.{folded_term, folded_mentions}
use Rattle.query_reader.specs.Private.Tally.{all_counted_in}
use Rattle.query_reader.specs.Private.Lines.{LineFails}
use Rattle.query_reader.proofs.Counting.{none-counted, one-counted, one-refused, handed-on, few-more}
use Rattle.query_reader.proofs.folded.count_characters.Goals as goal

pub returns-in_err-count : goal.returns-in_err-count
returns-in_err-count g c =
    let terms = g.X.Lexicon.terms c.args.index.now in let run = c.in-Some.run'.now in
    let m : Mention = record { term = folded_term run; factor = c.factor_behind-factor.result.0 } in
    let rest = folded_mentions c.factor_behind-factor.result.1.now in
    let split = c.in-Some.ensures.same ∙ c.factor_behind-factor.ensures.mention run c.in-Some.ensures.word in
    let bytes = c.as_bytes.ensures.value ∙ c.as_str.ensures.value ∙ c.in-Ok.ensures in
    let found = c.find.ensures.number ∙ ap (λ term. position (λ t. bytes_eq t term) terms) bytes in
    let fails = one-refused terms c.loop-run.tally m rest c.find.result c.in_err-count.field-0.0 found c.in_err-count.ensures in
    handed-on _ _ c.in_err-count.field-0.0 c.from_residual.result c.from_residual.ensures.1
    (subst (LineFails c.in_err-count.field-0.0) (ap (all_counted_in terms c.loop-run.tally) (sym split) ∙ c.loop-run.invariant.counted) fails)

pub loop-run-preserved : goal.loop-run-preserved
loop-run-preserved g c =
    let terms = g.X.Lexicon.terms c.args.index.now in let run = c.in-Some.run'.now in
    let m : Mention = record { term = folded_term run; factor = c.factor_behind-factor.result.0 } in
    let rest = folded_mentions c.factor_behind-factor.result.1.now in
    let split = c.in-Some.ensures.same ∙ c.factor_behind-factor.ensures.mention run c.in-Some.ensures.word in
    let bytes = c.as_bytes.ensures.value ∙ c.as_str.ensures.value ∙ c.in-Ok.ensures in
    let found = c.find.ensures.number ∙ ap (λ term. position (λ t. bytes_eq t term) terms) bytes in
    record {
      counted = sym (one-counted terms c.loop-run.tally c.count.new.self m rest c.find.result found c.in_ok-count.ensures)
          ∙ ap (all_counted_in terms c.loop-run.tally) (sym split) ∙ c.loop-run.invariant.counted;
      room = omega (arith, few-more c.loop-run.tally c.count.new.self c.find.result c.factor_behind-factor.result.0 c.in_ok-count.ensures, c.in-Some.ensures.shorter, c.factor_behind-factor.ensures.within, c.loop-run.invariant.room);
    }

pub returns : goal.returns
returns g c =
    let terms = g.X.Lexicon.terms c.args.index.now in
    sym c.loop-run.invariant.counted ∙ ap (all_counted_in terms c.loop-run.tally) c.in_default.ensures ∙ none-counted terms c.loop-run.tally
