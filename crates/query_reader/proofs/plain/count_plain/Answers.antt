-- Each turn counts in the mention of one run.
use Rattle.std.proofs.Common.{◌∙◌, ◌∷◌, ap, sym, subst, arith}
use Rattle.query_reader.specs.Texts.{plain_mentions}
use Rattle.query_reader.specs.Private.Tally.{all_counted_in}
use Rattle.query_reader.specs.Private.Lines.{LineFails}
use Rattle.query_reader.specs.Private.Slices.{mention_data}
use Rattle.query_reader.proofs.Counting.{none-counted, one-counted, one-refused, handed-on, first-mention, no-mentions, few-more}
use Rattle.query_reader.proofs.plain.count_plain.Goals as goal

pub returns-in_err-count : goal.returns-in_err-count
returns-in_err-count g c =
    let terms = g.X.Lexicon.terms c.args.index.now in let m = mention_data c.mention_in-mention.result in
    let rest = plain_mentions c.in-Some.behind.now in
    let split = first-mention c.loop-run.rest.now c.in-Some.run'.now c.in-Some.behind.now c.in-Some.ensures.0 ∙ ap (λ x. x ∷ rest) (sym c.mention_in-mention.ensures) in
    let fails = one-refused terms c.loop-run.tally m rest c.find.result c.in_err-count.field-0.0 c.find.ensures.number c.in_err-count.ensures in
    handed-on _ _ c.in_err-count.field-0.0 c.from_residual.result c.from_residual.ensures.1
    (subst (LineFails c.in_err-count.field-0.0) (ap (all_counted_in terms c.loop-run.tally) (sym split) ∙ c.loop-run.invariant.counted) fails)

pub loop-run-preserved : goal.loop-run-preserved
loop-run-preserved g c =
    let terms = g.X.Lexicon.terms c.args.index.now in let m = mention_data c.mention_in-mention.result in
    let rest = plain_mentions c.in-Some.behind.now in
    let split = first-mention c.loop-run.rest.now c.in-Some.run'.now c.in-Some.behind.now c.in-Some.ensures.0 ∙ ap (λ x. x ∷ rest) (sym c.mention_in-mention.ensures) in
    record {
      counted = sym (one-counted terms c.loop-run.tally c.count.new.self m rest c.find.result c.find.ensures.number c.in_ok-count.ensures)
          ∙ ap (all_counted_in terms c.loop-run.tally) (sym split) ∙ c.loop-run.invariant.counted;
      room = omega (arith, few-more c.loop-run.tally c.count.new.self c.find.result c.mention_in-mention.result.factor c.in_ok-count.ensures, c.in-Some.ensures.1, c.loop-run.invariant.room);
    }

pub returns : goal.returns
returns g c =
    let terms = g.X.Lexicon.terms c.args.index.now in
    sym c.loop-run.invariant.counted ∙ ap (all_counted_in terms c.loop-run.tally) (no-mentions c.loop-run.rest.now c.in_default.ensures) ∙ none-counted terms c.loop-run.tally
