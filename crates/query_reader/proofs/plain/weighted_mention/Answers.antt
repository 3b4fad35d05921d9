-- What stands behind the last `^` is a factor or none.
use Rattle.shared_lemmas.proofs.Common.{◌∙◌, sym, ap, rules, option_map}
use Rattle.query_reader.specs.Private.Slices.{mention_data}
use Rattle.query_reader.proofs.Carets.{unweighted-whole, unweighted-front, unweighted-behind, weighted-behind}
use Rattle.query_reader.proofs.plain.weighted_mention.Goals as goal

pub returns-in_err-caret : goal.returns-in_err-caret
returns-in_err-caret c = ap (option_map mention_data) c.from_residual.ensures ∙ sym (unweighted-whole c.args.run.now c.memrchr.result c.memrchr.ensures c.in_err-caret.was)

pub returns-then-caret-eq0 : goal.returns-then-caret-eq0
returns-then-caret-eq0 c = sym (unweighted-front c.args.run.now c.memrchr.result c.in_ok-caret.caret c.memrchr.ensures c.in_ok-caret.was c.if-caret-eq0.true)

pub returns-in_err-factor : goal.returns-in_err-factor
returns-in_err-factor c = ap (option_map mention_data) c.from_residual-in_err-factor.ensures
    ∙ sym (unweighted-behind c.args.run.now c.memrchr.result c.in_ok-caret.caret c.memrchr.ensures c.in_ok-caret.was (sym c.read_factor.ensures ∙ c.in_err-factor.was))

pub returns : goal.returns
returns c =
    sym (weighted-behind c.args.run.now c.memrchr.result c.in_ok-caret.caret c.in_ok-factor.factor c.memrchr.ensures c.in_ok-caret.was (search rules) (sym c.read_factor.ensures ∙ c.in_ok-factor.was))
