-- Behind one `^` stands a factor or none.
use Rattle.std.proofs.Common.{◌∙◌, sym, arith}
use Rattle.query_reader.proofs.WordRuns.{without-caret, no-caret-first, with-factor, without-factor, caret-text, shorter-behind}
use Rattle.query_reader.proofs.folded.factor_behind.Goals as goal

pub returns-in_default : goal.returns-in_default
returns-in_default c = record { mention = without-caret c.args.text.now c.requires (no-caret-first c.args.text.now c.in_default.ensures.none); within = omega arith }

pub returns-in-Some-read_factor : goal.returns-in-Some-read_factor
returns-in-Some-read_factor c =
    let text = c.args.text.now in let digits = c.split_run.result.0.now in let rest = c.split_run.result.1.now in
    let is = caret-text text c.in-Some.behind.now digits rest c.in-Some.ensures.some c.split_run.ensures.parts in
    record {
      mention = with-factor text digits rest c.in-Some-read_factor.factor is c.requires c.split_run.ensures.words c.split_run.ensures.ends (sym c.read_factor.ensures ∙ c.in-Some-read_factor.is);
      within = shorter-behind text digits rest is;
    }

pub returns-in-None : goal.returns-in-None
returns-in-None c =
    let text = c.args.text.now in let digits = c.split_run.result.0.now in let rest = c.split_run.result.1.now in
    let is = caret-text text c.in-Some.behind.now digits rest c.in-Some.ensures.some c.split_run.ensures.parts in
    record {
      mention = without-factor text digits rest is c.requires c.split_run.ensures.words c.split_run.ensures.ends (sym c.read_factor.ensures ∙ c.in-None.is);
      within = omega arith;
    }
