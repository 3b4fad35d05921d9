use Rattle.std.proofs.Common.{List, ℕ, ◌++◌, ap, sym, ◌∙◌, arith}
use Rattle.jass_base.proofs.GapBytes.{five_groups}
use Rattle.jass_base.proofs.gap.put_five.Goals as goal

pub returns-clause-ok : goal.returns-clause-ok
returns-clause-ok c = c.in_ok-extend.ensures.ok ∙ ap (λ (bytes : List ℕ). c.args.out.now ++ bytes) (sym (five_groups c.args.gap c.requires (omega (arith, c.ranges.gap))))
