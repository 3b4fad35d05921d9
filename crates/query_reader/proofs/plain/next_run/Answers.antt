-- The run ends at the first blank behind it.
use Rattle.std.proofs.Common.{◌∙◌, ◌∷◌, ◌<◌, drop, length, sym, ap, arith, rules}
use Rattle.query_reader.specs.Texts.{blank_runs}
use Rattle.query_reader.proofs.Runs.{first-run, only-run}
use Rattle.query_reader.proofs.plain.next_run.Goals as goal

pub returns-in-Some : goal.returns-in-Some
returns-in-Some c =
    let text = c.without_blanks-text.result.now in
    let found = first-run text c.memchr2.result c.in-Some.end c.memchr2.ensures c.in-Some.is c.without_blanks-text.ensures.begins in (
      sym c.without_blanks-text.ensures.runs ∙ found.0 ∙ ap (λ run. run ∷ blank_runs (drop c.in-Some.end text)) (sym c.split_at.ensures.front) ∙ ap (λ rest. c.split_at.result.0.now ∷ blank_runs rest) (sym c.split_at.ensures.back),
      omega (arith, found.1, ap length c.split_at.ensures.back, c.without_blanks-text.ensures.within),
    )

pub returns-in-None : goal.returns-in-None
returns-in-None c =
    let text = c.without_blanks-text.result.now in
    let some : 0 < length c.without_blanks-text.result.now = search rules in (
      sym c.without_blanks-text.ensures.runs ∙ only-run text c.memchr2.result c.memchr2.ensures c.in-None.is some,
      omega (arith, some, c.without_blanks-text.ensures.within),
    )
