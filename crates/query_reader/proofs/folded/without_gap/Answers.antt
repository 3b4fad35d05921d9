-- A text from its first letter or digit on has the same mentions.
use Rattle.shared_lemmas.proofs.Common.{length, rules, tests, YieldsList-from_slice, position_from_yields_List}
use Rattle.query_reader.specs.Texts.{is_word}
use Rattle.query_reader.proofs.Limits.{place_of-some, place_of-none}
use Rattle.query_reader.proofs.WordRuns.{gap-from, gap-whole}
use Rattle.query_reader.proofs.folded.without_gap.Goals as goal

pub returns-in-Some-clause-mentions : goal.returns-in-Some-clause-mentions
returns-in-Some-clause-mentions c =
    let text = c.args.text.now in
    let found = position_from_yields_List is_word _ _ c.position.result c.position.ensures.ran (YieldsList-from_slice text cc) (λ x b q k. search (rules, tests)) in
    gap-from text c.in-Some.start (place_of-some _ (length text) c.in-Some.start c.position.result found c.in-Some.is).1

pub returns-in-None-clause-mentions : goal.returns-in-None-clause-mentions
returns-in-None-clause-mentions c =
    let text = c.args.text.now in
    let found = position_from_yields_List is_word _ _ c.position.result c.position.ensures.ran (YieldsList-from_slice text cc) (λ x b q k. search (rules, tests)) in
    gap-whole text (place_of-none _ (length text) c.position.result found c.in-None.is)
