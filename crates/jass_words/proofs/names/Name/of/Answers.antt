use Rattle.shared_lemmas.proofs.Common.{◌≢◌, ◌∙◌, sym, other_text}
use Rattle.jass_words.specs.Table.{word_of, all_names}
use Rattle.jass_words.specs.declared.names.Name.TheVariants as names
use Rattle.jass_words.proofs.Loops.{all_taken}
use Rattle.jass_words.proofs.names.Name.of.Goals as goal

pub loop-name-preserved : goal.loop-name-preserved
loop-name-preserved c =
    all_taken (λ name. c.args.word.now ≢ word_of name) all_names c.loop-name.name-index names.Once c.loop-name-test.true c.loop-name.invariant
    (λ is. other_text c.row.result.word.now c.args.word.now (sym c.if-eq.false ∙ c.eq.ensures) (c.row.ensures.word ∙ sym is))
