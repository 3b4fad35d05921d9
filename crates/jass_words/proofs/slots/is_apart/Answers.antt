use Rattle.shared_lemmas.proofs.Common.{◌∙◌, sym, other_text, same_text}
use Rattle.jass_words.proofs.Loops.{all_apart, none_apart}
use Rattle.jass_words.proofs.slots.is_apart.Goals as goal

pub returns-then-eq : goal.returns-then-eq
returns-then-eq c = (
  (λ is. cc),
  (λ all. absurd (none_apart (λ w. w.now) c.args.others.now c.loop-other.other-index _ c.args.word.now c.loop-other-test.true (same_text _ _ (sym c.if-eq.true ∙ c.eq.ensures)) all)),
)

pub loop-other-preserved : goal.loop-other-preserved
loop-other-preserved c =
    all_apart (λ w. w.now) c.args.others.now c.loop-other.other-index _ c.args.word.now c.loop-other-test.true c.loop-other.invariant (other_text _ _ (sym c.if-eq.false ∙ c.eq.ensures))
