use Rattle.shared_lemmas.proofs.Common.{◌∙◌, sym, ap, other_text, same_text, string_bytes}
use Rattle.jass_words.proofs.Loops.{all_apart, none_apart}
use Rattle.jass_words.proofs.slots.is_new.Goals as goal

pub returns-then-eq : goal.returns-then-eq
returns-then-eq c = (
  (λ is. cc),
  (λ all. absurd (none_apart string_bytes c.args.before.now c.loop-other.other-index c.other-item.result c.args.word.now c.loop-other-test.true (ap string_bytes (sym c.other-item.is) ∙ sym c.as_str.ensures.value ∙ same_text _ _ (sym c.if-eq.true ∙ c.eq.ensures)) all)),
)

pub loop-other-preserved : goal.loop-other-preserved
loop-other-preserved c =
    all_apart string_bytes c.args.before.now c.loop-other.other-index c.other-item.result c.args.word.now c.loop-other-test.true c.loop-other.invariant
    (λ is. other_text _ _ (sym c.if-eq.false ∙ c.eq.ensures) (c.as_str.ensures.value ∙ ap string_bytes c.other-item.is ∙ is))
