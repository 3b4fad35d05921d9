use Rattle.std.proofs.Common.{◌∙◌, None, sym}
use Rattle.index_write.specs.Chosen.{head_data}
use Rattle.index_write.proofs.Changes.{head_agrees}
use Rattle.index_write.proofs.change.same_head.Goals as goal

pub returns : goal.returns
returns c =
    head_agrees (head_data c.args.kept.now) (head_data c.args.found.now) None
    (sym c.from.ensures ∙ c.in_ok-same.ensures.ok ∙ c.from-2.ensures) (sym c.from-3.ensures ∙ c.in_ok-same-2.ensures.ok ∙ c.from-4.ensures)
    (sym (c.from-5.ensures ∙ c.number.ensures) ∙ c.in_ok-same-3.ensures.ok ∙ c.from-6.ensures ∙ c.number-2.ensures) (sym c.from-7.ensures ∙ c.in_ok-same-4.ensures.ok ∙ c.from-8.ensures)
