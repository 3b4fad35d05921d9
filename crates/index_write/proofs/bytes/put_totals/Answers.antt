use Rattle.std.proofs.Common.{ap, ◌++◌, ◌∙◌}
use Rattle.std.proofs.lemmas.Result.{on_ok_weaker}
use Rattle.index_model.specs.Views.{index_data}
use Rattle.index_write.proofs.Joining.{totals_are}
use Rattle.index_write.proofs.bytes.put_totals.Goals as goal

pub returns : goal.returns
returns c =
    let index = index_data c.args.index.now in
    on_ok_weaker c.put_numbers.result (λ put.
    put ∙ ap (λ xs. c.args.out.now ++ xs) (totals_are index c.args.len c.totals.result (c.requires ∙ c.texts_have_their_parts.ensures.length index) c.totals.ensures))
    c.put_numbers.ensures
