use Rattle.std.proofs.Common.{◌++◌, ◌∙◌, ap, length}
use Rattle.std.proofs.lemmas.Result.{on_ok_weaker}
use Rattle.index_layout.specs.Layout.{name_bytes}
use Rattle.index_write.proofs.Below.{u32_bytes}
use Rattle.index_write.proofs.Joining.{both_put}
use Rattle.index_write.proofs.front.put_name.Goals as goal

pub returns : goal.returns
unfolding name_bytes
returns c =
    on_ok_weaker c.extend-2.result (λ last.
    both_put c.args.out.now c.to_le_bytes.result c.as_bytes.result.now c.extend.new.self c.extend-2.new.self c.in_ok-extend.ensures.ok last
    ∙ ap (λ xs. c.args.out.now ++ xs) (ap (λ head. head ++ c.as_bytes.result.now) c.to_le_bytes.ensures ∙ ap (λ name. u32_bytes (length c.args.name.now) ++ name) c.as_bytes.ensures.value))
    c.extend-2.ensures.ok
