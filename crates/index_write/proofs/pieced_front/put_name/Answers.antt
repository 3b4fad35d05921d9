use Rattle.std.proofs.Common.{◌++◌, ◌∙◌, ap, length}
use Rattle.index_layout.specs.Layout.{name_bytes}
use Rattle.index_write.proofs.Below.{u32_bytes}
use Rattle.index_write.proofs.Sending.{adds_same}
use Rattle.index_write.proofs.pieced_front.put_name.Goals as goal

pub returns : goal.returns
unfolding name_bytes
returns g c =
    adds_same g.C.Cabinet c.args.file.now
    (ap (λ head. head ++ c.as_bytes.result.now) c.to_le_bytes-len.ensures ∙ ap (λ name. u32_bytes (length c.args.name.now) ++ name) c.as_bytes.ensures.value) c.put_text.ensures
