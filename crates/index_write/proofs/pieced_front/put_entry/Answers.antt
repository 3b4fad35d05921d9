use Rattle.std.proofs.Common.{◌++◌, length, map}
use Rattle.index_write.proofs.Below.{u32_bytes, term_bytes, heads_bytes}
use Rattle.index_write.specs.Chosen.{head_data}
use Rattle.index_write.proofs.Sending.{adds_same, adds_then}
use Rattle.index_write.proofs.pieced_front.put_entry.Goals as goal

pub returns : goal.returns
returns g c =
    let count = u32_bytes (length c.args.heads.now) in
    let heads = heads_bytes (map head_data c.args.heads.now) in
    adds_then g.C.Cabinet c.args.file.now (term_bytes c.args.before.now c.args.term.now) (count ++ heads) c.put_term.ensures
    (adds_then g.C.Cabinet c.args.file.now count heads (adds_same g.C.Cabinet c.args.file.now c.to_le_bytes.ensures c.put.ensures) c.put_heads.ensures)
