use Rattle.std.proofs.Common.{arith}
use Rattle.sharp_bounds.proofs.MaskRows.{vacant_entry, masks_pushed}
use Rattle.sharp_bounds.proofs.masks.row_of.Goals as goal

pub returns-clause-masks : goal.returns-clause-masks
returns-clause-masks c = λ doc.
    let size = c.args.rows.now.ok.0 in
    masks_pushed c.args.table.now.items c.args.rows.now.items c.push_reserved.new.self.items c.args.page c.len-row.result doc c.push_reserved.ensures.items (omega (arith, size, c.len-row.ensures)) c.requires.inside
    (vacant_entry _ _ _ c.args.page c.index.result.now c.requires.rows c.requires.inside c.index.ensures (omega (arith, size, c.len.ensures, c.if-entry-len.false))) (omega (arith, c.requires.rows.within, c.requires.rows.few))
