use Rattle.std.proofs.Common.{◌≡◌, ◌<◌, ◌/◌, length, ap, arith}
use Rattle.sharp_bounds.specs.Masks.{MasksView}
use Rattle.sharp_bounds.specs.Private.MaskRows.{masks_of}
use Rattle.sharp_bounds.proofs.MaskRows.{masks_many, read_row, read_none}
use Rattle.sharp_bounds.proofs.masks.Masks.mask.Goals as goal
use Rattle.sharp_bounds.proofs.masks.Masks.mask.Goals.{After-self}

-- what the tables show, and that they have the document's page
shown : (c : After-self) → masks_of c.self.inside.docs c.self.inside.table.items c.self.inside.rows.items ≡ c.args.self.now.masks
shown c = ap (λ (v : MasksView). v.masks) c.self.view_is

page_there : (c : After-self) → c.args.doc / 256 < length c.self.inside.table.items
page_there c = omega (
  arith,
  c.requires,
  c.self.invariant.covers,
  masks_many c.self.inside.docs c.self.inside.table.items c.self.inside.rows.items c.args.self.now.masks (shown c),
)

pub index-requires : goal.index-requires
index-requires c = omega (arith, c.self.inside.table.ok.0, page_there c)

pub returns-then-row-len : goal.returns-then-row-len
returns-then-row-len c =
    let at = goal.at.returns-then-row-len c in
    read_row c.self.inside.docs c.self.inside.table.items c.self.inside.rows.items c.args.self.now.masks c.args.doc c.index.result.now c.index-then-row-len.result.now (shown at.After-self) c.requires (page_there at.After-self) c.index.ensures
    (omega (arith, c.self.inside.rows.ok.0, c.len.ensures, c.if-row-len.true)) c.index-then-row-len.ensures

pub returns-else-row-len : goal.returns-else-row-len
returns-else-row-len c =
    let at = goal.at.returns-else-row-len c in
    read_none c.self.inside.docs c.self.inside.table.items c.self.inside.rows.items c.args.self.now.masks c.args.doc c.index.result.now (shown at.After-self) c.requires (page_there at.After-self) c.index.ensures
    (omega (arith, c.self.inside.rows.ok.0, c.len.ensures, c.if-row-len.false))
