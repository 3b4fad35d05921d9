use Rattle.std.proofs.Common.{◌/◌, ◌%◌, ◌*◌, ◌^◌, get_or, set, bit_or, vec_capacity, subst, sym, ap, arith}
use Rattle.std.proofs.lemmas.Nat.{one_shl}
use Rattle.sharp_bounds.specs.Masks.{MasksView, HasMaskFrame}
use Rattle.sharp_bounds.proofs.MaskRows.{Marked, masks_many, has_room, mark_written}
use Rattle.sharp_bounds.proofs.masks.Masks.mark.Goals as goal
use Rattle.sharp_bounds.proofs.masks.Masks.mark.Goals.{After-self-1}

pub row_of-row-requires-clause-inside : goal.row_of-row-requires-clause-inside
row_of-row-requires-clause-inside c = omega (
  arith,
  c.requires.inside,
  c.self.invariant.covers,
  masks_many c.self.inside.docs c.self.inside.table.items c.self.inside.rows.items c.args.self.now.masks (ap (λ (v : MasksView). v.masks) c.self.view_is),
)

pub row_of-row-requires-clause-room : goal.row_of-row-requires-clause-room
row_of-row-requires-clause-room c =
    has_room c.self.inside.docs (vec_capacity c.self.inside.rows) c.self.inside.table.items c.self.inside.rows.items c.self.invariant (c.args.doc / 256) (omega (
      arith,
      c.requires.inside,
      c.self.invariant.covers,
      masks_many c.self.inside.docs c.self.inside.table.items c.self.inside.rows.items c.args.self.now.masks (ap (λ (v : MasksView). v.masks) c.self.view_is),
    )) (subst (λ (v : MasksView). HasMaskFrame v (c.args.doc / 256)) (sym c.self.view_is) c.requires.frame)

-- the tables with the bit written
written : (c : After-self-1) → Marked c.self.inside.docs (vec_capacity c.row_of-row.new.rows) c.row_of-row.new.table.items
    (set c.row_of-row.new.rows.items c.row_of-row.result (set c.index_mut.result.now (c.args.doc % 256) (bit_or (get_or c.index_mut.result.now (c.args.doc % 256) 0) (1 * 2 ^ c.args.place % 18446744073709551616)))) c.args.self.now.masks c.args.doc c.args.place
written c = mark_written c.self.inside.docs (vec_capacity c.self.inside.rows) (vec_capacity c.row_of-row.new.rows) c.self.inside.table.items c.row_of-row.new.table.items c.self.inside.rows.items c.row_of-row.new.rows.items c.args.self.now.masks
    c.args.doc c.args.place c.row_of-row.result (bit_or (get_or c.index_mut.result.now (c.args.doc % 256) 0) (1 * 2 ^ c.args.place % 18446744073709551616)) c.index_mut.result.now
    (ap (λ (v : MasksView). v.masks) c.self.view_is) c.requires.inside c.self.invariant c.row_of-row.ensures.rows c.row_of-row.ensures.table c.row_of-row.ensures.row c.row_of-row.ensures.within c.row_of-row.ensures.masks c.row_of-row.ensures.others
    c.index_mut.ensures.value (ap (bit_or (get_or c.index_mut.result.now (c.args.doc % 256) 0)) (one_shl c.args.place 64 c.requires.place))

pub invariant_of-self : goal.invariant_of-self
invariant_of-self c = (written c).kept

pub returns-clause-masks : goal.returns-clause-masks
returns-clause-masks c = (written c).masks_are
