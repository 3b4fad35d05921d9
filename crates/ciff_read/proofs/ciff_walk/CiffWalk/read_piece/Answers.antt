use Rattle.std.proofs.Common.{◌≡◌, ◌∙◌, Option, Some, ap, sym, option_map}
use Rattle.ciff_read.proofs.Below.{header_data, Files}
use Rattle.ciff_read.specs.Walk.{WalkView}
use Rattle.ciff_read.proofs.Advancing.{told_start}
use Rattle.ciff_read.proofs.ciff_walk.CiffWalk.read_piece.Goals as goal

pub returns-in-Some-clause-told : goal.returns-in-Some-clause-told
returns-in-Some-clause-told g c =
    let told : Option Files = g.C.Cabinet.told c.args.files.now in
    let old = c.args.self.now in
    let is = c.self.view_is in
    let had : old.header ≡ Some (header_data c.in-Some.header) = sym (ap (λ (w : WalkView). w.header) is) ∙ ap (option_map header_data) (sym c.take.ensures.value ∙ c.in-Some.is) in
    told_start told old _ c.in-Some.header c.self.inside.lists c.self.inside.docs (ap (λ (w : WalkView). w.lists) is) (ap (λ (w : WalkView). w.docs) is) had (ap (option_map header_data) c.take.ensures.after)
    (ap (λ (w : WalkView). w.lists) is) (ap (λ (w : WalkView). w.docs) is) (ap (λ (w : WalkView). w.at) is) (ap (λ (w : WalkView). w.kept) is) (ap (λ (w : WalkView). w.given) is) (ap (λ (w : WalkView). w.marks) is)
