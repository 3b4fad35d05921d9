use Rattle.std.proofs.Common.{◌<◌, ◌≤◌, length, Option, ap, arith}
use Rattle.jass_base.specs.Outside.{Files}
use Rattle.ciff_read.specs.Walk.{WalkView}
use Rattle.ciff_read.proofs.Advancing.{told_list, told_list_not, told_doc, told_doc_not, told_end, told_end_not, over_end}
use Rattle.ciff_read.proofs.ciff_walk.CiffWalk.read_message.Goals as goal

pub returns-in-Ok-clause-told : goal.returns-in-Ok-clause-told
returns-in-Ok-clause-told g c =
    let told : Option Files = g.C.Cabinet.told c.args.files.now in
    let old = c.args.self.now in
    let more : length old.kept < old.lists = omega (arith, c.if-len-from.true, c.len.ensures, c.from.ensures, ap (λ (w : WalkView). length w.kept) c.self.view_is, ap (λ (w : WalkView). w.lists) c.self.view_is) in
    let e = c.in-Ok.ensures in
    told_list told old c.next_list.new.self c.requires more c.self.inside.at c.in-Ok.list (ap (λ (w : WalkView). w.at) c.self.view_is) e.exact e.given.kept e.leaves

pub returns-in-Err-clause-told : goal.returns-in-Err-clause-told
returns-in-Err-clause-told g c =
    let told : Option Files = g.C.Cabinet.told c.args.files.now in
    let old = c.args.self.now in
    let more : length old.kept < old.lists = omega (arith, c.if-len-from.true, c.len.ensures, c.from.ensures, ap (λ (w : WalkView). length w.kept) c.self.view_is, ap (λ (w : WalkView). w.lists) c.self.view_is) in
    told_list_not told old c.next_list.new.self c.requires more c.in-Err.fault c.in-Err.ensures.exact

pub returns-in-Ok-next_doc-clause-told : goal.returns-in-Ok-next_doc-clause-told
returns-in-Ok-next_doc-clause-told g c =
    let told : Option Files = g.C.Cabinet.told c.args.files.now in
    let old = c.args.self.now in
    let past : old.lists ≤ length old.kept = omega (arith, c.if-len-from.false, c.len.ensures, c.from.ensures, ap (λ (w : WalkView). length w.kept) c.self.view_is, ap (λ (w : WalkView). w.lists) c.self.view_is) in
    let more : old.given < old.docs = omega (arith, c.if-self.true, ap (λ (w : WalkView). w.given) c.self.view_is, ap (λ (w : WalkView). w.docs) c.self.view_is) in
    let e = c.in-Ok-next_doc.ensures in
    told_doc told old c.next_doc.new.self c.requires past more c.in-Ok-next_doc.number c.in-Ok-next_doc.item e.exact e.given.marked e.given.given e.leaves

pub returns-in-Err-next_doc-clause-told : goal.returns-in-Err-next_doc-clause-told
returns-in-Err-next_doc-clause-told g c =
    let told : Option Files = g.C.Cabinet.told c.args.files.now in
    let old = c.args.self.now in
    let past : old.lists ≤ length old.kept = omega (arith, c.if-len-from.false, c.len.ensures, c.from.ensures, ap (λ (w : WalkView). length w.kept) c.self.view_is, ap (λ (w : WalkView). w.lists) c.self.view_is) in
    let more : old.given < old.docs = omega (arith, c.if-self.true, ap (λ (w : WalkView). w.given) c.self.view_is, ap (λ (w : WalkView). w.docs) c.self.view_is) in
    told_doc_not told old c.next_doc.new.self c.requires past more c.in-Err-next_doc.fault c.in-Err-next_doc.ensures.exact

pub returns-in-Ok-at_last-clause-told : goal.returns-in-Ok-at_last-clause-told
returns-in-Ok-at_last-clause-told g c =
    let told : Option Files = g.C.Cabinet.told c.args.files.now in
    let old = c.args.self.now in
    let past : old.lists ≤ length old.kept = omega (arith, c.if-len-from.false, c.len.ensures, c.from.ensures, ap (λ (w : WalkView). length w.kept) c.self.view_is, ap (λ (w : WalkView). w.lists) c.self.view_is) in
    let all : old.docs ≤ old.given = omega (arith, c.if-self.false, ap (λ (w : WalkView). w.given) c.self.view_is, ap (λ (w : WalkView). w.docs) c.self.view_is) in
    let e = c.in-Ok-at_last.ensures in
    told_end told old c.at_last.new.self c.requires past all c.in-Ok-at_last.field-0 e.exact e.leaves e.place

pub returns-in-Err-at_last-clause-told : goal.returns-in-Err-at_last-clause-told
returns-in-Err-at_last-clause-told g c =
    let told : Option Files = g.C.Cabinet.told c.args.files.now in
    let old = c.args.self.now in
    let past : old.lists ≤ length old.kept = omega (arith, c.if-len-from.false, c.len.ensures, c.from.ensures, ap (λ (w : WalkView). length w.kept) c.self.view_is, ap (λ (w : WalkView). w.lists) c.self.view_is) in
    let all : old.docs ≤ old.given = omega (arith, c.if-self.false, ap (λ (w : WalkView). w.given) c.self.view_is, ap (λ (w : WalkView). w.docs) c.self.view_is) in
    told_end_not told old c.at_last.new.self c.requires past all c.in-Err-at_last.fault c.in-Err-at_last.ensures.exact

pub returns-in-Ok-at_last-clause-over : goal.returns-in-Ok-at_last-clause-over
returns-in-Ok-at_last-clause-over g c =
    let e = c.in-Ok-at_last.ensures in
    over_end (g.C.Cabinet.told c.args.files.now) c.args.self.now c.at_last.new.self e.held c.in-Ok-at_last.field-0 e.place.at e.exact
