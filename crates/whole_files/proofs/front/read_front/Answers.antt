use Rattle.std.proofs.Common.{◌≡◌, ◌≤◌, length, take, Option, subst, ◌∙◌, arith}
use Rattle.jass_base.specs.Outside.{Files, OnContent, AreBytesAt}
use Rattle.whole_files.specs.Private.Fronts.{IsFrontOf}
use Rattle.whole_files.proofs.Fronts.{there, front_more, front_whole, front_cut}
use Rattle.jass_base.proofs.Contents.{on_for}
use Rattle.whole_files.proofs.front.read_front.Goals as goal

pub returns-then-len-most-clause-content : goal.returns-then-len-most-clause-content
returns-then-len-most-clause-content g c =
    let many : c.args.most ≤ length c.pieces.row = omega arith in
    there (g.C.Cabinet.told c.args.files.now) c.args.name.now (IsFrontOf c.pieces.row) (λ content. Unit {0}) (λ content. c.truncate.new.self ≡ take c.args.most content)
    (λ content front here. front_cut c.pieces.row c.truncate.new.self content c.args.most c.truncate.ensures many front)
    c.pieces.invariant.front (c.pieces.invariant.there (omega arith))

pub returns-then-count-eq0-clause-content : goal.returns-then-count-eq0-clause-content
returns-then-count-eq0-clause-content g c =
    let told : Option Files = g.C.Cabinet.told c.args.files.now in
    let read : OnContent told c.args.name.now (λ content. AreBytesAt content c.len-at.result c.in-Ok.count c.read_at.new.buf)
    = subst (λ (files : Option Files). OnContent files c.args.name.now (λ content. AreBytesAt content c.len-at.result c.in-Ok.count c.read_at.new.buf)) c.pieces.invariant.same c.in-Ok.ensures.bytes in
    there told c.args.name.now (IsFrontOf c.pieces.row) (λ content. AreBytesAt content c.len-at.result c.in-Ok.count c.read_at.new.buf) (λ content. c.pieces.row ≡ take c.args.most content)
    (λ content front bytes. front_whole c.pieces.row c.read_at.new.buf content c.len-at.result c.in-Ok.count c.args.most c.len-at.ensures c.if-count-eq0.true (omega (arith, c.read_at.auto.buf)) (omega arith) front bytes)
    c.pieces.invariant.front read

pub pieces-preserved : goal.pieces-preserved
pieces-preserved g c =
    let told : Option Files = g.C.Cabinet.told c.args.files.now in
    let read : OnContent told c.args.name.now (λ content. AreBytesAt content c.len-at.result c.in-Ok.count c.read_at.new.buf)
    = subst (λ (files : Option Files). OnContent files c.args.name.now (λ content. AreBytesAt content c.len-at.result c.in-Ok.count c.read_at.new.buf)) c.pieces.invariant.same c.in-Ok.ensures.bytes in
    let longer : OnContent told c.args.name.now (IsFrontOf c.extend.new.self)
    = there told c.args.name.now (IsFrontOf c.pieces.row) (λ content. AreBytesAt content c.len-at.result c.in-Ok.count c.read_at.new.buf) (IsFrontOf c.extend.new.self)
    (λ content front bytes. front_more c.pieces.row c.read_at.new.buf c.extend.new.self content c.len-at.result c.in-Ok.count c.len-at.ensures c.in-Ok-extend.ensures.ok front bytes)
    c.pieces.invariant.front read in
    record {
      same = c.in-Ok.ensures.stays ∙ c.pieces.invariant.same;
      later = omega (arith, c.in-Ok.ensures.cause.later, c.pieces.invariant.later);
      others = omega (arith, c.in-Ok.ensures.others, c.pieces.invariant.others);
      front = on_for told c.args.name.now (IsFrontOf c.extend.new.self) longer;
      there = λ some. there told c.args.name.now (IsFrontOf c.extend.new.self) (IsFrontOf c.extend.new.self) (λ content. Unit {0}) (λ content a b. tt) (on_for told c.args.name.now (IsFrontOf c.extend.new.self) longer) longer;
    }
