use Rattle.std.proofs.Common.{◌+◌, ◌-◌, ◌<◌, ap, refl, arith, length, take}
use Rattle.ciff_read.proofs.Below.{Posting}
use Rattle.ciff_read.specs.Private.Places.{gathered_of}
use Rattle.ciff_read.proofs.Runs.{Passes, next_in_hand}
use Rattle.ciff_read.proofs.gathered.Gathered.take_run.Goals as goal

pub run-preserved : goal.run-preserved
run-preserved c =
    let old = c.args.self.now in
    let v = c.run.invariant in
    let last = c.run.last in
    let ps = c.run.postings.items in
    let entry = c.in-Some.entry in
    let p : Posting = record { doc = last + entry.docid; tf = entry.tf } in
    let below : p.doc < old.docs = omega (arith, c.if-doc-docs.false, c.from-docs.ensures) in
    let few : length ps < c.min-room.result = omega (arith, c.run-test.true, v.left) in
    let passes : Passes old.docs old.before last ps entry p = record {
      usual = c.in-Some.ensures.usual;
      doc = refl;
      tf = refl;
      below = below;
      room = omega (arith, few, c.min-room.ensures);
    } in
    record {
      hand = next_in_hand (take c.args.end c.args.bytes.now) c.args.from c.run.at c.in-Some.next old.docs old.before last (gathered_of old) ps c.push_reserved.new.self.items entry p v.hand passes c.in-Some.ensures.posting c.push_reserved.ensures.items;
      room = omega (arith, c.push_reserved.ensures.capacity, v.room);
      left = omega (arith, v.left, c.in-Some.ensures.long, few, ap length c.push_reserved.ensures.items);
      small = omega (arith, below, v.hand.kept.few_docs);
    }
