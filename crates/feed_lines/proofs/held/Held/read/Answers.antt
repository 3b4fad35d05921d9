use Rattle.shared_lemmas.proofs.Common.{arith, sym, ◌∙◌, ◌≡◌, ◌-◌, ◌+◌, ◌<◌, ap, length, drop, subst, List, ℕ, slice_range, with_items_is, length-drop, length-take, length-take-le}
use borrow.Rule.Slice.PartMut.{put_mid, same_len_mid}
use Rattle.feed_lines.specs.Private.Reads.{ReadsSome}
use Rattle.feed_lines.proofs.Holding.{read_behind}
use Rattle.feed_lines.proofs.held.Held.read.Goals as goal

pub returns-in-Ok-clause-reads : goal.returns-in-Ok-clause-reads
returns-in-Ok-clause-reads g c =
    let len = c.self.inside.to - c.self.inside.from in
    let k = len + c.at_most-count.result - len in
    let before = g.I.Feed.left c.args.input.now in
    let after = g.I.Feed.left c.read.new.self in
    let whole : length c.deref_mut.result.now ≡ c.copy_within.new.self.len = ap length c.deref_mut.ensures.value ∙ sym c.copy_within.new.self.ok.0 in
    let held : length c.args.self.now ≡ len = ap length (sym c.self.view_is) ∙ length-take-le len (drop c.self.inside.from c.self.inside.bytes.items) (omega (arith, c.self.invariant.0, c.self.invariant.1, c.self.invariant.2, length-drop c.self.inside.from c.self.inside.bytes.items)) in
    let room : 0 < length c.read.new.buf = omega (
      arith,
      c.read.auto.buf,
      length-take k (drop len c.deref_mut.result.now),
      length-drop len
          c.deref_mut.result.now,
      whole,
      held,
      c.requires.room,
      c.requires.some,
      c.at_most-count.ensures,
      c.copy_within.ensures.len,
      c.self.inside.bytes.ok.0,
      c.self.invariant.2,
    ) in
    let part = put_mid len k c.deref_mut.result.now c.read.new.buf in
    let size : length part ≡ c.copy_within.new.self.len = same_len_mid len k c.deref_mut.result.now c.read.new.buf c.read.auto.buf ∙ whole in
    subst (λ (items : List ℕ). ReadsSome before after c.args.self.now (slice_range items 0 (len + c.in-Ok.read)) c.in-Ok.read)
    (sym (with_items_is c.copy_within.new.self part size))
    (read_behind before after c.self.inside.bytes.items c.deref_mut.result.now c.args.self.now c.read.new.buf
    c.self.inside.from c.self.inside.to k c.in-Ok.read c.self.invariant.0 (omega (arith, c.self.invariant.1, c.self.invariant.2)) (sym c.self.view_is)
    (c.deref_mut.ensures.value ∙ c.copy_within.ensures.items) room c.in-Ok.ensures.bound.0 c.in-Ok.ensures.bytes.0 c.in-Ok.ensures.bytes.1)
