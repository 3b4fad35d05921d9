use Rattle.std.proofs.Common.{◌≡◌, ◌+◌, ℕ, List, Option, subst, ◌∙◌, ◌++◌, take, inl, inr, refl, arith}
use Rattle.jass_base.specs.Outside.{AreBytesAt, Files, OnContent}
use Rattle.jass_base.proofs.Contents.{on_for}
use Rattle.whole_files.specs.Windows.{AreFrom}
use Rattle.whole_files.proofs.Told.{for_all, for_both, on_there}
use Rattle.whole_files.specs.Windows.{Shows}
use Rattle.whole_files.proofs.Windows.{all_from, kept_front, more_from, read_behind}
use Rattle.whole_files.proofs.window.Window.fill.Goals as goal

pub pieces-init : goal.pieces-init
pieces-init g c = record {
  same = refl;
  later = omega arith;
  others = omega arith;
  start = refl;
  there = inl refl;
  kept = all_from 0 c.args.self.now.bytes.items;
  shown = for_all _ _ _ (λ content shows. shows);
}

pub pieces-preserved : goal.pieces-preserved
pieces-preserved g c =
    let told : Option Files = g.C.Cabinet.told c.args.files.now in
    let bytes : List ℕ = c.pieces.self.bytes.items in
    let start : ℕ = c.pieces.self.start in
    let at : ℕ = start + c.len-held.result in
    let piece : List ℕ = c.read_at.new.buf in
    let grown : List ℕ = c.truncate-in-pieces.new.self.items in
    let read : OnContent told c.args.name.now (λ content. AreBytesAt content at c.in-Ok-read_at.read piece)
    = subst (λ (files : Option Files). OnContent files c.args.name.now (λ content. AreBytesAt content at c.in-Ok-read_at.read piece)) c.pieces.invariant.same c.in-Ok-read_at.ensures.bytes in
    let is : grown ≡ bytes ++ take c.in-Ok-read_at.read piece
    = c.truncate-in-pieces.ensures.items ∙ read_behind bytes _ c.deref_mut.result.now piece _ _ c.len-held.result c.resize.new.self.len (c.len-held.result + 65536) c.in-Ok-read_at.read
    (omega (arith, c.len-held.ensures, c.pieces.self.bytes.ok.0)) (c.deref_mut.ensures.value ∙ c.in-Ok.ensures.items) (omega arith) (omega (arith, c.in-Ok-read_at.ensures.bound)) (omega (arith, c.in-Ok.ensures.len, c.in-Ok-read_at.ensures.bound)) in
    record {
      same = c.in-Ok-read_at.ensures.stays ∙ c.pieces.invariant.same;
      later = omega (arith, c.in-Ok-read_at.ensures.cause.later, c.pieces.invariant.later);
      others = omega (arith, c.in-Ok-read_at.ensures.others, c.pieces.invariant.others);
      start = c.pieces.invariant.start;
      there = inr (on_there told c.args.name.now (λ content. AreBytesAt content at c.in-Ok-read_at.read piece) read);
      kept = kept_front bytes c.args.self.now.bytes.items grown (take c.in-Ok-read_at.read piece) is c.pieces.invariant.kept;
      shown = for_both told c.args.name.now (λ content. Shows content c.args.self.now → AreFrom content start bytes) (λ content. AreBytesAt content at c.in-Ok-read_at.read piece) (λ content. Shows content c.args.self.now → AreFrom content start grown)
          (λ content before here shows. more_from content bytes piece grown start at c.in-Ok-read_at.read (omega (arith, c.len-held.ensures, c.pieces.self.bytes.ok.0)) is (before shows) here)
          c.pieces.invariant.shown (on_for told c.args.name.now (λ content. AreBytesAt content at c.in-Ok-read_at.read piece) read);
    }
