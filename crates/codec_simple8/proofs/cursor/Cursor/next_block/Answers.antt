use Rattle.std.proofs.Common.{◌≡◌, ◌-◌, drop, ap, subst, arith}
use Rattle.codec_simple8.specs.Cursor.{Gives}
use Rattle.codec_simple8.proofs.Moves.{moved_both, none_given, given_end, handed_over}
use Rattle.codec_simple8.proofs.cursor.Cursor.next_block.Goals as goal

pub loop-self-init : goal.loop-self-init
loop-self-init c = record { moved = c.put_zeros-filled.ensures.moved c.args.bytes.now; long = c.put_zeros-filled.array_long }

pub put_word-filled-requires-clause-stands : goal.put_word-filled-requires-clause-stands
put_word-filled-requires-clause-stands c = (drop (c.loop-self.filled - 0) c.requires.stands.0, c.loop-self.invariant.moved.rest c.requires.stands.0 c.requires.stands.1)

pub loop-self-preserved : goal.loop-self-preserved
loop-self-preserved c =
    record {
      moved = moved_both c.args.self.now c.loop-self.self c.put_word-filled.new.self c.args.bytes.now c.loop-self.filled c.put_word-filled.result c.args.out.now c.loop-self.out c.put_word-filled.new.out
          c.loop-self.invariant.moved c.put_word-filled.ensures.moved;
      long = c.put_word-filled.array_long;
    }

pub returns-else-filled : goal.returns-else-filled
returns-else-filled c = handed_over _ _ c.args.bytes.now c.loop-self.filled _ _ c.loop-self.invariant.moved (λ docs g. (
  (λ none. absurd (omega (arith, none, c.if-filled.false))),
  (λ none. given_end c.loop-self.filled c.args.out.now c.loop-self.out docs (omega (arith, c.loop-self.invariant.moved.most, c.loop-self.invariant.long)) (c.loop-self.invariant.moved.docs docs g) none),
))

pub returns-after-loop-self : goal.returns-after-loop-self
returns-after-loop-self c = handed_over _ _ c.args.bytes.now c.loop-self.filled _ _ c.loop-self.invariant.moved (λ docs g. (
  (λ none. none_given c.loop-self.self c.args.bytes.now docs (c.loop-self.invariant.moved.zeros (omega (arith, none))) (omega (arith, c.loop-self-test.false))
      (subst (Gives c.loop-self.self c.args.bytes.now) (ap (λ n. drop n docs) (let e : c.loop-self.filled - 0 ≡ 0 = omega (arith, none) in e)) (c.loop-self.invariant.moved.rest docs g))),
  (λ none. given_end c.loop-self.filled c.args.out.now c.loop-self.out docs (omega (arith, c.loop-self.invariant.moved.most, c.loop-self.invariant.long)) (c.loop-self.invariant.moved.docs docs g) none),
))

pub returns-then-self-eq0 : goal.returns-then-self-eq0
returns-then-self-eq0 c = handed_over _ _ c.args.bytes.now 1 _ _ c.put_last.ensures (λ docs g. (
  (λ none. absurd (omega (arith, none))),
  (λ none. given_end 1 c.args.out.now c.put_last.new.out docs (omega (arith, c.put_last.array_long)) (c.put_last.ensures.docs docs g) none),
))
