use Rattle.shared_lemmas.proofs.Common.{◌≡◌, ℕ, ◌+◌, ◌<◌, List, [], ◌∷◌, ◌++◌, take, replicate, length, ap, ◌∙◌, append_assoc, arith, take_more_set}
use Rattle.jass_base.specs.Gaps.{docs_from}
use Rattle.codec_simple8.proofs.Docs.{one_zero}
use Rattle.codec_simple8.proofs.Moves.{moved_zeros, zeros_fit}
use Rattle.codec_simple8.proofs.cursor.Cursor.put_zeros.Goals as goal

pub loop-i-preserved : goal.loop-i-preserved
loop-i-preserved c =
    let place : c.args.filled + (c.loop-i.i + 1) ≡ c.args.filled + c.loop-i.i + 1 = omega arith in
    let room : c.args.filled + c.loop-i.i < length c.loop-i.out = omega (arith, c.loop-i-test.true, c.min-count.ensures, c.told-out, c.requires.room, c.loop-i.auto) in
    rw (place, one_zero c.args.self.now.least c.loop-i.i) (
    take_more_set c.loop-i.out (c.args.filled + c.loop-i.i) (c.args.self.now.least + c.loop-i.i) room
    ∙ ap (λ (front : List ℕ). front ++ (c.args.self.now.least + c.loop-i.i) ∷ []) c.loop-i.invariant
    ∙ append_assoc (take c.args.filled c.args.out.now) (docs_from c.args.self.now.least (replicate c.loop-i.i 0)) ((c.args.self.now.least + c.loop-i.i) ∷ [])
    )

pub overflow_add-self : goal.overflow_add-self
overflow_add-self c =
    let some : 0 < c.args.self.now.zeros = omega (arith, c.if-self-eq0.false) in
    let fits = zeros_fit c.args.self.now c.min-count.result c.requires.stands.0 c.requires.stands.1 some (omega (arith, c.min-count.ensures)) c.requires.stands.2 in
    record { fits = omega (arith, fits) }

pub returns-clause-moved : goal.returns-clause-moved
returns-clause-moved c = λ bytes. moved_zeros c.args.self.now c.min-count.result c.args.filled bytes c.args.out.now c.loop-i.out
    (omega (arith, c.min-count.ensures)) (omega (arith, c.min-count.ensures, c.requires.room)) (λ less. omega (arith, less, c.min-count.ensures, c.requires.room))
    (let all : c.loop-i.i ≡ c.min-count.result = omega (arith, c.loop-i-test.false, c.loop-i.auto.i-end) in rw all at c.loop-i.invariant)
