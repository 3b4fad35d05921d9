use Rattle.std.proofs.Common.{List, ℕ, ◌≡◌, ◌-◌, ◌<◌, ◌++◌, ◌∷◌, [], ◌∙◌, length, take, bit_and, sym, ap, arith}
use Rattle.std.proofs.lemmas.List.{append-nil, append_assoc, length-set, take_more_set}
use Rattle.lane_kernels.specs.Private.Bitmap.{word_bits}
use Rattle.lane_kernels.proofs.SetBits.{word_bits_first, word_bits_nil, length-word_bits, room_for_one, word_without_lowest}
use Rattle.lane_kernels.proofs.bitmap.push_bits.Goals as goal

pub bounds-out-filled : goal.bounds-out-filled
bounds-out-filled c =
    room_for_one c.args.base c.args.word c.loop-rest.rest c.loop-rest.filled c.args.count c.loop-rest.invariant.fits (omega arith) c.loop-rest.invariant.left c.requires.room

pub offset_bounds-out-filled : goal.offset_bounds-out-filled
offset_bounds-out-filled c =
    record { fits = omega (arith, room_for_one c.args.base c.args.word c.loop-rest.rest c.loop-rest.filled c.args.count c.loop-rest.invariant.fits (omega arith) c.loop-rest.invariant.left c.requires.room) }

pub overflow_add-filled : goal.overflow_add-filled
overflow_add-filled c =
    record { fits = omega (arith, room_for_one c.args.base c.args.word c.loop-rest.rest c.loop-rest.filled c.args.count c.loop-rest.invariant.fits (omega arith) c.loop-rest.invariant.left c.requires.room) }

pub loop-rest-preserved : goal.loop-rest-preserved
loop-rest-preserved c =
    let base = c.args.base in
    let rest = c.loop-rest.rest in
    let out = c.loop-rest.out in
    let filled = c.loop-rest.filled in
    let left : List ℕ = word_bits base (bit_and rest (rest - 1)) in
    let first = word_bits_first base rest c.loop-rest.invariant.fits (omega arith) in
    let room : filled < length out = omega (arith, c.loop-rest.invariant.long, room_for_one base c.args.word rest filled c.args.count c.loop-rest.invariant.fits (omega arith) c.loop-rest.invariant.left c.requires.room) in
    record {
      long = length-set out filled _ ∙ c.loop-rest.invariant.long;
      front = ap (λ (xs : List ℕ). xs ++ left) (take_more_set out filled _ room)
          ∙ append_assoc (take filled out) (_ ∷ []) left
          ∙ ap (λ (xs : List ℕ). take filled out ++ xs) (sym first)
          ∙ c.loop-rest.invariant.front;
      left = omega (arith, ap length first, c.loop-rest.invariant.left);
      fits = omega (arith, word_without_lowest rest (omega arith), c.loop-rest.invariant.fits);
    }

pub returns-clause-count : goal.returns-clause-count
returns-clause-count c =
    omega (arith, c.loop-rest.invariant.left, ap (λ r. length (word_bits c.args.base r)) c.loop-rest-test.false, ap length (word_bits_nil c.args.base))

pub returns-clause-most : goal.returns-clause-most
returns-clause-most c = omega (arith, c.loop-rest.invariant.left, length-word_bits c.args.base c.args.word)

pub returns-clause-front : goal.returns-clause-front
returns-clause-front c =
    let none : word_bits c.args.base c.loop-rest.rest ≡ [] = ap (word_bits c.args.base) c.loop-rest-test.false ∙ word_bits_nil c.args.base in
    sym (ap (λ (xs : List ℕ). take c.loop-rest.filled c.loop-rest.out ++ xs) none ∙ append-nil _) ∙ c.loop-rest.invariant.front
