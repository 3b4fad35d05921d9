use Rattle.shared_lemmas.proofs.Common.{eqb, not, arith, length-chunk, bitmask_splat}
use Rattle.max_score.proofs.Marks.{none_marked}
use Rattle.max_score.proofs.cursor.some_of_64.Goals as goal
use Rattle.std.specs.Int.{w16}
use lib.Lanes.{chunk}

pub returns : goal.returns
returns c = none_marked c.args.numbers.now c.args.at c.requires _
    (bitmask_splat w16 (λ a b. not (eqb a b)) (chunk c.args.at 64 c.args.numbers.now) 64 0 (length-chunk c.args.at 64 c.args.numbers.now c.requires) (omega arith))
