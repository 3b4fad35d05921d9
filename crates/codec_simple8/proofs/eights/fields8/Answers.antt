use Rattle.shared_lemmas.proofs.Common.{◌≡◌, ℕ, List, ◌-◌, ◌*◌, ◌/◌, ◌%◌, ◌^◌, [], ap, ◌∙◌, arith, get_or, replicate}
use Rattle.std.proofs.lemmas.Simd.{shifts_fit_splat}
use Rattle.codec_simple8.proofs.LaneValues.{eight_values, factors, rows_long, whole_row, width_narrow, width_some}
use Rattle.codec_simple8.proofs.eights.fields8.Goals as goal
use lib.Lanes.{chunk, zip2}

pub overflow_cast-result : goal.overflow_cast-result
overflow_cast-result c = record { fits = omega (arith, c.width.ensures, width_narrow c.args.selector.number c.requires.from c.requires.to) }

pub overflow_sub-result : goal.overflow_sub-result
overflow_sub-result c = omega (arith, c.width.ensures, width_narrow c.args.selector.number c.requires.from c.requires.to)

pub overflow_shr-result : goal.overflow_shr-result
overflow_shr-result c = shifts_fit_splat 16 _ 8 (16 - c.width.result) (omega (arith, c.width.ensures, width_some c.args.selector.number c.requires.from c.requires.to))

pub returns : goal.returns
unfolding factors
returns c =
    let s = c.args.selector.number in
    let same : chunk 0 8 (get_or factors (s - 5) []) ≡ get_or factors (s - 5) [] = whole_row (get_or factors (s - 5) []) 8 (rows_long s c.requires.from c.requires.to).1 in
    ap (λ (row : List ℕ). zip2 (λ a b. a / 2 ^ b) (zip2 (λ a b. a * b % 65536) c.pairs8.result row) (replicate 8 (16 - c.width.result))) same
    ∙ eight_values s c.args.values c.width.result c.pairs8.result c.requires.from c.requires.to c.width.ensures c.pairs8.ensures.lanes c.pairs8.ensures.pairs
