use Rattle.shared_lemmas.proofs.Common.{◌≡◌, ℕ, ◌-◌, ◌*◌, ◌%◌, ◌<◌, ◌≤◌, ◌^◌, replicate, inl, inr, sym, ap, ◌∙◌, arith, number_l, cases_lt, one_shl, pow_pos, pow_below, mul-le-mul_left, pow-le-pow_right}
use Rattle.codec_simple8.specs.Simple8.{count_of, width_of}
use Rattle.codec_simple8.proofs.Fields.{masked, high_parts, number_times, number_fits, first_fields, all_narrow}
use Rattle.codec_simple8.proofs.Tables.{bits_most, count_most, width_most, flat_widths}
use Rattle.codec_simple8.proofs.spelling.gaps_narrow.Goals as goal

-- the bits of the first gaps
first_bits : (s own count : ℕ) → s < 16 → own ≡ width_of s → count ≤ count_of s → own * count ≤ 60
first_bits s own count small is few = let most : own * count_of s ≤ 60 = rw is (bits_most s small) in omega (arith, most, mul-le-mul_left own few)

-- a width that holds no more than some other
later : (s own width : ℕ) → s < 16 → own ≡ width_of s → width < own → 2 ≤ s
later s own width small is wider = elim (cases_lt s 2) [ inl less ↦ absurd (omega (arith, is, wider, flat_widths s less)) | inr more ↦ more ]

pub returns-then-own-width : goal.returns-then-own-width
returns-then-own-width c = sym (all_narrow (width_of c.args.selector.number) c.args.width c.args.count c.args.values (omega (arith, c.width-own.ensures, c.if-own-width.true)))

pub overflow_cast-first : goal.overflow_cast-first
overflow_cast-first c = record { fits = omega (arith, c.requires.count, count_most c.args.selector.number c.args.selector.few) }

pub overflow_mul-first : goal.overflow_mul-first
overflow_mul-first c = let bits = first_bits c.args.selector.number c.width-own.result c.args.count c.args.selector.few c.width-own.ensures c.requires.count in record { fits = omega (arith, bits) }

pub overflow_cast-first-2 : goal.overflow_cast-first-2
overflow_cast-first-2 c = let bits = first_bits c.args.selector.number c.width-own.result c.args.count c.args.selector.few c.width-own.ensures c.requires.count in record { fits = omega (arith, bits) }

pub overflow_shl-first : goal.overflow_shl-first
overflow_shl-first c = let bits = first_bits c.args.selector.number c.width-own.result c.args.count c.args.selector.few c.width-own.ensures c.requires.count in omega (arith, bits)

pub overflow_sub-first : goal.overflow_sub-first
overflow_sub-first c =
    let bits = first_bits c.args.selector.number c.width-own.result c.args.count c.args.selector.few c.width-own.ensures c.requires.count in
    omega (arith, one_shl (c.width-own.result * c.args.count) 64 (omega (arith, bits)), pow_pos (c.width-own.result * c.args.count))

pub lowest-requires : goal.lowest-requires
lowest-requires c = later c.args.selector.number c.width-own.result c.args.width c.args.selector.few c.width-own.ensures (omega (arith, c.if-own-width.false))

pub overflow_shl-high : goal.overflow_shl-high
overflow_shl-high c = omega (arith, c.width-own.ensures, width_most c.args.selector.number c.args.selector.few)

-- the bits that the width doesn't hold
high_bits : (own width : ℕ) → own < 64 → width < 64 → 1 * 2 ^ own % 18446744073709551616 - 1 * 2 ^ width % 18446744073709551616 ≡ 2 ^ own - 2 ^ width
high_bits own width small small' = ap (λ n. n - 1 * 2 ^ width % 18446744073709551616) (one_shl own 64 small) ∙ ap (λ n. 2 ^ own - n) (one_shl width 64 small')

pub overflow_sub-high : goal.overflow_sub-high
overflow_sub-high c =
    let less = pow_below c.args.width c.width-own.result (omega (arith, c.if-own-width.false)) in
    omega (arith, less, one_shl c.args.width 64 c.requires.width, one_shl c.width-own.result 64 (omega (arith, c.width-own.ensures, width_most c.args.selector.number c.args.selector.few)))

high_number : (s own width lowest : ℕ) → s < 16 → width < 64 → width < own → own ≡ width_of s → lowest ≡ number_l (2 ^ width_of s) (replicate (count_of s) 1)
    → lowest * (1 * 2 ^ own % 18446744073709551616 - 1 * 2 ^ width % 18446744073709551616) ≡ number_l (2 ^ own) (replicate (count_of s) (2 ^ own - 2 ^ width))
high_number s own width lowest small small' wider is lowest_is =
    ap (λ h. lowest * h) (high_bits own width (omega (arith, is, width_most s small)) small')
    ∙ ap (λ l. l * (2 ^ own - 2 ^ width)) (lowest_is ∙ ap (λ w. number_l (2 ^ w) (replicate (count_of s) 1)) (sym is)) ∙ number_times (2 ^ own) (count_of s) (2 ^ own - 2 ^ width)

pub overflow_mul-high : goal.overflow_mul-high
overflow_mul-high c =
    let wider : c.args.width < c.width-own.result = omega (arith, c.if-own-width.false) in
    let high = high_number c.args.selector.number c.width-own.result c.args.width c.lowest.result c.args.selector.few c.requires.width wider c.width-own.ensures c.lowest.ensures in
    let less : 2 ^ c.width-own.result - 2 ^ c.args.width < 2 ^ c.width-own.result = omega (arith, pow_pos c.args.width, pow_pos c.width-own.result) in
    let fits = number_fits c.width-own.result (count_of c.args.selector.number) (2 ^ c.width-own.result - 2 ^ c.args.width) less in
    let two : 0 < 2 = omega arith in
    let most = pow-le-pow_right two (first_bits c.args.selector.number c.width-own.result (count_of c.args.selector.number) c.args.selector.few c.width-own.ensures (omega arith)) in
    rw high (record { fits = omega (arith, fits, most) })

pub returns : goal.returns
returns c =
    let wider : c.args.width < c.width-own.result = omega (arith, c.if-own-width.false) in
    let high = high_number c.args.selector.number c.width-own.result c.args.width c.lowest.result c.args.selector.few c.requires.width wider c.width-own.ensures c.lowest.ensures in
    let bits = first_bits c.args.selector.number c.width-own.result c.args.count c.args.selector.few c.width-own.ensures c.requires.count in
    let low = masked c.args.values (c.width-own.result * c.args.count) (omega (arith, bits)) in
    rw (low, high, sym c.width-own.ensures) (
    high_parts c.width-own.result c.args.width (count_of c.args.selector.number) (c.args.values % 2 ^ (c.width-own.result * c.args.count)) wider
    ∙ first_fields c.width-own.result c.args.width c.args.count (count_of c.args.selector.number) c.args.values c.requires.count
    )
