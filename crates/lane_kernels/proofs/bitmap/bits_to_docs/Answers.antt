use Rattle.std.proofs.Common.{ℕ, List, ◌≡◌, ◌++◌, ◌∙◌, ◌+◌, ◌/◌, ◌%◌, ◌^◌, length, ap, arith, length-append}
use Rattle.lane_kernels.specs.Bitmap.{set_bits}
use Rattle.lane_kernels.specs.Private.Bitmap.{word_bits}
use Rattle.lane_kernels.proofs.SetBits.{set_bits_of_words}
use Rattle.lane_kernels.proofs.bitmap.bits_to_docs.Goals as goal
use lib.Lanes.{number_l}

joined : (base : ℕ) (bytes : List ℕ) (low high : ℕ) → low ≡ number_l 256 bytes % 2 ^ 64 → high ≡ number_l 256 bytes / 2 ^ 64
    → word_bits base (number_l 256 bytes % 2 ^ 64) ++ word_bits (base + 64) (number_l 256 bytes / 2 ^ 64) ≡ set_bits base bytes
    → word_bits base low ++ word_bits (base + 64) high ≡ set_bits base bytes
joined base bytes low high l h all = ap (λ w. word_bits base w ++ word_bits (base + 64) high) l ∙ ap (λ w. word_bits base (number_l 256 bytes % 2 ^ 64) ++ word_bits (base + 64) w) h ∙ all

pub returns-clause-front : goal.returns-clause-front
returns-clause-front c =
    c.push_bits.ensures.front
    ∙ ap (λ (xs : List ℕ). xs ++ word_bits (c.args.base + 64) c.words_of-low.result.1) c.push_bits-count.ensures.front
    ∙ joined c.args.base c.args.bytes.now _ _ c.words_of-low.ensures.low c.words_of-low.ensures.high
    (set_bits_of_words c.args.base c.args.bytes.now (λ k. (c.type_inv.bytes k).fits) c.requires.bytes)

pub returns-clause-count : goal.returns-clause-count
returns-clause-count c =
    let all = joined c.args.base c.args.bytes.now _ _ c.words_of-low.ensures.low c.words_of-low.ensures.high
    (set_bits_of_words c.args.base c.args.bytes.now (λ k. (c.type_inv.bytes k).fits) c.requires.bytes) in
    omega (
      arith,
      c.push_bits.ensures.count,
      c.push_bits-count.ensures.count,
      ap length all,
      length-append (word_bits c.args.base c.words_of-low.result.0) (word_bits (c.args.base + 64) c.words_of-low.result.1),
    )
