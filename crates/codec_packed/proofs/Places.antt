-- The block at a place of the bytes.
use Rattle.shared_lemmas.proofs.Common.{◌≡◌, ◌≢◌, ℕ, ◌+◌, ◌-◌, ◌*◌, ◌<◌, ◌≤◌, true, false, nat_lt, List, length, get_or, take, drop, Err, refl, sym, ap, ◌∙◌, arith, ◌==◌, lt-ltb, le-ltb, nat_tests, drop_more, drop_all, length-drop}
use Rattle.jass_base.specs.declared.payload_fault.PayloadFault.TheVariants.{Cut, Shape}
use Rattle.lane_kernels.specs.Block.{block_values}
use Rattle.lane_kernels.specs.Width.{least_width}
use Rattle.codec_packed.specs.Reading.{block_at_width, block_in}
use Rattle.codec_packed.proofs.Blocks.{read_as}

pub no_width : (bytes : List ℕ) (at : ℕ) → length bytes ≤ at → block_in (drop at bytes) ≡ Err Cut
unfolding block_in
no_width bytes at past = ap block_in (drop_all at bytes past)

module _ (bytes : List ℕ) (at : ℕ) (inside : at < length bytes) where
  abbrev width : ℕ
  width = get_or bytes at 0

  pub too_wide : 32 < width → block_in (drop at bytes) ≡ Err Shape
  unfolding block_in
  too_wide wide = rw (drop_more bytes at 0 inside, lt-ltb _ _ wide) refl

  module _ (narrow : width ≤ 32) where
    at_width : block_in (drop at bytes) ≡ block_at_width width (drop (at + 1) bytes)
    unfolding block_in
    at_width = rw (drop_more bytes at 0 inside, le-ltb _ _ narrow) refl

    pub too_short : length bytes - at - 1 < 16 * width → block_in (drop at bytes) ≡ Err Cut
    too_short short =
        let cut : nat_lt (length (drop (at + 1) bytes)) (16 * width) ≡ true = lt-ltb _ _ (omega (arith, length-drop (at + 1) bytes, short)) in
        at_width ∙ rw cut refl

    module _ (n : ℕ) (same : n ≡ width) (gaps : List ℕ) (values : gaps ≡ block_values (take (at + 1 + 16 * n - (at + 1)) (drop (at + 1) bytes)) width)
        (long : 16 * width ≤ length bytes - at - 1) where
      values_there : block_values (take (16 * width) (drop (at + 1) bytes)) width ≡ gaps
      values_there = ap (λ k. block_values (take k (drop (at + 1) bytes)) width) (let e : 16 * width ≡ at + 1 + 16 * n - (at + 1) = omega arith in e) ∙ sym values

      enough : nat_lt (length (drop (at + 1) bytes)) (16 * width) ≡ false
      enough = le-ltb _ _ (omega (arith, length-drop (at + 1) bytes, long))

      pub not_least : least_width gaps ≢ width → block_in (drop at bytes) ≡ Err Shape
      not_least other = let test : (least_width gaps == width) ≡ false = grind (arith, nat_tests) in at_width ∙ rw (enough, values_there, test) refl

      pub block_there : least_width gaps ≡ width → block_in (drop at bytes) ≡ read_as gaps (at + 1 + 16 * n - at)
      block_there least =
          let test : (least_width gaps == width) ≡ true = grind (arith, nat_tests) in
          at_width ∙ rw (enough, values_there, test) (ap (read_as gaps) (let e : 16 * width + 1 ≡ at + 1 + 16 * n - at = omega arith in e))
