-- A document's record that is judged in two steps.
use Rattle.shared_lemmas.proofs.Common.{◌≡◌, ℕ, ◌^◌, ◌<◌, ◌≤◌, true, false, List, Err, refl, arith, nat_le, nat_tests}
use Rattle.ciff_read.specs.declared.refusal.CiffWhy.TheVariants.{Range, DocRange}
use Rattle.ciff_read.specs.Judging.{NumberedDoc, judge_doc, is_among}
use Rattle.ciff_read.specs.Private.Recording.{judge_rest}
use Rattle.ciff_read.specs.Refusals.{placed}

module _ (at docs : ℕ) (numbers : List ℕ) (x : NumberedDoc) where
  pub number_over : 2 ^ 31 ≤ x.number → placed at (judge_doc docs numbers x) ≡ Err (record { at = at; why = Range })
  number_over over =
      let test : nat_le (2 ^ 31) x.number ≡ true = grind (arith, nat_tests) in
      rw test refl

  pub number_past : x.number < 2 ^ 31 → docs ≤ x.number → placed at (judge_doc docs numbers x) ≡ Err (record { at = at; why = DocRange })
  number_past fits past =
      let first : nat_le (2 ^ 31) x.number ≡ false = grind (arith, nat_tests) in
      let second : nat_le docs x.number ≡ true = grind (arith, nat_tests) in
      rw (first, second) refl

  pub number_fits : x.number < 2 ^ 31 → x.number < docs → judge_doc docs numbers x ≡ judge_rest (is_among x.number numbers) x
  number_fits fits below =
      let first : nat_le (2 ^ 31) x.number ≡ false = grind (arith, nat_tests) in
      let second : nat_le docs x.number ≡ false = grind (arith, nat_tests) in
      rw (first, second) refl
