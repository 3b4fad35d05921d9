use Rattle.shared_lemmas.proofs.Common.{◌≡◌, ℕ, ◌-◌, ◌<◌, ◌^◌, not, nat_eq, nat_lt, replicate, inl, inr, refl, sym, ap, ◌∙◌, arith, bit_and, list_all, number_l, cases_lt, and_le_r}
use Rattle.codec_simple8.specs.Simple8.{count_of, width_of, fields}
use Rattle.codec_simple8.proofs.Fields.{high_parts, number_times, all_narrow}
use Rattle.codec_simple8.proofs.Tables.{flat_widths, wider_widths}
use Rattle.codec_simple8.proofs.spelling.has_wider.Goals as goal

-- no bit is too many where both widths are 0
flat : (own width n x : ℕ) → own ≡ 0 → width ≡ 0 → nat_eq (bit_and x (number_l (2 ^ own) (replicate n (2 ^ own - 2 ^ width)))) 0 ≡ list_all (λ gap. nat_lt gap (2 ^ width)) (fields own n x)
flat own width n x none none' =
    let same : 2 ^ own - 2 ^ width ≡ 0 = rw (none, none') refl in
    let zero_is : number_l (2 ^ own) (replicate n 0) ≡ 0 = omega (arith, number_times (2 ^ own) n 0) in
    let nothing : bit_and x 0 ≡ 0 = omega (arith, and_le_r x 0) in
    ap (λ h. nat_eq (bit_and x (number_l (2 ^ own) (replicate n h))) 0) same ∙ ap (λ m. nat_eq (bit_and x m) 0) zero_is ∙ ap (λ y. nat_eq y 0) nothing
    ∙ sym (all_narrow own width n x (omega (arith, none, none')))

narrow : (s x : ℕ) → s < 16 → nat_eq (bit_and x (number_l (2 ^ width_of s) (replicate (count_of s) (2 ^ width_of s - 2 ^ width_of (s - 1))))) 0
    ≡ list_all (λ gap. nat_lt gap (2 ^ width_of (s - 1))) (fields (width_of s) (count_of s) x)
narrow s x small = elim (cases_lt s 2) [
  | inl less ↦ flat (width_of s) (width_of (s - 1)) (count_of s) x (flat_widths s less) (flat_widths (s - 1) (omega (arith, less)))
  | inr more ↦ high_parts (width_of s) (width_of (s - 1)) (count_of s) x (wider_widths s more small)
]

pub returns : goal.returns
returns c = ap not (ap (λ m. nat_eq (bit_and c.args.values m) 0) c.wider.ensures ∙ narrow c.args.selector.number c.args.values c.args.selector.few)
