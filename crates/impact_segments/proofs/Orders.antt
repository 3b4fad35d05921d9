-- The orders of pairs, lists and entries are total.
use Rattle.shared_lemmas.proofs.Common.{◌≡◌, ◌≢◌, ℕ, ◌^◌, ◌<◌, List, true, false, true≢false, refl, sym, ap, ◌∙◌, arith, ⊎_elim, nat_cmp, ordering_then, is_gt, is_lt, IsTotalOrder, IsStrictWeakOrder, nat_cmp_is, cases_lt, ranks_by, slice_cmp, then_total, on_total, back_total, nat_cmp_total}
use Rattle.shared_lemmas.proofs.Common.{nat_list_cmp_total, nat_cmp-IsAntisymmetric, slice_cmp-IsAntisymmetric}
use Rattle.std.proofs.Common.{Ordering, Less, Equal, Greater}
use Rattle.impact_segments.proofs.Below.{PostingsList, both_equal}
use Rattle.impact_segments.specs.Pairs.{pair_cmp, with_impact}
use Rattle.impact_segments.specs.Private.Pairs.{pair_key}
use Rattle.impact_segments.specs.declared.doc_impact.DocImpact.{DocImpact}
use Rattle.impact_segments.specs.Private.Listed.{term_cmp}

pub pair_total : IsTotalOrder pair_cmp
pair_total = then_total (on_total (λ (p : DocImpact). p.impact) (back_total nat_cmp_total)) (on_total (λ (p : DocImpact). p.doc) nat_cmp_total)

-- the numbers of two pairs are in the order of the pairs
pub in_key_order : (x y : DocImpact) → x.doc < 2 ^ 32 → x.impact < 2 ^ 16 → y.doc < 2 ^ 32 → y.impact < 2 ^ 16 → pair_cmp x y ≡ nat_cmp (pair_key x) (pair_key y)
in_key_order x y a b c d =
    ⊎_elim
    (λ l. ap by_impact (sym (nat_cmp_is y.impact x.impact Less l)) ∙ nat_cmp_is (pair_key x) (pair_key y) Less (omega (arith, l, a, b, c, d)))
    (λ no_less. ⊎_elim
    (λ l. ap by_impact (sym (nat_cmp_is y.impact x.impact Greater l)) ∙ nat_cmp_is (pair_key x) (pair_key y) Greater (omega (arith, l, a, b, c, d)))
    (λ no_more. let e : y.impact ≡ x.impact = omega (arith, no_less, no_more) in ap by_impact (sym (nat_cmp_is y.impact x.impact Equal e)) ∙ by_doc e)
    (cases_lt x.impact y.impact))
    (cases_lt y.impact x.impact)
  where
    by_impact : Ordering → Ordering
    by_impact r = ordering_then r (nat_cmp x.doc y.doc)

    by_doc : y.impact ≡ x.impact → nat_cmp x.doc y.doc ≡ nat_cmp (pair_key x) (pair_key y)
    by_doc e =
        ⊎_elim
        (λ l. sym (nat_cmp_is x.doc y.doc Less l) ∙ nat_cmp_is (pair_key x) (pair_key y) Less (omega (arith, l, e)))
        (λ no_less. ⊎_elim
        (λ l. sym (nat_cmp_is x.doc y.doc Greater l) ∙ nat_cmp_is (pair_key x) (pair_key y) Greater (omega (arith, l, e)))
        (λ no_more. sym (nat_cmp_is x.doc y.doc Equal (omega (arith, no_less, no_more))) ∙ nat_cmp_is (pair_key x) (pair_key y) Equal (omega (arith, no_less, no_more, e)))
        (cases_lt y.doc x.doc))
        (cases_lt x.doc y.doc)

pub pair_less : IsStrictWeakOrder (λ (a b : DocImpact). is_lt (pair_cmp a b))
pair_less = ranks_by pair_total (λ (p : DocImpact). p)

pub term_total : IsTotalOrder term_cmp
term_total = on_total (λ (l : PostingsList). l.term) nat_list_cmp_total

pub pair_same : (x y : DocImpact) → pair_cmp x y ≡ Equal → x ≡ y
pair_same x y e =
    let both = both_equal (nat_cmp y.impact x.impact) (nat_cmp x.doc y.doc) e in
    let impact : x.impact ≡ y.impact = sym (nat_cmp-IsAntisymmetric y.impact x.impact both.0) in
    let doc : x.doc ≡ y.doc = nat_cmp-IsAntisymmetric x.doc y.doc both.1 in
    λ i. with_impact (impact i) (doc i)

pub term_same : (s t : List ℕ) → slice_cmp nat_cmp s t ≡ Equal → s ≡ t
term_same s t e = slice_cmp-IsAntisymmetric nat_cmp-IsAntisymmetric s t e

-- not after, and not the same: before
pub strictly : (s t : List ℕ) → is_gt (slice_cmp nat_cmp s t) ≡ false → s ≢ t → is_lt (slice_cmp nat_cmp s t) ≡ true
strictly s t g n = by (slice_cmp nat_cmp s t) refl g where
  by : (r : Ordering) → slice_cmp nat_cmp s t ≡ r → is_gt r ≡ false → is_lt r ≡ true
  by Less e g = refl
  by Equal e g = absurd (n (term_same s t e))
  by Greater e g = absurd (true≢false g)
