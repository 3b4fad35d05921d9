-- Laws of the orders of the definitions: each is total, and only equal entries, or equal hits, tie.
use Rattle.shared_lemmas.proofs.Common.{◌≡◌, length, sym, Ordering, nat_cmp, ordering_then, IsTotalOrder, then_total, on_total, back_total, nat_cmp_total, IsAntisymmetric, nat_cmp-IsAntisymmetric}
use Rattle.jass_base.specs.declared.answer.Hit.{Hit}
use Rattle.ranking_model.specs.declared.entry.Entry.{Entry}
use Rattle.ranking_model.specs.declared.plan_segment.PlanSegment.{PlanSegment}
use Rattle.ranking_model.specs.Flat.{entry_cmp}
use Rattle.ranking_model.specs.Plan.{plan_cmp}
use Rattle.ranking_model.specs.Scores.{rank_cmp}
use Rattle.ranking_model.proofs.Sorting.{both_equal}

pub entry_total : {T : Type 0} (cmp : T → T → Ordering) → IsTotalOrder cmp → IsTotalOrder (entry_cmp cmp)
entry_total {T} cmp o = then_total (then_total (on_total (λ (e : Entry T). e.term) o) (on_total (λ (e : Entry T). e.impact) (back_total nat_cmp_total)))
    (on_total (λ (e : Entry T). e.doc) nat_cmp_total)

pub entry_same : {T : Type 0} (cmp : T → T → Ordering) → IsAntisymmetric cmp → IsAntisymmetric (entry_cmp cmp)
entry_same {T} cmp same x y e =
    let last = both_equal (ordering_then (cmp x.term y.term) (nat_cmp y.impact x.impact)) (nat_cmp x.doc y.doc) e in
    let first = both_equal (cmp x.term y.term) (nat_cmp y.impact x.impact) last.0 in
    let term : x.term ≡ y.term = same x.term y.term first.0 in
    let impact : x.impact ≡ y.impact = sym (nat_cmp-IsAntisymmetric y.impact x.impact first.1) in
    let doc : x.doc ≡ y.doc = nat_cmp-IsAntisymmetric x.doc y.doc last.1 in
    λ i. record { term = term i; doc = doc i; impact = impact i }

pub plan_total : IsTotalOrder plan_cmp
plan_total = then_total (then_total (on_total (λ (c : PlanSegment). c.weight) (back_total nat_cmp_total)) (on_total (λ (c : PlanSegment). length c.docs) nat_cmp_total))
    (on_total (λ (c : PlanSegment). c.term_place) nat_cmp_total)

pub rank_total : IsTotalOrder rank_cmp
rank_total = then_total (on_total (λ (h : Hit). h.score) (back_total nat_cmp_total)) (on_total (λ (h : Hit). h.doc) nat_cmp_total)

pub rank_same : IsAntisymmetric rank_cmp
rank_same x y e =
    let both = both_equal (nat_cmp y.score x.score) (nat_cmp x.doc y.doc) e in
    let score : x.score ≡ y.score = sym (nat_cmp-IsAntisymmetric y.score x.score both.0) in
    let doc : x.doc ≡ y.doc = nat_cmp-IsAntisymmetric x.doc y.doc both.1 in
    λ i. record { doc = doc i; score = score i }
