-- The sort is stable, so it leaves what sorting by insertion leaves.
use Rattle.shared_lemmas.proofs.Common.{rules, List, refl, sym, ap, ◌∙◌, IsTotalOrder, IsStrictWeakOrder, on_total, answers_always, ranks_by}
use Rattle.std.proofs.Common.{Ordering, is_lt}
use Rattle.impact_segments.proofs.Below.{PostingsList, sorted, stable_is_sorted, sorted_map}
use Rattle.impact_segments.specs.Private.Listed.{term_cmp, lists_behind}
use Rattle.impact_segments.proofs.Orders.{term_total}
use Rattle.impact_segments.proofs.listing.lists_by_term.Goals as goal
use denote.Ref.{Bor}

abbrev behind : Bor PostingsList → PostingsList
behind r = r.now

abbrev ref_cmp : Bor PostingsList → Bor PostingsList → Ordering
ref_cmp a b = term_cmp a.now b.now

ref_total : IsTotalOrder ref_cmp
ref_total = on_total behind term_total

ref_less : IsStrictWeakOrder (λ (a b : Bor PostingsList). is_lt (ref_cmp a b))
ref_less = ranks_by ref_total (λ (r : Bor PostingsList). r)

pub returns-in-Ok : goal.returns-in-Ok
returns-in-Ok c =
    ap lists_behind (stable_is_sorted ref_cmp ref_total c.in_ok-listed.listed.items c.sort_by.new.self.items
    (c.in-Ok.ensures.sorted (λ (a b : Bor PostingsList). is_lt (ref_cmp a b)) ref_less (answers_always _ _ _ (λ f a r f' called. search rules)))
    (c.in-Ok.ensures.stable (λ (a b : Bor PostingsList). is_lt (ref_cmp a b)) ref_less (answers_always _ _ _ (λ f a r f' called. search rules))))
    ∙ sym (sorted_map behind ref_cmp term_cmp (λ a b. refl) c.in_ok-listed.listed.items)
    ∙ ap (λ (l : List PostingsList). sorted term_cmp l) c.in_ok-listed.ensures
