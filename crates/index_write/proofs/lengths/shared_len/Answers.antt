use Rattle.shared_lemmas.proofs.Common.{◌≡◌, ℕ, ◌≤◌, List, length, min, arith, ap, cases_lt, drop, drop_all, inl, inr, ◌∙◌}
use Rattle.index_layout.specs.Layout.{shared_with}
use Rattle.index_write.proofs.Memory.{prefix_of_nothing}
use Rattle.index_write.proofs.lengths.shared_len.Goals as goal

-- behind the shorter of two texts they share nothing
none_behind : (n : ℕ) (before term : List ℕ) → min (length before) (length term) ≤ n → shared_with (drop n before) (drop n term) ≡ 0
none_behind n before term short =
    elim (cases_lt n (length term)) [
      | inl more ↦ ap (λ xs. shared_with xs (drop n term)) (drop_all n before (omega (arith, short, more)))
      | inr ended ↦ ap (shared_with (drop n before)) (drop_all n term ended) ∙ prefix_of_nothing (drop n before)
    ]

pub returns-after-bytes-clause-shared : goal.returns-after-bytes-clause-shared
returns-after-bytes-clause-shared c =
    omega (arith, c.bytes.invariant.counted, none_behind c.bytes.shared c.args.before.now c.args.term.now (omega (arith, c.min-most.ensures, c.bytes-test.false)))
