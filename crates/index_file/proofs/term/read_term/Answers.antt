use Rattle.std.proofs.Common.{◌≤◌, ℕ, List, length, sym, subst, ◌∙◌}
use Rattle.index_layout.specs.Reading.{before_bytes}
use Rattle.index_file.specs.Private.Tables.{before_in}
use Rattle.index_file.proofs.NextTerms.{shared_fits}
use Rattle.index_file.proofs.term.read_term.Goals as goal

pub append_term-requires-clause-shared : goal.append_term-requires-clause-shared
append_term-requires-clause-shared c =
    let before = c.args.before in
    subst (λ (text : List ℕ). c.u16_at-shared.result ≤ length (before_bytes (before_in text before))) c.as_slice.ensures
    (shared_fits (before_bytes (before_in c.as_slice.result.now before)) _ c.u16_at-shared.result _ (sym c.may_follow.ensures ∙ c.if-not-may_follow.false))
