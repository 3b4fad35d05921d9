use Rattle.std.proofs.Common.{◌≤◌, ℕ, List, length, sym, subst, ◌∙◌}
use Rattle.index_layout.specs.Reading.{before_bytes}
use Rattle.index_check.specs.Private.Answers.{before_of}
use Rattle.index_check.proofs.TermMoves.{shared_fits}
use Rattle.index_check.proofs.term.check_term.Goals as goal

pub replace_behind-requires : goal.replace_behind-requires
replace_behind-requires c =
    let first = c.args.is_first in
    record {
      shared = subst (λ (text : List ℕ). c.u16_at-shared.result ≤ length (before_bytes (before_of first text))) c.as_slice.ensures
          (shared_fits (before_bytes (before_of first c.as_slice.result.now)) _ c.u16_at-shared.result _ (sym c.may_follow.ensures ∙ c.if-not-may_follow.false));
    }
