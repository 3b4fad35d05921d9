use Rattle.shared_lemmas.proofs.Common.{◌≡◌, [], ◌∷◌, true≢false, sym, ◌∙◌, slice_get_past, get_or_from_slice_get}
use Rattle.run_audit.specs.Private.Texts.{wanted_row}
use Rattle.run_audit.proofs.Agreeing.{compared_no_more, missing}
use Rattle.run_audit.proofs.row.check_row.Goals.{else-place-run-via-then-place-run+else-is_row, else-place-run-via-else-place-run}
use Rattle.run_audit.proofs.row.check_row.Goals as goal

pub returns-else-place-run-clause-advances : goal.returns-else-place-run-clause-advances
returns-else-place-run-clause-advances c known agrees =
    missing known c.args.run.now (wanted_row c.args.wanted.now) c.args.place.now.at c.args.place.now.same c.if-place.true c.requires.within
    (elim c.else-place-run.branch [
      | else-place-run-via-then-place-run+else-is_row w ↦ λ is.
          let item = w.index-run-place.result in
          let same : item ≡ wanted_row c.args.wanted.now = w.index-run-place.is ∙ get_or_from_slice_get c.args.run.now c.args.place.now.at (wanted_row c.args.wanted.now) item is in
          absurd (true≢false (sym (w.if-is_row.ensures.1 same)))
      | else-place-run-via-else-place-run w ↦ λ is. let none = slice_get_past c.args.run.now c.args.place.now.at w.if-place-run.false in cc
    ]) agrees

pub returns-else-place-clause-advances : goal.returns-else-place-clause-advances
returns-else-place-clause-advances c known agrees = compared_no_more known c.args.run.now (wanted_row c.args.wanted.now ∷ []) c.args.place.now.at c.args.place.now.same c.if-place.false agrees
