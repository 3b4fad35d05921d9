use Rattle.std.proofs.Common.{◌≡◌, ℕ, ◌≤◌, sym, ◌∙◌, arith}
use Rattle.run_audit.proofs.Deciding.{kept, settled, settled_at_zero, opened, unsettled}
use Rattle.run_audit.proofs.grading.grade.Goals as goal

some : (bound : ℕ) → ¬ (bound ≡ 0) → 1 ≤ bound
some bound not_zero = omega arith

pub returns-then-bound-eq0-clause-graded : goal.returns-then-bound-eq0-clause-graded
returns-then-bound-eq0-clause-graded c = λ scores is. settled_at_zero scores c.args.k c.args.bound c.if-bound-eq0.true

pub returns-then-not-documents_stay-clause-graded : goal.returns-then-not-documents_stay-clause-graded
returns-then-not-documents_stay-clause-graded c = λ scores is. opened scores c.args.k c.args.bound c.args.hits.now c.args.runner_up c.args.least_untouched is (some c.args.bound c.if-bound-eq0.false) (sym c.documents_stay.ensures ∙ c.if-not-documents_stay.true)

pub returns-then-order_stays-clause-graded : goal.returns-then-order_stays-clause-graded
returns-then-order_stays-clause-graded c = λ scores is. settled scores c.args.k c.args.bound c.args.hits.now c.args.runner_up c.args.least_untouched is (sym c.documents_stay.ensures ∙ c.if-not-documents_stay.false) (sym c.order_stays.ensures ∙ c.if-order_stays.true)

pub returns-else-order_stays-clause-graded : goal.returns-else-order_stays-clause-graded
returns-else-order_stays-clause-graded c = λ scores is.
    let stays = sym c.documents_stay.ensures ∙ c.if-not-documents_stay.false in
    let moves = sym c.order_stays.ensures ∙ c.if-order_stays.false in
    (kept scores c.args.k c.args.bound c.args.hits.now c.args.runner_up c.args.least_untouched is stays, unsettled scores c.args.k c.args.bound c.args.hits.now c.args.runner_up c.args.least_untouched is moves)
