use Rattle.jass_top.proofs.Sides.{side_ok, side_foreign}
use Rattle.jass_top.proofs.search_budgets.gather_turn.Goals as goal

pub returns-in-Err-gather_report-clause-run : goal.returns-in-Err-gather_report-clause-run
returns-in-Err-gather_report-clause-run g c = side_foreign _ (λ is. cc) (side_ok {t = tt {0}} c.in-Ok.ensures)
