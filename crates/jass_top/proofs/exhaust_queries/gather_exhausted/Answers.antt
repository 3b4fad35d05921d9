use Rattle.jass_top.proofs.Sides.{side_ok, side_foreign}
use Rattle.jass_top.proofs.exhaust_queries.gather_exhausted.Goals as goal

pub returns-in-Err-gather_line-clause-run : goal.returns-in-Err-gather_line-clause-run
returns-in-Err-gather_line-clause-run g c = side_foreign _ (λ is. cc) (side_ok {t = tt {0}} c.in-Ok.ensures)
