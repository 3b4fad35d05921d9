use Rattle.jass_top.proofs.Sides.{wrote_ok, wrote_err, wrote_unflushed, wrote_stopped}
use Rattle.jass_top.proofs.exhaust_queries.exhaust_all.Goals as goal

pub returns-in-Err-clause-run : goal.returns-in-Err-clause-run
returns-in-Err-clause-run g c = wrote_err c.new-run_buffer.ensures c.in_ok-gather_queries.ensures.run c.in-Err.ensures.text

pub returns-in-Err-clause-out : goal.returns-in-Err-clause-out
returns-in-Err-clause-out g c = wrote_unflushed c.new-out_buffer.ensures (λ is. cc) c.in_ok-gather_queries.ensures.out

pub returns-in-Err-flush-clause-run : goal.returns-in-Err-flush-clause-run
returns-in-Err-flush-clause-run g c = wrote_stopped (λ is. cc) (wrote_ok {t = tt {0}} c.new-run_buffer.ensures c.in_ok-gather_queries.ensures.run c.in-Ok.ensures.text)

pub returns-in-Err-flush-clause-out : goal.returns-in-Err-flush-clause-out
returns-in-Err-flush-clause-out g c = wrote_err c.new-out_buffer.ensures c.in_ok-gather_queries.ensures.out c.in-Err-flush.ensures.text
