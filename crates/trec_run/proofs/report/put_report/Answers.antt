use Rattle.gathered_text.proofs.Compose.{gather_flushed}
use Rattle.trec_run.proofs.report.put_report.Goals as goal

pub returns : goal.returns
returns g c = gather_flushed c.new-buffer.ensures c.in_ok-gather_report.ensures c.flush.ensures.text
