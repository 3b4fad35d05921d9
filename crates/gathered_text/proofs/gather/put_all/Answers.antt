use Rattle.gathered_text.proofs.Compose.{gather_flushed}
use Rattle.gathered_text.proofs.gather.put_all.Goals as goal

pub returns : goal.returns
returns g c = gather_flushed c.new-buffer.ensures c.in_ok-gather_all.ensures c.flush.ensures.text
