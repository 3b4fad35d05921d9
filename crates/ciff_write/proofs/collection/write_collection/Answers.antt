use Rattle.gathered_text.proofs.Compose.{gather_flushed}
use Rattle.ciff_write.proofs.collection.write_collection.Goals as goal

pub returns : goal.returns
returns g c = gather_flushed c.new-buffer.ensures c.in_ok-put_collection.ensures c.flush.ensures.text
