use Rattle.index_write.proofs.Streamed.{entries_are, entry_is, heads_are, heads_fall}
use Rattle.index_write.proofs.laws.made_heads_are_entries.Goals as goal

pub returns : goal.returns
returns c = record {
  heads = heads_are c.payloads_have_few_bytes.ensures.some;
  falling = heads_fall;
  entry = entry_is c.payloads_have_few_bytes.ensures.some;
  entries = entries_are c.payloads_have_few_bytes.ensures.some;
}
