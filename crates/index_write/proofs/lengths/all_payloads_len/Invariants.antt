use Rattle.std.proofs.Common.{◌≡◌, ◌+◌, length, drop, map}
use Rattle.index_model.specs.Views.{term_data}
use Rattle.index_write.specs.Chosen.{table_payloads}
use Rattle.index_write.proofs.lengths.all_payloads_len.Given as goal

abbrev pub invariant-loop-term : goal.invariant-loop-term
invariant-loop-term l =
    l.len + length (table_payloads (length l.index.names) (map term_data (drop l.term-index l.index.terms))) ≡ length (table_payloads (length l.index.names) (map term_data l.index.terms))
