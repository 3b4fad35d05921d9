use Rattle.std.proofs.Common.{◌≡◌, ◌++◌, length, drop, map}
use Rattle.index_model.specs.Views.{term_data}
use Rattle.index_write.specs.Chosen.{head_data, table_payloads}
use Rattle.index_write.specs.Private.Table.{table_of}
use Rattle.index_write.proofs.payloads.put_all_payloads.Given as goal

abbrev pub invariant-loop-term : goal.invariant-loop-term
invariant-loop-term l = record {
  heads : map head_data l.left ≡ table_of (length l.index.names) (map term_data (drop l.term-index l.index.terms));
  text : l.out ++ table_payloads (length l.index.names) (map term_data (drop l.term-index l.index.terms))
      ≡ l.fn.out ++ table_payloads (length l.index.names) (map term_data l.index.terms);
}
