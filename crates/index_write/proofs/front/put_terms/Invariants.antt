use Rattle.std.proofs.Common.{◌≡◌, ◌++◌, [], length, drop, map}
use Rattle.index_write.proofs.Below.{term_data, terms_bytes}
use Rattle.index_write.specs.Chosen.{head_data, chosen_terms}
use Rattle.index_write.specs.Private.Table.{table_of}
use Rattle.index_write.proofs.front.put_terms.Given as goal

abbrev pub invariant-loop-term : goal.invariant-loop-term
invariant-loop-term l = record {
  heads : map head_data l.left ≡ table_of (length l.index.names) (map term_data (drop l.term-index l.index.terms));
  text : l.out ++ terms_bytes l.before (chosen_terms (length l.index.names) (map term_data (drop l.term-index l.index.terms)))
      ≡ l.fn.out ++ terms_bytes [] (chosen_terms (length l.index.names) (map term_data l.index.terms));
}
