use Rattle.std.proofs.Common.{◌≡◌, ◌≤◌, ◌+◌, ◌^◌, ℕ, List, length, map, All, Option}
use Rattle.index_version1.proofs.Below.{term_data, TermsRise, read_payloads, with_index}
use Rattle.index_version1.specs.Private.Tables.{term_heads}
use Rattle.index_version1.proofs.payload.fill_terms.Given as goal

abbrev pub invariant-loop-term : goal.invariant-loop-term
invariant-loop-term l = record {
  read : read_payloads l.bytes l.d (map term_heads l.fn.terms) l.fn.from ≡ with_index (map term_data l.filled) (read_payloads l.bytes l.d (map term_heads l.term-iterator.rest.items) l.at);
  at : l.at ≤ length l.bytes;
  rise : (before : Option (List ℕ)) × TermsRise l.d before (map term_heads l.term-iterator.rest.items);
  marks : All (λ n. n ≤ l.mark) l.seen;
  size : length l.seen ≡ l.d;
  few : l.mark + length l.term-iterator.rest.items ≤ 2 ^ 24;
}
