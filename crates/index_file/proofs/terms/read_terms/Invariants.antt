use Rattle.std.proofs.Common.{◌≡◌, ◌-◌, ◌≤◌, ◌*◌, length, None}
use Rattle.index_file.proofs.Below.{read_terms, with_terms}
use Rattle.index_file.specs.Private.Gathered.{IsReader, last_read, terms_read}
use Rattle.index_file.proofs.terms.read_terms.Given as goal

abbrev pub invariant-terms : goal.invariant-terms
invariant-terms l = record {
  read : read_terms l.bytes l.docs l.count None l.from
      ≡ with_terms (terms_read l.reader) (read_terms l.bytes l.docs (l.count - l.counter) (last_read l.reader) l.at);
  start : l.from ≤ l.at;
  at : l.at ≤ length l.bytes;
  reader : IsReader l.docs l.reader;
  heads : 11 * length l.reader.heads ≤ l.at;
  count : length l.reader.rows ≡ l.counter;
}
