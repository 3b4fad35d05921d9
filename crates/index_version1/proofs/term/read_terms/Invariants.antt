use Rattle.std.proofs.Common.{◌≡◌, ◌-◌, ◌≤◌, length, map, None}
use Rattle.index_layout.proofs.Behind.{with_terms}
use Rattle.index_version1.specs.Reading.{read_terms1}
use Rattle.index_version1.specs.Private.Tables.{before_of, term_heads}
use Rattle.index_version1.proofs.term.read_terms.Given as goal

abbrev pub invariant-terms : goal.invariant-terms
invariant-terms l = record {
  read : read_terms1 l.bytes l.docs l.count None l.from ≡ with_terms (map term_heads l.terms) (read_terms1 l.bytes l.docs (l.count - l.counter) (before_of l.terms) l.at);
  at : l.at ≤ length l.bytes;
}
