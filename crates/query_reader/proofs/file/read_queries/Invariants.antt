-- The queries so far, and what is left of the file.
use Rattle.shared_lemmas.proofs.Common.{◌≡◌, ◌<◌, length, map, All, AllByRecursion}
use Rattle.jass_base.specs.declared.query_term.QueryTerm.{QueryTerm}
use Rattle.jass_base.specs.declared.query.Query.{Query}
use Rattle.text_lines.specs.Lines.{HasNumberUpTo}
use Rattle.query_reader.specs.Queries.{query_data}
use Rattle.query_reader.specs.Reading.{read_lines, read_query_file}
use Rattle.query_reader.proofs.FileReading.{with_front, with_bytes}
use Rattle.query_reader.proofs.file.read_queries.Given as goal

abbrev pub invariant-loop-line : goal.invariant-loop-line
invariant-loop-line g l = record {
  read : with_front (map query_data l.queries) (read_lines l.mode (g.X.Lexicon.terms l.index) (with_bytes l.line-iterator)) ≡ read_query_file l.bytes l.mode (g.X.Lexicon.terms l.index);
  numbers : AllByRecursion (HasNumberUpTo (length l.bytes)) l.line-iterator;
  known : AllByRecursion (λ (query : Query). All (λ (n : QueryTerm). n.term < length (g.X.Lexicon.terms l.index)) query.terms) l.queries;
}
