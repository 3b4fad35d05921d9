-- The checks of a line in their order.
use Rattle.std.proofs.Common.{◌∙◌, ap, sym, subst, take, drop, rules}
use Rattle.query_reader.specs.Queries.{query_data}
use Rattle.query_reader.specs.Private.Lines.{LineAnswers}
use Rattle.query_reader.proofs.LineReading.{long-line, bad-text, id-end, no-id, good-line}
use Rattle.query_reader.proofs.line.read_line.Goals as goal

pub returns-then-line-gt-LONGEST_LINE-clause-query : goal.returns-then-line-gt-LONGEST_LINE-clause-query
returns-then-line-gt-LONGEST_LINE-clause-query g c = long-line c.args.mode (g.X.Lexicon.terms c.args.index.now) c.args.line.now (search rules)

pub returns-in_default-clause-query : goal.returns-in_default-clause-query
returns-in_default-clause-query g c = bad-text c.args.mode (g.X.Lexicon.terms c.args.index.now) c.args.line.now (search rules) c.in_default.ensures.cases.0

pub returns-then-id_end-eq0-clause-query : goal.returns-then-id_end-eq0-clause-query
returns-then-id_end-eq0-clause-query g c =
    let line = c.args.line.now in
    no-id c.args.mode (g.X.Lexicon.terms c.args.index.now) line c.unwrap_or-id_end.result (search rules) c.in-Ok.ensures.cases.1 (id-end line c.memchr2.result c.memchr2.ensures ∙ sym c.unwrap_or-id_end.ensures) c.if-id_end-eq0.true

pub returns-clause-query : goal.returns-clause-query
returns-clause-query g c =
    let line = c.args.line.now in
    let is = good-line c.args.mode (g.X.Lexicon.terms c.args.index.now) line c.unwrap_or-id_end.result c.split_at.result.0.now c.split_at.result.1.now (search rules) c.in-Ok.ensures.cases.1
    (id-end line c.memchr2.result c.memchr2.ensures ∙ sym c.unwrap_or-id_end.ensures) (search rules)
    (c.split_at.ensures.front ∙ ap (take c.unwrap_or-id_end.result) c.in-Ok.ensures.cases.0) (c.split_at.ensures.back ∙ ap (drop c.unwrap_or-id_end.result) c.in-Ok.ensures.cases.0) in
    subst (LineAnswers query_data c.read_query.result) is c.read_query.ensures.query
