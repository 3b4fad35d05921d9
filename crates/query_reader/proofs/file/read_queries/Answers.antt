-- Each turn reads one line.
use Rattle.shared_lemmas.proofs.Common.{◌∙◌, ◌<◌, ap, sym, subst, map, length, rules, All, AllByRecursion}
use Rattle.jass_base.specs.declared.query_term.QueryTerm.{QueryTerm}
use Rattle.jass_base.specs.declared.query.Query.{Query}
use Rattle.text_lines.specs.Lines.{HasNumberUpTo, line_data}
use Rattle.query_reader.specs.Refusals.{Fails}
use Rattle.query_reader.specs.Private.Lines.{fault_at}
use Rattle.query_reader.specs.Queries.{query_data}
use Rattle.query_reader.specs.Reading.{read_lines, read_query_file}
use Rattle.query_reader.proofs.FileReading.{with_front, with_bytes, long-file, at-start, line-read, line-refused, at-end, all-more}
use Rattle.query_reader.proofs.file.read_queries.Goals as goal

pub returns-then-bytes-gt-LONGEST_QUERY_FILE-clause-file : goal.returns-then-bytes-gt-LONGEST_QUERY_FILE-clause-file
returns-then-bytes-gt-LONGEST_QUERY_FILE-clause-file g c =
    let read = read_query_file c.args.bytes.now c.args.mode (g.X.Lexicon.terms c.args.index.now) in
    subst (λ fault. Fails fault read) (sym c.at.ensures) (long-file c.args.bytes.now c.args.mode (g.X.Lexicon.terms c.args.index.now) (search rules))

pub loop-line-init : goal.loop-line-init
loop-line-init g c =
    let terms = g.X.Lexicon.terms c.args.index.now in let mode = c.args.mode in let lines = c.into_iter-line-iterator.result in
    record {
      read = ap (λ qs. with_front (map query_data qs) (read_lines mode terms (with_bytes lines))) c.new-queries.ensures ∙ at-start c.args.bytes.now mode terms lines (search rules) (ap with_bytes (c.into_iter-line-iterator.ensures.into_iter_gives ∙ c.new-line-items.ensures.lines));
      numbers = subst (AllByRecursion (HasNumberUpTo (length c.args.bytes.now))) (sym c.into_iter-line-iterator.ensures.into_iter_gives) c.new-line-items.ensures.numbers;
      known = subst (AllByRecursion (λ (query : Query). All (λ (n : QueryTerm). n.term < length terms) query.terms)) (sym c.new-queries.ensures) tt;
    }

pub loop-line-preserved : goal.loop-line-preserved
loop-line-preserved g c =
    let terms = g.X.Lexicon.terms c.args.index.now in
    record {
      read = line-read c.args.mode terms c.loop-line.queries c.in-Ok.query c.push.new.self c.loop-line.line-iterator c.next.new.self (line_data c.in-Some.line) c.in-Some.ensures.steps (search rules) c.in-Ok.ensures.query c.in-Ok-push.ensures.ok
          ∙ c.loop-line.invariant.read;
      numbers = (subst (AllByRecursion (HasNumberUpTo (length c.args.bytes.now))) c.in-Some.ensures.steps c.loop-line.invariant.numbers).1;
      known = all-more _ c.loop-line.queries c.in-Ok.query c.push.new.self c.in-Ok-push.ensures.ok c.loop-line.invariant.known c.in-Ok.ensures.known;
    }

pub returns-in-Err-clause-file : goal.returns-in-Err-clause-file
returns-in-Err-clause-file g c =
    let terms = g.X.Lexicon.terms c.args.index.now in let read = read_query_file c.args.bytes.now c.args.mode terms in
    let refused = line-refused c.args.mode terms (map query_data c.loop-line.queries) c.loop-line.line-iterator c.next.new.self (line_data c.in-Some.line) c.in-Err.fault c.in-Some.ensures.steps (search rules) c.in-Err.ensures.query in
    subst (λ fault. Fails fault read) (sym c.at-in-Err.ensures) (subst (Fails (fault_at c.in-Some.line.number c.in-Err.fault)) c.loop-line.invariant.read refused)

pub returns-clause-file : goal.returns-clause-file
returns-clause-file g c =
    sym c.loop-line.invariant.read ∙ at-end c.args.mode (g.X.Lexicon.terms c.args.index.now) (map query_data c.loop-line.queries) c.loop-line.line-iterator c.in-None.ensures.steps.0
