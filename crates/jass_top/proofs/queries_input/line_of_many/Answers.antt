use Rattle.std.proofs.Common.{◌≡◌, ◌+◌, ℕ, nat_lt, true, false, length, drop, sym, ap, ◌∙◌, arith}
use Rattle.shared_lemmas.proofs.Common.{nat_tests}
use Rattle.std.specs.Option.{option_map}
use Rattle.text_lines.specs.Lines.{line_data}
use Rattle.jass_top.proofs.Below.{query_data}
use Rattle.jass_top.specs.QueryJudging.{LineQuery}
use Rattle.jass_top.specs.Private.SearchRuns.{asked_of}
use Rattle.jass_top.proofs.ManyTerms.{few, first_many, many, query_at, some_items}
use Rattle.jass_top.proofs.queries_input.line_of_many.Goals as goal

pub returns-then-len : goal.returns-then-len
returns-then-len c =
    let place : ℕ = c.loop-line.place in let query = c.in-Some-get.query.now in let line = line_data c.in-Some.line in
    let long : nat_lt 64 (length query.terms) ≡ true = grind (arith, nat_tests, c.if-len.true, c.len.ensures) in
    let here = query_at c.args.queries.now place query c.in-Some-get.ensures.lookup.3.0 (c.in-Some-get.ensures.lookup.3.1 query) in
    let some = many line c.next.new.self (query_data query) (drop place (asked_of c.args.queries.now)) (drop (place + 1) (asked_of c.args.queries.now)) (some_items c.in-Some.line.bytes.now c.is_empty.result c.is_empty.ensures c.if-is_empty.false) here long in
    sym (ap (option_map (λ (asked : LineQuery). asked.line)) (sym c.loop-line.invariant.left ∙ ap (λ lines. first_many lines (drop place (asked_of c.args.queries.now))) c.in-Some.ensures.steps ∙ some))

pub loop-line-preserved : goal.loop-line-preserved
loop-line-preserved c =
    let place : ℕ = c.loop-line.place in let query = c.in-Some-get.query.now in let line = line_data c.in-Some.line in
    let short : nat_lt 64 (length query.terms) ≡ false = grind (arith, nat_tests, c.if-len.false, c.len.ensures) in
    let here = query_at c.args.queries.now place query c.in-Some-get.ensures.lookup.3.0 (c.in-Some-get.ensures.lookup.3.1 query) in
    let less = few line c.next.new.self (query_data query) (drop place (asked_of c.args.queries.now)) (drop (place + 1) (asked_of c.args.queries.now)) (some_items c.in-Some.line.bytes.now c.is_empty.result c.is_empty.ensures c.if-is_empty.false) here short in
    record {
      left = sym less ∙ sym (ap (λ lines. first_many lines (drop place (asked_of c.args.queries.now))) c.in-Some.ensures.steps) ∙ c.loop-line.invariant.left;
      within = omega (arith, c.in-Some-get.ensures.lookup.3.0);
    }
