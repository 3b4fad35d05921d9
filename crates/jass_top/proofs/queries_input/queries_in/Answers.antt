use Rattle.shared_lemmas.proofs.Common.{◌≡◌, ℕ, List, Err, refl, sym, subst, inl}
use Rattle.jass_top.proofs.Below.{texts_of, QueryFault, read_query_file}
use Rattle.query_reader.specs.Queries.{QueryData}
use Rattle.query_reader.specs.Refusals.{Fails}
use Rattle.jass_top.specs.declared.stop.Place.TheVariants.{Line}
use Rattle.jass_top.specs.Judging.{Refuses, Shows}
use Rattle.jass_top.specs.QueryJudging.{judge_queries}
use Rattle.jass_top.proofs.JudgedQueries.{queries_read, refusal_read}
use Rattle.jass_top.proofs.queries_input.queries_in.Goals as goal

pub returns-in-Ok-clause-accepted : goal.returns-in-Ok-clause-accepted
returns-in-Ok-clause-accepted g c =
    queries_read c.query_files_are_read.ensures.read c.args.name.now c.args.bytes.now c.args.mode (texts_of (g.S.Source.index c.args.source.now).terms) c.in-Ok.queries c.in-Ok.ensures.file

pub returns-in-Err-Refused-clause-unheld : goal.returns-in-Err-Refused-clause-unheld
returns-in-Err-Refused-clause-unheld g c =
    let terms : List (List ℕ) = texts_of (g.S.Source.index c.args.source.now).terms in
    let read : read_query_file c.args.bytes.now c.args.mode terms ≡ Err c.in-Err-Refused.refusal
    = subst (λ (f : QueryFault). Fails {Y = List QueryData} f (read_query_file c.args.bytes.now c.args.mode terms)) c.in-Err-Refused.field-0-is c.in-Err-Refused.ensures.file in (
      inl refl,
      subst (λ (line : ℕ). Shows (judge_queries c.args.name.now c.args.mode terms c.args.bytes.now) (Refuses c.args.name.now c.number.result (Line line))) (sym c.from.ensures)
          (refusal_read c.args.name.now c.args.bytes.now c.args.mode terms c.in-Err-Refused.refusal c.number.result read c.number.ensures),
    )
