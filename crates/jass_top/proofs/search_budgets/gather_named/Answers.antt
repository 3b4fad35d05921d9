use Rattle.std.proofs.Common.{◌<◌, ℕ, List, All, length, subst, sym}
use Rattle.jass_base.specs.declared.answer.Hit.{Hit}
use Rattle.ranking_model.specs.Report.{run_lines, tag_of}
use Rattle.jass_top.proofs.Below.{Gathers, WriteFault}
use Rattle.jass_top.proofs.search_budgets.gather_named.Goals as goal

pub gather_answer-requires : goal.gather_answer-requires
gather_answer-requires g c =
    subst (λ (names : List (List ℕ)). All (λ (hit : Hit). hit.doc < length names) c.args.hits.now) (sym c.tells_its_index.ensures.names) c.requires

pub returns : goal.returns
returns g c =
    subst (λ (names : List (List ℕ)). Gathers {T = Unit {0}} {E = WriteFault} g.R.Sink.written g.R.Sink.faults g.R.Sink.rest c.args.run.now c.gather_answer.new.out c.args.run_buffer.now c.gather_answer.new.buffer
    (run_lines names c.args.id.now (tag_of c.args.tag.now c.args.part) 1 c.args.hits.now) c.gather_answer.result) c.tells_its_index.ensures.names c.gather_answer.ensures
