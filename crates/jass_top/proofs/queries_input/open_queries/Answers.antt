use Rattle.std.proofs.Common.{ℕ, List, [], ◌∷◌, ◌≡◌, subst}
use Rattle.jass_top.proofs.Below.{texts_of}
use Rattle.jass_top.specs.Judging.{judge_content}
use Rattle.jass_top.specs.QueryJudging.{judge_queries_until, without_lines}
use Rattle.jass_top.specs.Private.Causes.{Unheld}
use Rattle.jass_top.specs.Private.Inputs.{HasInput}
use Rattle.jass_top.specs.Private.SearchRuns.{asked_of}
use Rattle.jass_top.proofs.Behind.{unread_first}
use Rattle.jass_top.proofs.JudgedQueries.{queries_had, queries_unheld}
use Rattle.jass_top.proofs.queries_input.open_queries.Goals as goal

pub returns-in-Err-clause-unread : goal.returns-in-Err-clause-unread
returns-in-Err-clause-unread g c =
    unread_first c.args.name.now [] (judge_content c.args.name.now (g.C.Cabinet.told c.args.files.now)) (judge_queries_until c.args.until c.args.name.now c.args.mode (texts_of (g.S.Source.index c.args.source.now).terms))
    (g.C.Cabinet.read_faults c.args.files.now) (g.C.Cabinet.read_faults c.file_front.new.files) c.in-Err.stop c.in-Err.ensures.unread

pub returns-in-Ok-queries_until-clause-accepted : goal.returns-in-Ok-queries_until-clause-accepted
returns-in-Ok-queries_until-clause-accepted g c =
    let terms : List (List ℕ) = texts_of (g.S.Source.index c.args.source.now).terms in
    queries_had (g.C.Cabinet.told c.args.files.now) c.args.name.now c.in-Ok.bytes c.args.mode c.args.until terms (λ lined. without_lines lined ≡ asked_of c.in-Ok-queries_until.queries) c.in-Ok.ensures.accepted
    (subst (λ (bytes : List ℕ). HasInput (judge_queries_until c.args.until c.args.name.now c.args.mode terms bytes) (λ lined. without_lines lined ≡ asked_of c.in-Ok-queries_until.queries)) c.as_slice.ensures c.in-Ok-queries_until.ensures.accepted)

pub returns-clause-unread : goal.returns-clause-unread
returns-clause-unread g c =
    let terms : List (List ℕ) = texts_of (g.S.Source.index c.args.source.now).terms in
    queries_unheld (g.C.Cabinet.told c.args.files.now) c.args.name.now c.in-Ok.bytes c.args.mode c.args.until terms (g.C.Cabinet.read_faults c.args.files.now) (g.C.Cabinet.read_faults c.file_front.new.files) c.in-Err-queries_until.stop
    c.in-Ok.ensures.accepted (subst (λ (bytes : List ℕ). Unheld (c.args.name.now ∷ []) (judge_queries_until c.args.until c.args.name.now c.args.mode terms bytes) c.in-Err-queries_until.stop) c.as_slice.ensures c.in-Err-queries_until.ensures.unheld)
