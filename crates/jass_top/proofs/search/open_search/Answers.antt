use Rattle.std.proofs.Common.{◌∷◌, [], ◌≡◌, subst}
use Rattle.jass_top.proofs.Below.{texts_of}
use Rattle.jass_top.specs.Judging.{behind, judge_content}
use Rattle.jass_top.specs.QueryJudging.{judge_queries_until, without_lines}
use Rattle.jass_top.specs.Private.Causes.{Unread}
use Rattle.jass_top.specs.Private.Inputs.{HasInput}
use Rattle.jass_top.specs.Private.SearchRuns.{asked_of}
use Rattle.jass_top.proofs.JudgedSearch.{search_had, search_unread}
use Rattle.jass_top.proofs.search.open_search.Goals as goal

pub returns-in-Ok-open_queries-clause-accepted : goal.returns-in-Ok-open_queries-clause-accepted
returns-in-Ok-open_queries-clause-accepted g c =
    let told = g.C.Cabinet.told c.args.files.now in
    search_had c.args.until c.args.index.now c.args.queries.now c.args.mode told c.in-Ok.file (asked_of c.in-Ok-open_queries.asked) c.in-Ok.ensures.accepted
    (subst (λ t. HasInput (behind (judge_content c.args.queries.now t) (judge_queries_until c.args.until c.args.queries.now c.args.mode (texts_of c.in-Ok.file.index.terms))) (λ lined. without_lines lined ≡ asked_of c.in-Ok-open_queries.asked))
    c.in-Ok.ensures.stays c.in-Ok-open_queries.ensures.accepted)

pub returns-in-Err-open_queries-clause-unread : goal.returns-in-Err-open_queries-clause-unread
returns-in-Err-open_queries-clause-unread g c =
    let told = g.C.Cabinet.told c.args.files.now in
    search_unread c.args.until c.args.index.now c.args.queries.now c.args.mode told c.in-Ok.file (g.C.Cabinet.read_faults c.args.files.now) (g.C.Cabinet.read_faults c.open_index.new.files) (g.C.Cabinet.read_faults c.open_queries.new.files)
    c.in-Err-open_queries.stop c.in-Ok.ensures.accepted c.in-Ok.ensures.later
    (subst (λ t. Unread (c.args.queries.now ∷ []) (behind (judge_content c.args.queries.now t) (judge_queries_until c.args.until c.args.queries.now c.args.mode (texts_of c.in-Ok.file.index.terms)))
    (g.C.Cabinet.read_faults c.open_index.new.files) (g.C.Cabinet.read_faults c.open_queries.new.files) c.in-Err-open_queries.stop) c.in-Ok.ensures.stays c.in-Err-open_queries.ensures.unread)
