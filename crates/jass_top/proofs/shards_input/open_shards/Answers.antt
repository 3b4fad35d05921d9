use Rattle.std.proofs.Common.{List, ◌≡◌, ◌∷◌, [], ℕ, ap, subst, sym, take, ◌∙◌}
use Rattle.jass_top.proofs.Below.{texts_of, IndexData}
use Rattle.shard_search.specs.Sums.{indexes_of}
use Rattle.shard_search.specs.Union.{union_index}
use Rattle.jass_words.specs.Words.{texts}
use Rattle.jass_top.specs.Judging.{Accepted, judge_content}
use Rattle.jass_top.specs.QueryJudging.{judge_queries, without_lines}
use Rattle.jass_top.specs.Private.Causes.{Unheld, Unread}
use Rattle.jass_top.specs.Private.Inputs.{AcceptsSuch, HasInput}
use Rattle.jass_top.specs.Private.SearchRuns.{asked_of}
use Rattle.jass_top.proofs.JudgedQueries.{as_asked}
use Rattle.jass_top.proofs.JudgedShards.{asked_unheld, content_unread, parts_unread, shards_had, union_unheld}
use Rattle.jass_top.proofs.shards_input.open_shards.Goals as goal

pub returns-in-Err-clause-unread : goal.returns-in-Err-clause-unread
returns-in-Err-clause-unread g c =
    parts_unread (texts c.args.indexes.now) c.args.queries.now c.args.mode (g.C.Cabinet.told c.args.files.now) (g.C.Cabinet.read_faults c.args.files.now) (g.C.Cabinet.read_faults c.open_parts.new.files) c.in-Err.stop c.in-Err.ensures.unread

pub returns-in-Err-file_front-clause-unread : goal.returns-in-Err-file_front-clause-unread
returns-in-Err-file_front-clause-unread g c =
    content_unread (texts c.args.indexes.now) c.args.queries.now c.args.mode (g.C.Cabinet.told c.args.files.now) (indexes_of c.in-Ok.parts) (g.C.Cabinet.read_faults c.args.files.now) (g.C.Cabinet.read_faults c.open_parts.new.files)
    (g.C.Cabinet.read_faults c.file_front.new.files) c.in-Err-file_front.stop c.in-Ok.ensures.accepted c.in-Ok.ensures.later
    (subst (λ told. Unread (c.args.queries.now ∷ []) (judge_content c.args.queries.now told) (g.C.Cabinet.read_faults c.open_parts.new.files) (g.C.Cabinet.read_faults c.file_front.new.files) c.in-Err-file_front.stop) c.in-Ok.ensures.stays
    c.in-Err-file_front.ensures.unread)

pub returns-in-Err-unite-clause-unread : goal.returns-in-Err-unite-clause-unread
returns-in-Err-unite-clause-unread g c =
    union_unheld (texts c.args.indexes.now) c.args.queries.now c.args.mode (g.C.Cabinet.told c.args.files.now) (indexes_of c.in-Ok.parts) (λ content. c.in-Ok-file_front.bytes ≡ take 268435457 content) (g.C.Cabinet.read_faults c.args.files.now)
    (g.C.Cabinet.read_faults c.file_front.new.files) c.in-Err-unite.stop c.in-Ok.ensures.accepted
    (subst (λ told. AcceptsSuch (judge_content c.args.queries.now told) (λ content. c.in-Ok-file_front.bytes ≡ take 268435457 content)) c.in-Ok.ensures.stays c.in-Ok-file_front.ensures.accepted) c.in-Err-unite.ensures.unheld

pub returns-in-Ok-queries_in-clause-accepted : goal.returns-in-Ok-queries_in-clause-accepted
returns-in-Ok-queries_in-clause-accepted g c =
    let index : IndexData = union_index c.in-Ok-unite.union in
    shards_had (texts c.args.indexes.now) c.args.queries.now c.args.mode (g.C.Cabinet.told c.args.files.now) (indexes_of c.in-Ok.parts) index c.in-Ok-file_front.bytes (asked_of c.in-Ok-queries_in.found) c.in-Ok.ensures.accepted
    (c.in-Ok-unite.ensures.accepted ∙ ap (λ (u : IndexData). Accepted u) (sym c.in-Ok-unite.ensures.union))
    (subst (λ told. AcceptsSuch (judge_content c.args.queries.now told) (λ content. c.in-Ok-file_front.bytes ≡ take 268435457 content)) c.in-Ok.ensures.stays c.in-Ok-file_front.ensures.accepted)
    (subst (λ (bytes : List ℕ). HasInput (judge_queries c.args.queries.now c.args.mode (texts_of index.terms) bytes) (λ lined. without_lines lined ≡ asked_of c.in-Ok-queries_in.found)) c.as_slice.ensures (as_asked c.in-Ok-queries_in.ensures.accepted))

pub returns-clause-unread : goal.returns-clause-unread
returns-clause-unread g c =
    let index : IndexData = union_index c.in-Ok-unite.union in
    asked_unheld (texts c.args.indexes.now) c.args.queries.now c.args.mode (g.C.Cabinet.told c.args.files.now) (indexes_of c.in-Ok.parts) index c.in-Ok-file_front.bytes (g.C.Cabinet.read_faults c.args.files.now) (g.C.Cabinet.read_faults c.open_parts.new.files)
    (g.C.Cabinet.read_faults c.file_front.new.files) c.in-Err-queries_in.stop c.in-Ok.ensures.accepted c.in-Ok.ensures.later
    (c.in-Ok-unite.ensures.accepted ∙ ap (λ (u : IndexData). Accepted u) (sym c.in-Ok-unite.ensures.union))
    (subst (λ told. AcceptsSuch (judge_content c.args.queries.now told) (λ content. c.in-Ok-file_front.bytes ≡ take 268435457 content)) c.in-Ok.ensures.stays c.in-Ok-file_front.ensures.accepted)
    (subst (λ (bytes : List ℕ). Unheld (c.args.queries.now ∷ []) (judge_queries c.args.queries.now c.args.mode (texts_of index.terms) bytes) c.in-Err-queries_in.stop) c.as_slice.ensures c.in-Err-queries_in.ensures.unheld)
