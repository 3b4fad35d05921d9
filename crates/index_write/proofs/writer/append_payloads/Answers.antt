-- The payloads are appended where the heads are the kept ones.
use Rattle.std.proofs.Common.{◌++◌, ◌∙◌, ap, map, sym}
use Rattle.index_write.proofs.Below.{segment_data}
use Rattle.index_write.specs.Chosen.{chosen_heads, chosen_payloads, head_data}
use Rattle.index_write.proofs.Begun.{changed, continued, not_appended, not_stored}
use Rattle.index_write.proofs.writer.append_payloads.Goals as goal

pub put_payloads-requires-clause-heads : goal.put_payloads-requires-clause-heads
put_payloads-requires-clause-heads g c = sym (c.changes_are_found.ensures.none (map head_data c.args.heads.now) (chosen_heads c.args.d (map segment_data c.args.segments.now)) c.in-Ok.ensures)

pub returns-in-Err : goal.returns-in-Err
returns-in-Err g c =
    let kept = map head_data c.args.heads.now in
    let segments = map segment_data c.args.segments.now in
    let found = chosen_heads c.args.d segments in
    let part = chosen_payloads c.args.d segments in
    changed g.C.Cabinet c.args.files.now c.args.name.now kept found part c.in-Err.change c.in-Err.ensures

pub returns-in-Err-put_payloads : goal.returns-in-Err-put_payloads
returns-in-Err-put_payloads g c =
    let kept = map head_data c.args.heads.now in
    let segments = map segment_data c.args.segments.now in
    let found = chosen_heads c.args.d segments in
    let part = chosen_payloads c.args.d segments in
    not_stored g.C.Cabinet c.args.files.now c.args.name.now kept found part

pub returns-in-Ok-append : goal.returns-in-Ok-append
returns-in-Ok-append g c =
    let kept = map head_data c.args.heads.now in
    let segments = map segment_data c.args.segments.now in
    let found = chosen_heads c.args.d segments in
    let part = chosen_payloads c.args.d segments in
    continued g.C.Cabinet c.args.files.now c.append.new.self c.args.name.now kept found c.as_slice.result.now part (c.as_slice.ensures ∙ c.in-Ok-put_payloads.ensures ∙ ap (λ xs. xs ++ part) c.truncate.ensures) c.in-Ok-append.ensures.cause.later c.in-Ok-append.ensures.others
    (c.changes_are_found.ensures.none kept found c.in-Ok.ensures) c.in-Ok-append.ensures.content

pub returns-in-Err-append : goal.returns-in-Err-append
returns-in-Err-append g c =
    let kept = map head_data c.args.heads.now in
    let segments = map segment_data c.args.segments.now in
    let found = chosen_heads c.args.d segments in
    let part = chosen_payloads c.args.d segments in
    not_appended g.C.Cabinet c.args.files.now c.append.new.self c.args.name.now kept found c.as_slice.result.now part (c.as_slice.ensures ∙ c.in-Ok-put_payloads.ensures ∙ ap (λ xs. xs ++ part) c.truncate.ensures) c.in-Err-append.ensures.cause.later c.in-Err-append.ensures.others
    c.in-Ok.ensures c.in-Err-append.ensures.content c.in-Err-append.ensures.cause.failed
