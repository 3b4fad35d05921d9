use Rattle.std.proofs.Common.{◌∙◌, ap, sym, [], drop, ◌≡◌, Err, rules}
use Rattle.ciff_read.specs.Private.Places.{message_in, start_data, lists_in, docs_in}
use Rattle.ciff_read.specs.Reading.{lists_at, read_ciff}
use Rattle.ciff_read.proofs.Answering.{refuses, fails_as}
use Rattle.ciff_read.proofs.Files.{file_message_not, file_header_not, file_lists_not, file_docs_not, file_ends, at_last, at_more}
use Rattle.ciff_read.proofs.Sequences.{end_there}
use Rattle.ciff_read.proofs.collection.read_messages.Goals as goal

pub returns-in_err-body-clause-exact : goal.returns-in_err-body-clause-exact
returns-in_err-body-clause-exact c =
    let out : c.from_residual.result ≡ Err c.in_err-body.field-0.0 = search rules in
    rw out (file_message_not c.args.bytes.now c.in_err-body.field-0.0 c.in_err-body.ensures)

pub returns-in_err-head-clause-exact : goal.returns-in_err-head-clause-exact
returns-in_err-head-clause-exact c =
    let out : c.from_residual-in_err-head.result ≡ Err c.in_err-head.field-0.0 = search rules in
    rw out (file_header_not c.args.bytes.now (message_in c.args.bytes.now c.in_ok-body.body) c.in_ok-body.ensures.0 c.in_err-head.field-0.0 c.in_err-head.ensures)

pub returns-in_err-lists-clause-exact : goal.returns-in_err-lists-clause-exact
returns-in_err-lists-clause-exact c =
    let bytes = c.args.bytes.now in
    let body = c.in_ok-body.body in
    let start = start_data c.in_ok-head.head in
    let there = ap (λ n. lists_at start.lists start.docs 0 [] n (drop body.end bytes)) (sym (end_there bytes body c.in_ok-body.ensures.2)) in
    let out : c.from_residual-in_err-lists.result ≡ Err c.in_err-lists.field-0.0 = search rules in
    rw out (file_lists_not bytes (message_in bytes body) c.in_ok-body.ensures.0 start c.in_ok-head.ensures c.in_err-lists.field-0.0 (fails_as c.in_err-lists.field-0.0 _ _ there c.in_err-lists.ensures.exact))

pub returns-in_err-docs-clause-exact : goal.returns-in_err-docs-clause-exact
returns-in_err-docs-clause-exact c =
    let bytes = c.args.bytes.now in
    let body = c.in_ok-body.body in
    let start = start_data c.in_ok-head.head in
    let there = ap (λ n. lists_at start.lists start.docs 0 [] n (drop body.end bytes)) (end_there bytes body c.in_ok-body.ensures.2) ∙ c.in_ok-lists.ensures.exact in
    let out : c.from_residual-in_err-docs.result ≡ Err c.in_err-docs.field-0.0 = search rules in
    rw out (file_docs_not bytes (message_in bytes body) c.in_ok-body.ensures.0 start c.in_ok-head.ensures (lists_in bytes (c.in_ok-lists.lists, c.in_ok-lists.at)) there c.in_err-docs.field-0.0 c.in_err-docs.ensures.exact)

pub returns-then-at-bytes-clause-exact : goal.returns-then-at-bytes-clause-exact
returns-then-at-bytes-clause-exact c =
    let bytes = c.args.bytes.now in
    let body = c.in_ok-body.body in
    let start = start_data c.in_ok-head.head in
    let there = ap (λ n. lists_at start.lists start.docs 0 [] n (drop body.end bytes)) (end_there bytes body c.in_ok-body.ensures.2) ∙ c.in_ok-lists.ensures.exact in
    refuses c.refused.result _ (read_ciff bytes) c.refused.ensures
    (file_ends bytes (message_in bytes body) c.in_ok-body.ensures.0 start c.in_ok-head.ensures (lists_in bytes (c.in_ok-lists.lists, c.in_ok-lists.at)) there (docs_in bytes (c.in_ok-docs.docs, c.in_ok-docs.at)) c.in_ok-docs.ensures.exact ∙ at_more bytes c.in_ok-docs.at _ c.if-at-bytes.true)

pub returns-clause-exact : goal.returns-clause-exact
returns-clause-exact c =
    let bytes = c.args.bytes.now in
    let body = c.in_ok-body.body in
    let start = start_data c.in_ok-head.head in
    let there = ap (λ n. lists_at start.lists start.docs 0 [] n (drop body.end bytes)) (end_there bytes body c.in_ok-body.ensures.2) ∙ c.in_ok-lists.ensures.exact in
    file_ends bytes (message_in bytes body) c.in_ok-body.ensures.0 start c.in_ok-head.ensures (lists_in bytes (c.in_ok-lists.lists, c.in_ok-lists.at)) there (docs_in bytes (c.in_ok-docs.docs, c.in_ok-docs.at)) c.in_ok-docs.ensures.exact ∙ at_last bytes c.in_ok-docs.at _ c.if-at-bytes.false
