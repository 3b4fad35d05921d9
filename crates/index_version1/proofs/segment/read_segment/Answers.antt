use Rattle.shared_lemmas.proofs.Common.{arith, ap, sym, subst, ◌∙◌, ◌==◌, ◌<◌, length, slice_index, All, list_any}
use Rattle.index_version1.specs.Private.Tables.{head_data}
use Rattle.index_version1.proofs.Marking.{shares_marked, segment_twice, segment_read}
use Rattle.index_version1.proofs.segment.read_segment.Goals as goal

pub returns-then-has_marked-clause-exact : goal.returns-then-has_marked-clause-exact
returns-then-has_marked-clause-exact c = λ earlier marks.
    let docs = c.in_ok-docs.docs in
    let seen = c.args.seen.now in
    let below : All (λ doc. doc < length seen) docs = subst (λ n. All (λ doc. doc < n) docs) (sym c.requires.seen) c.in_ok-docs.ensures.docs.below in
    let shared = sym (shares_marked seen docs c.args.mark earlier marks below) ∙ ap (list_any (λ doc. slice_index seen doc == c.args.mark)) (sym c.as_slice.ensures) ∙ sym c.has_marked.ensures ∙ c.if-has_marked.true in
    segment_twice c.args.bytes.now c.args.d earlier (head_data c.args.head) c.args.at docs c.refused-then-has_marked.result c.refused-then-has_marked.ensures (omega arith) c.in_ok-docs.ensures.exact shared

pub returns-clause-exact : goal.returns-clause-exact
returns-clause-exact c = λ earlier marks.
    let docs = c.in_ok-docs.docs in
    let seen = c.args.seen.now in
    let below : All (λ doc. doc < length seen) docs = subst (λ n. All (λ doc. doc < n) docs) (sym c.requires.seen) c.in_ok-docs.ensures.docs.below in
    let alone = sym (shares_marked seen docs c.args.mark earlier marks below) ∙ ap (list_any (λ doc. slice_index seen doc == c.args.mark)) (sym c.as_slice.ensures) ∙ sym c.has_marked.ensures ∙ c.if-has_marked.false in
    segment_read c.args.bytes.now c.args.d earlier (head_data c.args.head) c.args.at docs (omega arith) c.in_ok-docs.ensures.exact alone
