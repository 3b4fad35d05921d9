use Rattle.std.proofs.Common.{◌≡◌, ◌≤◌, ◌<◌, [], ap, subst, ◌∙◌}
use Rattle.shared_lemmas.proofs.Common.{get_or_default}
use Rattle.shard_search.proofs.NameLists.{inside_behind, name_behind, name_here}
use Rattle.shard_search.specs.Parts.{file_at}
use Rattle.shard_search.specs.Sums.{file_docs}
use Rattle.shard_search.proofs.naming.place_of.Goals as goal

pub returns-then-rest-docs-clause-name : goal.returns-then-rest-docs-clause-name
returns-then-rest-docs-clause-name c =
    let files = c.args.parts.now in
    let i = c.parts.i in
    let docs_are : c.docs-docs.result ≡ file_docs (file_at files i) =
    c.docs-docs.ensures ∙ ap file_docs (c.index-parts-i.is ∙ get_or_default files i c.index-parts-i.result (record { index = record { names = []; terms = [] }; codecs = [] }) c.parts-test.true) in
    c.parts.invariant.same ∙ name_here files i c.parts-test.true c.parts.rest (subst (λ n. c.parts.rest < n) docs_are c.if-rest-docs.true)

pub parts-preserved : goal.parts-preserved
parts-preserved c =
    let files = c.args.parts.now in
    let i = c.parts.i in
    let docs_are : c.docs-docs.result ≡ file_docs (file_at files i) =
    c.docs-docs.ensures ∙ ap file_docs (c.index-parts-i.is ∙ get_or_default files i c.index-parts-i.result (record { index = record { names = []; terms = [] }; codecs = [] }) c.parts-test.true) in
    let high = subst (λ n. n ≤ c.parts.rest) docs_are c.if-rest-docs.false in
    let here = c.parts.invariant in
    rw docs_are (record {
      inside = inside_behind files i c.parts-test.true c.parts.rest here.inside high;
      same = here.same ∙ name_behind files i c.parts-test.true c.parts.rest here.inside high;
    })
