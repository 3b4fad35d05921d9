-- Four parts go to the file one after the other.
use Rattle.std.proofs.Common.{◌++◌, [], subst, ◌∙◌}
use Rattle.shared_lemmas.proofs.Common.{append_assoc}
use Rattle.index_write.specs.Private.Pieces.{IsSent}
use Rattle.index_write.proofs.Sending.{made, unmade}
use Rattle.index_write.proofs.whole.put_parts.Goals as goal

pub returns-then-append_blocks : goal.returns-then-append_blocks
returns-then-append_blocks g c =
    let first = c.args.first.now in
    let names = c.args.names.now in
    let terms = c.args.terms.now.bytes in
    let payloads = c.args.payloads.now in
    let whole = first ++ (names ++ (terms ++ payloads)) in
    unmade g.C.Cabinet c.args.name.now c.args.files.now c.append_blocks.new.files whole c.append_blocks.result c.if-append_blocks.true
    (subst (IsSent g.C.Cabinet c.args.files.now c.append_blocks.new.files c.args.name.now c.append_blocks.result) (append_assoc (first ++ names) terms payloads ∙ append_assoc first names (terms ++ payloads))
    (c.append_blocks.ensures c.args.files.now ((first ++ names) ++ terms) (c.append-failed-3.ensures c.args.files.now (first ++ names) (c.append-failed-2.ensures c.args.files.now first (c.append-failed.ensures c.args.files.now [] c.create-failed.ensures)))))

pub returns : goal.returns
returns g c =
    let first = c.args.first.now in
    let names = c.args.names.now in
    let terms = c.args.terms.now.bytes in
    let payloads = c.args.payloads.now in
    let whole = first ++ (names ++ (terms ++ payloads)) in
    made g.C.Cabinet c.args.name.now c.args.files.now c.append_blocks.new.files whole c.append_blocks.result c.if-append_blocks.false
    (subst (IsSent g.C.Cabinet c.args.files.now c.append_blocks.new.files c.args.name.now c.append_blocks.result) (append_assoc (first ++ names) terms payloads ∙ append_assoc first names (terms ++ payloads))
    (c.append_blocks.ensures c.args.files.now ((first ++ names) ++ terms) (c.append-failed-3.ensures c.args.files.now (first ++ names) (c.append-failed-2.ensures c.args.files.now first (c.append-failed.ensures c.args.files.now [] c.create-failed.ensures)))))
