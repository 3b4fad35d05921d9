use Rattle.std.proofs.Common.{[]}
use Rattle.index_write.proofs.Sending.{made, unmade}
use Rattle.index_write.proofs.file.put_file.Goals as goal

pub returns-then-append : goal.returns-then-append
returns-then-append g c =
    unmade g.C.Cabinet c.args.name.now c.args.files.now c.append.new.files c.args.bytes.now c.append.result c.if-append.true (c.append.ensures c.args.files.now [] c.create-failed.ensures)

pub returns : goal.returns
returns g c =
    made g.C.Cabinet c.args.name.now c.args.files.now c.append.new.files c.args.bytes.now c.append.result c.if-append.false (c.append.ensures c.args.files.now [] c.create-failed.ensures)
