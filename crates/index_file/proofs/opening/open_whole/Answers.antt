use Rattle.std.proofs.Common.{Ok, Err}
use Rattle.index_file.proofs.Contents.{opens_front}
use Rattle.index_file.proofs.opening.open_whole.Goals as goal

pub returns-in-Ok-from_bytes-clause-exact : goal.returns-in-Ok-from_bytes-clause-exact
returns-in-Ok-from_bytes-clause-exact g c =
    opens_front (g.C.Cabinet.told c.args.files.now) c.args.name.now c.in-Ok.bytes (Ok c.in-Ok-from_bytes.file) c.in-Ok.ensures.content c.in-Ok-from_bytes.ensures.exact

pub returns-in-Err-clause-exact : goal.returns-in-Err-clause-exact
returns-in-Err-clause-exact g c =
    opens_front (g.C.Cabinet.told c.args.files.now) c.args.name.now c.in-Ok.bytes (Err c.in-Err.fault) c.in-Ok.ensures.content c.in-Err.ensures.exact
