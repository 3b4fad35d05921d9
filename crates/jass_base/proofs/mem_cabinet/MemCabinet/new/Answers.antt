use Rattle.std.proofs.Common.{Some, ap}
use Rattle.jass_base.proofs.FilesOf.{files_of-empty}
use Rattle.jass_base.proofs.mem_cabinet.MemCabinet.new.Goals as goal

pub returns-clause-told : goal.returns-clause-told
returns-clause-told c = ap Some (files_of-empty c.new.result c.new.ensures.empty)
