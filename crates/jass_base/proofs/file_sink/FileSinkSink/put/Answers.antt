use Rattle.std.proofs.Common.{◌∷◌, ap}
use Rattle.jass_base.proofs.Sinks.{puts, rest_stays}
use Rattle.jass_base.proofs.file_sink.FileSinkSink.put.Goals as goal

pub returns-clause-bytes : goal.returns-clause-bytes
returns-clause-bytes g c = puts (g.C.Cabinet.told c.args.self.now.files.now) (g.C.Cabinet.told c.append.new.self) c.args.self.now.name.now c.args.bytes.now c.append.result c.append.ensures.content

pub returns-clause-stays : goal.returns-clause-stays
returns-clause-stays g c =
    let place = c.args.self.now.files.ghost_name ∷ c.args.self.now.name.now in
    ap (λ others. record { place = place; files = others }) (rest_stays (g.C.Cabinet.told c.args.self.now.files.now) (g.C.Cabinet.told c.append.new.self) c.args.self.now.name.now c.args.bytes.now c.append.result c.append.ensures.content)
