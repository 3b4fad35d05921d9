-- What a command meets, by what it takes, beside anything.
use Rattle.std.specs.Prelude.{ℕ}
use Rattle.jass_base.specs.declared.cabinet.Cabinet as cabinet
use Rattle.jass_base.specs.declared.feed.Feed as feed
use Rattle.jass_base.specs.declared.sink.Sink as sink
use Rattle.jass_top.specs.Worlds.{Outer}

abbrev pub with_output : {O : Type 0} → sink.Ghosts O → O → Outer → Outer
with_output o out beside =
    record beside { written = o.written out; out_faults = o.faults out; out_rest = o.rest out }

abbrev pub with_files : {C : Type 0} → cabinet.Ghosts C → C → Outer → Outer
with_files c files beside =
    record beside { told = c.told files; read_faults = c.read_faults files; write_faults = c.write_faults files }

abbrev pub with_feed : {I : Type 0} → feed.Ghosts I → I → Outer → Outer
with_feed i input beside = record beside { left = i.left input; feed_faults = i.faults input }

abbrev pub with_steps : ℕ → Outer → Outer
with_steps steps beside = record beside { steps = steps }
