-- Each turn looks at one name.
use Rattle.std.proofs.Common.{rules}
use Rattle.session_desk.proofs.Placing.{named_here, none_so_far}
use Rattle.session_desk.proofs.table.Table.place_of.Goals as goal

pub returns-then-eq : goal.returns-then-eq
returns-then-eq c =
    named_here c.args.self.now.sessions.items c.args.name.now c.as_str.result.now c.loop-place.place c.session-item.result (search rules) (search rules) (search rules) (search rules)

pub loop-place-preserved : goal.loop-place-preserved
loop-place-preserved c =
    none_so_far c.args.self.now.sessions.items c.args.name.now c.as_str.result.now c.loop-place.place c.session-item.result (search rules) (search rules) (search rules) (search rules) c.loop-place.invariant
