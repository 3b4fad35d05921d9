use Rattle.shard_search.proofs.Cursors.{over_is, turns}
use Rattle.shard_search.proofs.shards.Shards.ready.Goals as goal

pub returns-then-cursor-clause-some : goal.returns-then-cursor-clause-some
returns-then-cursor-clause-some c = λ docs leaves some. absurd (some (over_is c.args.self.now c.args.cursor docs leaves c.if-cursor-gt0.false c.if-cursor.true))

pub returns-clause-leaves : goal.returns-clause-leaves
returns-clause-leaves c = λ docs leaves. turns c.args.self.now c.args.cursor docs leaves c.begin.result c.if-cursor-gt0.false c.begin.ensures.leaves
