use Rattle.std.proofs.Common.{arith}
use Rattle.jass_base.proofs.Gaps.{docs_few}
use Rattle.index_write.proofs.laws.segments_are_small.Goals as goal

pub returns : goal.returns
returns c = record { docs = docs_few; bytes = λ d docs are. omega (arith, docs_few d docs are, c.payloads_have_few_bytes.ensures.few d docs are) }
