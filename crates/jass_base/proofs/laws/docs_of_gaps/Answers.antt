use Rattle.jass_base.proofs.Gaps.{length-docs_from, rising, from_least, rises, below_room, room_below, docs_from-append}
use Rattle.std.proofs.Common.{arith}
use Rattle.jass_base.specs.Gaps.{docs_from}
use Rattle.jass_base.proofs.laws.docs_of_gaps.Goals as goal

pub returns : goal.returns
returns c = record {
  count = length-docs_from;
  rising = λ least gaps. rising least (docs_from least gaps) (rises least gaps);
  from_least = λ least gaps. from_least least least (docs_from least gaps) (rises least gaps) (omega arith);
  below = λ d least gaps start. (below_room d least gaps start, room_below d least gaps);
  parts = docs_from-append;
}
