use Rattle.std.proofs.Common.{◌≡◌, drop, map, max}
use Rattle.index_layout.specs.Heads.{greatest_of}
use Rattle.index_version1.specs.Private.Tables.{head_data}
use Rattle.index_version1.proofs.sums.greatest_with.Given as goal

abbrev pub invariant-loop-head : goal.invariant-loop-head
invariant-loop-head l = max (greatest_of (map head_data (drop l.head-index l.heads))) l.greatest ≡ max (greatest_of (map head_data l.heads)) l.impact
