use Rattle.std.proofs.Common.{◌+◌, ◌-◌, ◌*◌, ◌<◌, ◌≤◌, ◌^◌, length, take, vec_capacity}
use Rattle.ciff_read.specs.Private.Places.{gathered_of}
use Rattle.ciff_read.proofs.Runs.{InHand}
use Rattle.ciff_read.proofs.gathered.Gathered.take_run.Given as goal

abbrev pub invariant-run : goal.invariant-run
invariant-run l = record {
  hand : InHand (take l.end l.bytes) l.from l.at l.fn.self.docs l.fn.self.before l.last (gathered_of l.fn.self) l.postings.items;
  room : l.room ≤ vec_capacity l.postings;
  left : l.stop ≤ l.at + 6 * (l.room - length l.postings.items);
  small : l.last < 2 ^ 32;
}

abbrev pub decreases-run : goal.decreases-run
decreases-run l = l.stop - l.at
