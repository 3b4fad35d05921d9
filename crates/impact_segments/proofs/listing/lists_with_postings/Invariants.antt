use Rattle.std.proofs.Common.{◌≡◌, ◌++◌, drop, filter}
use Rattle.impact_segments.specs.Private.Listed.{has_postings, lists_behind}
use Rattle.impact_segments.proofs.listing.lists_with_postings.Given as goal

abbrev pub invariant-loop-list : goal.invariant-loop-list
invariant-loop-list l = lists_behind l.listed.items ++ filter has_postings (drop l.list-index l.lists) ≡ filter has_postings l.lists
