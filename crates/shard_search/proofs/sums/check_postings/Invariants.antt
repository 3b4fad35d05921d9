use Rattle.std.proofs.Common.{◌≡◌, ◌≤◌, take, sum_by}
use Rattle.jass_base.specs.declared.limits.TheConstants.{MOST_POSTINGS}
use Rattle.shard_search.specs.Sums.{file_postings}
use Rattle.shard_search.proofs.sums.check_postings.Given as goal

abbrev pub invariant-parts : goal.invariant-parts
invariant-parts l = record {
  sums : l.sum ≡ sum_by file_postings (take l.i l.parts);
  fits : l.sum ≤ MOST_POSTINGS;
}
