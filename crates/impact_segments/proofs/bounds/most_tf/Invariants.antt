use Rattle.std.proofs.Common.{◌≡◌, ℕ, ◌<◌, ◌≤◌, ◌^◌, drop, fold, max}
use Rattle.jass_base.specs.declared.posting.Posting.{Posting}
use Rattle.impact_segments.specs.Bounds.{most_tf}
use Rattle.impact_segments.proofs.bounds.most_tf.Given as goal

abbrev pub invariant-loop-posting : goal.invariant-loop-posting
invariant-loop-posting l = record {
  value : fold (λ (most : ℕ) (p : Posting). max most p.tf) l.most (drop l.posting-index l.postings) ≡ most_tf l.postings;
  some : 1 ≤ l.most;
  limit : l.most < 2 ^ 31;
}
