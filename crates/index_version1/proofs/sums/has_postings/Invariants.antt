use Rattle.std.proofs.Common.{◌≡◌, ◌+◌, take, map}
use Rattle.index_layout.specs.Heads.{head_postings}
use Rattle.index_version1.specs.Private.Tables.{term_heads}
use Rattle.index_version1.proofs.sums.has_postings.Given as goal

abbrev pub invariant-loop-term : goal.invariant-loop-term
invariant-loop-term l = l.left + head_postings (map term_heads (take l.term-index l.terms)) ≡ l.postings
