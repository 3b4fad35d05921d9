use Rattle.std.proofs.Common.{◌≡◌, ◌-◌, ℕ, List, length}
use Rattle.segment_codecs.specs.Giving.{Gives}
use Rattle.segment_codecs.proofs.Blocks.{ReadSoFar}
use Rattle.segment_codecs.proofs.handing.read_docs.Given as goal

abbrev pub invariant-parts : goal.invariant-parts
invariant-parts l = record {
  read : (docs : List ℕ) → Gives l.fn.cursor l.bytes docs → length docs ≡ l.count → ReadSoFar (Gives l.cursor l.bytes) l.filled docs l.out;
  long : length l.out ≡ length l.fn.out;
}

abbrev pub decreases-parts : goal.decreases-parts
decreases-parts l = l.count - l.filled
