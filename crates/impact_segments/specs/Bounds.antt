-- Whether a list can widen a range, by its number of postings and its greatest term frequency: BM25 rises with the frequency
-- and falls with the norm.
use Rattle.std.specs.Prelude.{ℕ, ◌||◌, max, Bool, List, fold, nat_lt}
use Rattle.jass_base.specs.declared.posting.Posting.{Posting}
use Rattle.weights.specs.declared.weighting.Rule.{Rule}
use Rattle.weights.specs.declared.weighting.Rule.TheVariants.{Tf, Bm25}
use Rattle.weights.specs.declared.quantizing.Range.{Range}
use Rattle.weights.specs.Weighting.{idf, saturated}

-- the greatest term frequency of some postings, and 1 where there are none
abbrev pub most_tf : List Posting → ℕ
most_tf postings = fold (λ (most : ℕ) (p : Posting). max most p.tf) 1 postings

-- the weight of a posting whose term is so rare, in a document of this norm
abbrev pub weight_at : Rule → ℕ → ℕ → ℕ → ℕ
weight_at Tf rare tf norm = tf
weight_at Bm25 rare tf norm = max 1 (saturated rare tf norm)

-- the least and the greatest weight that a list of so many postings can have: of frequency 1 at the greatest norm, and of its greatest frequency at the least norm
abbrev pub lightest : Rule → ℕ → ℕ → Range → ℕ
lightest rule docs count norms = weight_at rule (idf docs count) 1 norms.greatest

abbrev pub heaviest : Rule → ℕ → ℕ → ℕ → Range → ℕ
heaviest rule docs count most norms = weight_at rule (idf docs count) most norms.least

-- a list of more postings than documents can widen each range, another one a range that doesn't hold both of these weights
abbrev pub can_widen : Rule → ℕ → ℕ → ℕ → Range → Range → Bool
can_widen rule docs count most norms range =
    nat_lt docs count || nat_lt (lightest rule docs count norms) range.least || nat_lt range.greatest (heaviest rule docs count most norms)
