-- What one list becomes, as plain data: the segments of its postings, and its term. A list at a time makes the same index as
-- a whole collection in memory.
use Rattle.std.specs.Prelude.{ℕ, List, [], ◌∷◌, length, filter, fold, nat_lt, AllPairs, IsPermutation}
use Rattle.jass_base.specs.declared.posting.Posting.{Posting}
use Rattle.jass_base.specs.Ciff.{ListData, CollectionData}
use Rattle.jass_base.specs.Terms.{BytesRise}
use Rattle.weights.specs.declared.weighting.Rule.{Rule}
use Rattle.weights.specs.declared.quantizing.Bits.{Bits}
use Rattle.weights.specs.declared.quantizing.Range.{Range}
use Rattle.weights.specs.Quantizing.{widened}
use Rattle.ranking_model.specs.Order.{sorted}
use Rattle.index_model.specs.Index.{SegmentData, TermData}
use Rattle.index_model.specs.Grouping.{with_posting}
use Rattle.impact_segments.specs.Collections.{weights_in}
use Rattle.impact_segments.specs.OneList.{pairs_in}
use Rattle.impact_segments.specs.Pairs.{pair_cmp}
use Rattle.impact_segments.specs.declared.doc_impact.DocImpact.{DocImpact}

-- the segments of pairs of a document and an impact, in this order
abbrev pub segments_in : List DocImpact → List SegmentData
segments_in [] = []
segments_in (p ∷ pairs) = with_posting p.impact p.doc (segments_in pairs)

-- the segments of a list's postings by falling impact
unfoldable pub list_segments : Rule → List ℕ → ℕ → Bits → Range → List Posting → List SegmentData
list_segments rule lengths total bits range postings = segments_in (sorted pair_cmp (pairs_in rule lengths total bits range postings))

-- the term of a list
abbrev pub list_term : Rule → List ℕ → ℕ → Bits → Range → ListData → TermData
list_term rule lengths total bits range list = record { term = list.term; segments = list_segments rule lengths total bits range list.postings }

-- the lists that have postings
abbrev pub lists_in_use : List ListData → List ListData
lists_in_use lists = filter (λ (l : ListData). nat_lt 0 (length l.postings)) lists

-- the lists of a collection that have postings, by rising bytes of their terms
pub record AreByTerm (c : CollectionData) (lists : List ListData) : Type 0 where
  pub same : IsPermutation lists (lists_in_use c.lists)
  pub rising : AllPairs (λ (a b : ListData). BytesRise a.term b.term) lists

-- a range, widened by the weights of each of some lists in turn
abbrev pub widened_by : Rule → List ℕ → ℕ → Range → List ListData → Range
widened_by rule lengths total range lists = fold (λ (r : Range) (l : ListData). fold widened r (weights_in rule lengths total l.postings)) range lists
