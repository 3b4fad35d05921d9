-- Documents whose gaps are spelled one after the other.
use Rattle.std.proofs.Common.{◌≡◌, ℕ, ◌+◌, ◌*◌, ◌<◌, ◌≤◌, List, ◌++◌, length, get_or, take, drop}
use Rattle.jass_base.specs.Gaps.{gaps_from, gaps_of, spelled_gaps}

-- the documents from a place on, and the least that the first may be
pub record Place (docs : List ℕ) (i least : ℕ) : Type 0 where
  pub low : i < length docs → least ≤ get_or docs i 0
  pub few : i ≤ least

abbrev pub text_from : List ℕ → ℕ → ℕ → List ℕ
text_from docs i least = spelled_gaps (gaps_from least (drop i docs))

-- what was put behind the old bytes, and what is gathered to be put next
pub record PutSoFar (docs : List ℕ) (i least : ℕ) (old out gathered : List ℕ) : Type 0 where
  pub place : Place docs i least
  pub text : out ++ gathered ++ text_from docs i least ≡ old ++ spelled_gaps (gaps_of docs)
  pub kept : take (length old) out ≡ old
  pub long : length old ≤ length out

-- what was counted
pub record CountedSoFar (docs : List ℕ) (i least bytes : ℕ) : Type 0 where
  pub place : Place docs i least
  pub count : bytes + length (text_from docs i least) ≡ length (spelled_gaps (gaps_of docs))
  pub few : bytes ≤ 5 * i
