-- What private functions say of gaps that bytes spell from a place on. No public contract cites it.
use Rattle.std.specs.Prelude.{ℕ, ◌≡◌, ◌≤◌, ◌<◌, ◌^◌, List, ◌++◌, length, drop, All, Result, Ok}
use Rattle.jass_base.specs.Gaps.{◌>>=◌, spelled_gaps}
use Rattle.jass_base.specs.declared.payload_fault.PayloadFault.{PayloadFault}

-- the bytes from a place on spell these gaps, so many at least
pub record IsRun (bytes : List ℕ) (at count : ℕ) (gaps : List ℕ) : Type 0 where
  pub within : at ≤ length bytes
  pub spelled : drop at bytes ≡ spelled_gaps gaps
  pub small : All (λ gap. gap < 2 ^ 28) gaps
  pub enough : count ≤ length gaps

-- the whole is some documents and then the part, or the part's fault
pub record Continues (whole part : Result (List ℕ) PayloadFault) : Type 0 where
  pub front : List ℕ
  pub is : whole ≡ (part >>= λ docs. Ok (front ++ docs))
