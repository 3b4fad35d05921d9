-- What heads count, gathered while they are read.
use Rattle.std.specs.Prelude.{◌≡◌, List}
use Rattle.std.specs.List.{sum_by}
use Rattle.index_layout.specs.Heads.{HeadData, greatest_of}
use Rattle.index_file.specs.declared.sums.Sums.{Sums}

-- the sums of heads
pub record AreSums (sums : Sums) (heads : List HeadData) : Type 0 where
  pub postings : sums.postings ≡ sum_by (λ (h : HeadData). h.count) heads
  pub greatest : sums.greatest ≡ greatest_of heads
