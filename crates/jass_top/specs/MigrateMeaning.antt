-- What `migrate` means: the index of a file of version 1 as an index file, and its totals on the output.
use Rattle.std.specs.Prelude.{List, ℕ}
use Rattle.jass_top.specs.IndexJudging.{judge_old}
use Rattle.jass_top.specs.MakingMeaning.{making_meaning}
use Rattle.jass_top.specs.Meanings.{Meaning}

abbrev pub migrate_meaning : List ℕ → List ℕ → Meaning
migrate_meaning from to = making_meaning from to (judge_old from) (λ index. index)
