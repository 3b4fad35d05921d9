-- The cursor gives the rest of the documents.
use Rattle.std.proofs.Common.{ℕ, List}
use Rattle.index_file.specs.Giving.{Gives}
use Rattle.format_tests.proofs.head_bounds.is_read.Given as goal

abbrev pub invariant-blocks-2 : goal.invariant-blocks-2
invariant-blocks-2 g l = (rest : List ℕ) × Gives l.file l.cursor rest
