use Rattle.std.proofs.Common.{◌≡◌, count_by, take}
use Rattle.accumulator_pages.specs.Adding.{is_touched}
use Rattle.accumulator_pages.specs.Pages.{pages_scores}
use Rattle.accumulator_pages.proofs.pages.Pages.touched.Given as goal

abbrev pub invariant-loop-doc : goal.invariant-loop-doc
invariant-loop-doc l = l.touched ≡ count_by is_touched (take l.doc (pages_scores l.self l.pool))
