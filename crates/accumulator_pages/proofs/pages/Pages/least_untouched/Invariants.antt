use Rattle.std.proofs.Common.{◌≢◌, ℕ, ◌*◌, ◌<◌, get_or}
use Rattle.accumulator_pages.specs.Pages.{docs_of, pages_scores}
use Rattle.accumulator_pages.proofs.pages.Pages.least_untouched.Given as goal

abbrev pub invariant-loop-page : goal.invariant-loop-page
invariant-loop-page l = (doc : ℕ) → doc < 256 * l.page → doc < docs_of l.self → get_or (pages_scores l.self l.pool) doc 0 ≢ 0
