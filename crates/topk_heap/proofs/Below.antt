-- The names of the crates below that many proofs of this crate cite, passed on from one place. Declares nothing.
pub use Rattle.accumulator_pages.proofs.Adding.{added-above, length-added, rises}
pub use Rattle.accumulator_pages.proofs.Raising.{raised-all, raised-once, raised-only}
pub use Rattle.accumulator_pages.proofs.Standing.{length-values, view_stays}
pub use Rattle.accumulator_pages.specs.Adding.{added, raised, score_to_pass}
pub use Rattle.accumulator_pages.specs.Pages.{own_chain, own_view, pages_places, pages_scores}
pub use Rattle.accumulator_pages.specs.declared.pages.Pages.{Pages}
pub use Rattle.frame_pool.specs.ChainView.{ChainView, LeavesOthers, LeavesPool, view_places, view_scores}
pub use Rattle.frame_pool.specs.Pool.{PoolView}
pub use Rattle.jass_base.specs.declared.answer.Hit.{Hit}
pub use Rattle.ranking_model.proofs.Candidates.{ascends_take, first_of_candidates, first_part, hits_each, in_hits, in_sorted}
pub use Rattle.ranking_model.proofs.Orders.{rank_same, rank_total}
pub use Rattle.ranking_model.proofs.Sorting.{Ascends, all_sorted, ascends_append, length_sorted, one_order, pairs_sorted, sort_is_sorted, sorted_ascending, sorted_ascends, sorted_is_permutation, sum_by-sorted}
pub use Rattle.ranking_model.specs.Order.{sorted}
pub use Rattle.ranking_model.specs.Scores.{AreHitsOf, first_ranked, hits_from, rank_cmp, runner_up}
