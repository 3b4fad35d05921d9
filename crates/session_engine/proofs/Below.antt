-- The names of the crates below that many proofs of this crate cite, passed on from one place. Declares nothing.
pub use Rattle.accumulator_pages.specs.Adding.{page_count}
pub use Rattle.accumulator_pages.specs.Pages.{HasRoomFor}
pub use Rattle.final_certificate.specs.Rule.{grade_by, report_by}
pub use Rattle.frame_pool.specs.ChainView.{ChainView, LeavesOthers, LeavesPool, chain_view}
pub use Rattle.frame_pool.specs.Pool.{ChainEntry, PoolView, Promises}
pub use Rattle.index_file.specs.Sources.{HandsOut, piece_count, piece_docs}
pub use Rattle.index_file.specs.Places.{segment_at}
pub use Rattle.index_file.specs.declared.piece.Piece.{Piece}
pub use Rattle.index_layout.specs.View.{index_postings, term_postings}
pub use Rattle.index_model.proofs.FlatOrder.{term_kept}
pub use Rattle.index_model.specs.Flat.{numbered_flat, numbered_from, segment_entries, term_entries}
pub use Rattle.index_model.specs.Index.{FallsTo, IndexData, IsWellFormed, IsSegment, IsTerm, SegmentData, TermData}
pub use Rattle.index_model.specs.Querying.{query_segments, query_segments_at, query_segments_from, segments_at}
pub use Rattle.jass_base.specs.Gaps.{AreDocs}
pub use Rattle.jass_base.specs.declared.answer.Grade.{Grade}
pub use Rattle.jass_base.specs.declared.answer.Hit.{Hit}
pub use Rattle.jass_base.specs.declared.answer.Report.{Report}
pub use Rattle.jass_base.specs.declared.faults.NoMemory.{NoMemory}
pub use Rattle.jass_base.specs.declared.query_term.QueryTerm.{QueryTerm}
pub use Rattle.lane_kernels.proofs.SetBits.{set_bits-append}
pub use Rattle.lane_kernels.specs.Bitmap.{set_bits}
pub use Rattle.plain_codecs.proofs.Bitmaps.{none_set}
pub use Rattle.ranking_model.proofs.Growing.{sorted_map_where}
pub use Rattle.ranking_model.proofs.Sorting.{all_sorted}
pub use Rattle.ranking_model.specs.Order.{sorted}
pub use Rattle.ranking_model.specs.Plan.{cutoff_after, next_after, plan_cmp, postings_of, prefix_within, size_of_first}
pub use Rattle.ranking_model.specs.Postings.{AreTerms, weighted_postings}
pub use Rattle.ranking_model.specs.Report.{IsReport}
pub use Rattle.ranking_model.specs.Scores.{added, bound_after, first_ranked, least_untouched, runner_up, scores_after}
pub use Rattle.ranking_model.specs.declared.plan.QueryPlan.{QueryPlan}
pub use Rattle.ranking_model.specs.declared.plan_segment.PlanSegment.{PlanSegment}
pub use Rattle.ranking_model.specs.declared.posting.WeightedPosting.{WeightedPosting}
pub use Rattle.segment_plan.specs.Entries.{AreHeads, Fall, PlanView, entry_cmp, entry_of, plan_with}
pub use Rattle.segment_plan.specs.Shape.{HasShape, entry_shape, shape}
pub use Rattle.segment_plan.specs.declared.entry.PlanEntry.{PlanEntry}
pub use Rattle.segment_plan.specs.declared.entry.PlanHead.{PlanHead}
pub use Rattle.session_scores.specs.Scores.{AreScoresOf, ScoresStand, docs_of, own_chain, own_view, scores_of}
pub use Rattle.session_scores.specs.declared.scores.Scores.{Scores}
