-- The names of the crates below that many proofs of this crate cite, passed on from one place. Declares nothing.
pub use Rattle.final_certificate.specs.Rule.{report_by}
pub use Rattle.frame_pool.specs.ChainView.{LeavesOthers, LeavesPool, chain_view}
pub use Rattle.frame_pool.specs.Pool.{ChainEntry, IsInUse, PoolView, Promises, spare_of}
pub use Rattle.gathered_text.proofs.Compose.{gather_cut, gather_same, gather_then}
pub use Rattle.gathered_text.specs.Gathering.{Gathers}
pub use Rattle.index_file.specs.Places.{texts_of}
pub use Rattle.index_model.specs.Index.{IndexData}
pub use Rattle.jass_base.specs.declared.answer.Budget.{Budget}
pub use Rattle.jass_base.specs.declared.answer.Hit.{Hit}
pub use Rattle.jass_base.specs.declared.answer.Report.{Report}
pub use Rattle.jass_base.specs.declared.faults.WriteFault.{WriteFault}
pub use Rattle.jass_base.specs.declared.query.Query.{Query}
pub use Rattle.memchr.specs.Find.{IsFirstByte, is_byte2}
pub use Rattle.query_reader.proofs.LineReading.{is-short}
pub use Rattle.query_reader.proofs.Runs.{first-run, only-run}
pub use Rattle.query_reader.specs.Mentions.{Mention, named_of, unknown_of}
pub use Rattle.query_reader.specs.Queries.{query_data}
pub use Rattle.query_reader.specs.Reading.{first_broken, read_mentions, unless}
pub use Rattle.query_reader.specs.Refusals.{Fails, at_line}
pub use Rattle.query_reader.specs.Slices.{BeginsWithout}
pub use Rattle.query_reader.specs.Texts.{blank_runs, is_blank, mentions_of, plain_mention}
pub use Rattle.query_reader.specs.declared.mode.Mode.TheVariants.{Plain}
pub use Rattle.query_reader.specs.declared.refusal.QueryFault.{QueryFault}
pub use Rattle.query_reader.specs.declared.refusal.QueryRefusal.{QueryRefusal}
pub use Rattle.query_reader.specs.declared.refusal.QueryWhy.{QueryWhy}
pub use Rattle.ranking_model.specs.Plan.{amount_of, granted_sum, granted_with, prefix_within, size_of_first}
pub use Rattle.ranking_model.specs.Report.{report_line, run_lines}
pub use Rattle.ranking_model.specs.Scores.{top_k}
pub use Rattle.ranking_model.specs.Search.{query_run}
pub use Rattle.ranking_model.specs.declared.plan.QueryPlan.{QueryPlan}
pub use Rattle.ranking_model.specs.declared.plan_segment.PlanSegment.{PlanSegment}
pub use Rattle.session_engine.specs.Plans.{HasFreeNumber, need_of}
pub use Rattle.session_engine.specs.Standing.{IsSessionOf, SessionStands, answer_over, chain_of, granted_of, k_of, plan_over, report_of, terms_of}
pub use Rattle.session_engine.specs.declared.session.Session.{Session}
