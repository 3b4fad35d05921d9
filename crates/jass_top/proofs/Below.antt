-- The names of the crates below that many proofs of this crate cite, passed on from one place. Declares nothing.
pub use Rattle.ciff_read.specs.Counts.{posting_count}
pub use Rattle.ciff_read.specs.Reading.{read_ciff}
pub use Rattle.ciff_read.specs.Refusals.{number_of}
pub use Rattle.ciff_read.specs.declared.refusal.CiffFault.{CiffFault}
pub use Rattle.ciff_read.specs.declared.refusal.CiffRefusal.{CiffRefusal}
pub use Rattle.feed_lines.specs.Lines.{Holds, IsFirstLine, Passed, PassesLine, ended_lines}
pub use Rattle.feed_lines.specs.Waiting.{EndsFirst, Fills, Takes, TakesNothing, Waiting, is_too_long, nothing_yet, passed_to}
pub use Rattle.feed_lines.specs.declared.filled.Filled.{Filled}
pub use Rattle.final_certificate.specs.Rule.{report_by}
pub use Rattle.frame_pool.specs.ChainView.{LeavesPool, chain_view}
pub use Rattle.frame_pool.specs.Pool.{ChainEntry, IsInUse, PoolView, spare_of}
pub use Rattle.gathered_text.specs.Gathering.{Gathers}
pub use Rattle.impact_segments.specs.Collections.{collection_index, entries_in, index_of, lengths_of, total_of, weight_in, weights_of}
pub use Rattle.index_export.specs.Exports.{export_of}
pub use Rattle.index_file.specs.Opening.{Opens}
pub use Rattle.index_file.specs.Places.{codec_use, texts_of}
pub use Rattle.index_file.specs.declared.figures.CodecUse.{CodecUse}
pub use Rattle.index_import.specs.Importing.{Begins, Imports, IsMade}
pub use Rattle.index_import.specs.declared.fault.ImportFault.{ImportFault}
pub use Rattle.index_layout.specs.Reading.{read_index}
pub use Rattle.index_layout.specs.Refusals.{Fails}
pub use Rattle.index_layout.specs.Totals.{totals_of}
pub use Rattle.index_layout.specs.View.{FileView, IsFileView, chosen_view, file_bytes, index_postings, index_text, term_postings}
pub use Rattle.index_layout.specs.declared.refusal.OpenFault.{OpenFault}
pub use Rattle.index_layout.specs.declared.refusal.OpenFault.TheVariants.{NoMemory, Refused}
pub use Rattle.index_layout.specs.declared.refusal.OpenRefusal.{OpenRefusal}
pub use Rattle.index_model.proofs.WellFormed.{well_formed}
pub use Rattle.index_model.specs.Flat.{flat_of, flat_of_terms, numbered_flat, segment_entries, term_entries}
pub use Rattle.index_model.specs.Grouping.{index_with}
pub use Rattle.index_model.specs.Index.{IndexData, IsIndex, IsWellFormed, SegmentData, TermData}
pub use Rattle.index_model.specs.Views.{index_data}
pub use Rattle.index_version1.specs.Reading.{read_index1}
pub use Rattle.index_write.specs.Saving.{Unmade, Untouched, Unwritten}
pub use Rattle.index_write.specs.declared.fault.SaveFault.{SaveFault}
pub use Rattle.jass_base.proofs.FilesOf.{same_files}
pub use Rattle.jass_base.proofs.Sinks.{get_set, set_twice}
pub use Rattle.jass_base.proofs.Writing.{Appends-none, Appends-then, AppendsPrefix-longer, AppendsPrefix-same, AppendsPrefix-then, AppendsPrefix-whole, Rose-earlier}
pub use Rattle.jass_base.specs.Ciff.{CollectionData, DocData, IsCiff, ListData}
pub use Rattle.jass_base.specs.CiffText.{canonical_ciff}
pub use Rattle.jass_base.specs.CiffViews.{collection_data, doc_data, list_data}
pub use Rattle.jass_base.specs.Outside.{Files, IsMissing, OnContent, Rest, Rose, Sets, Wrote, content_there, others_told}
pub use Rattle.jass_base.specs.Writing.{AppendsPrefix}
pub use Rattle.jass_base.specs.declared.answer.Budget.{Budget}
pub use Rattle.jass_base.specs.declared.answer.Budget.TheVariants.{All, Postings}
pub use Rattle.jass_base.specs.declared.answer.Grade.{Grade}
pub use Rattle.jass_base.specs.declared.answer.Report.{Report}
pub use Rattle.jass_base.specs.declared.answer.Totals.{Totals}
pub use Rattle.jass_base.specs.declared.collection.Collection.{Collection}
pub use Rattle.jass_base.specs.declared.doc_record.DocRecord.{DocRecord}
pub use Rattle.jass_base.specs.declared.faults.ReadFault.{ReadFault}
pub use Rattle.jass_base.specs.declared.faults.WriteFault.{WriteFault}
pub use Rattle.jass_base.specs.declared.posting.Posting.{Posting}
pub use Rattle.jass_base.specs.declared.postings_list.PostingsList.{PostingsList}
pub use Rattle.jass_base.specs.declared.query.Query.{Query}
pub use Rattle.jass_base.specs.declared.query_term.QueryTerm.{QueryTerm}
pub use Rattle.jass_words.specs.Commands.{command_data}
pub use Rattle.jass_words.specs.Words.{Audit, Check, CommandData, Exhaust, Export, Help, Import, IsCommand, IsTrialSize, Migrate, Once, Rewrite, Search, Serve, Shards, Trial, Version, texts}
pub use Rattle.jass_words.specs.declared.command.Command.{Command}
pub use Rattle.jass_words.specs.declared.word_limits.TheConstants.{MOST_TAKEN}
pub use Rattle.query_reader.specs.Reading.{read_query_file}
pub use Rattle.query_reader.specs.Texts.{blank_runs}
pub use Rattle.query_reader.specs.declared.mode.Mode.{Mode}
pub use Rattle.query_reader.specs.declared.refusal.QueryFault.{QueryFault}
pub use Rattle.query_reader.specs.declared.refusal.QueryRefusal.{QueryRefusal}
pub use Rattle.ranking_model.proofs.Sorting.{length_sorted}
pub use Rattle.ranking_model.specs.Finality.{IsGrade}
pub use Rattle.ranking_model.specs.Flat.{IsFlat, entry_cmp}
pub use Rattle.ranking_model.specs.Order.{sorted}
pub use Rattle.ranking_model.specs.Plan.{amount_of, granted_sum, granted_with, plan_of, prefix_within, size_of_first}
pub use Rattle.ranking_model.specs.Postings.{weighted_postings}
pub use Rattle.ranking_model.specs.Promises.{IsPromised}
pub use Rattle.ranking_model.specs.Report.{IsReport, report_line, run_lines, tag_of}
pub use Rattle.ranking_model.specs.Scores.{hits_from, rank_cmp, scores_after, top_k}
pub use Rattle.ranking_model.specs.Search.{QueryData, first_part, prefix_granted, prefixes_granted, query_data, report_lines, run_parts}
pub use Rattle.ranking_model.specs.declared.entry.Entry.{Entry}
pub use Rattle.ranking_model.specs.declared.plan.QueryPlan.{QueryPlan}
pub use Rattle.ranking_model.specs.declared.plan_segment.PlanSegment.{PlanSegment}
pub use Rattle.session_desk.specs.Endings.{left_where, may_take_memory, text_where}
pub use Rattle.session_desk.specs.Lines.{DeskCommand, End, Open, command_in, is_end, is_end_command, read_desk_line}
pub use Rattle.session_desk.specs.Replies.{after_of, desk_after, desk_reply, desk_steps, reply_to, steps_of}
pub use Rattle.session_desk.specs.State.{DeskState, new_state}
pub use Rattle.session_desk.specs.Turns.{desk_postings, desk_replies, steps_from}
pub use Rattle.session_desk.specs.declared.went.Went.{Went}
pub use Rattle.session_engine.specs.Plans.{AreKnown, need_of, session_plan}
pub use Rattle.session_engine.specs.Standing.{IsSessionOf, SessionStands, answer_over, chain_of, granted_of, k_of, plan_over, prefix_of, query_of, report_of, terms_of}
pub use Rattle.session_engine.specs.declared.session.Session.{Session}
pub use Rattle.text_lines.specs.Lines.{lines_of}
pub use Rattle.trec_run.specs.Totals.{totals_line}
pub use Rattle.trial_data.specs.Trials.{queries_from, query_state, query_words, trial_queries}
pub use Rattle.weights.specs.Quantizing.{IsImpactWidth, impact_of, range_of}
pub use Rattle.weights.specs.declared.quantizing.Bits.{Bits}
pub use Rattle.weights.specs.declared.quantizing.Bits.TheVariants.{Of, Raw}
pub use Rattle.weights.specs.declared.weighting.Rule.{Rule}
pub use Rattle.weights.specs.declared.weighting.Rule.TheVariants.{Bm25, Tf}
