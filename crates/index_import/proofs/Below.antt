-- The names of the crates below that many proofs of this crate cite, passed on from one place. Declares nothing.
pub use Rattle.whole_files.proofs.Told.{for_all, for_both, for_one, for_pair}
pub use Rattle.ciff_read.specs.Assembling.{Assembles, IsKeptList, Parts, by_number, collection_of, only_header, with_piece}
pub use Rattle.ciff_read.specs.Given.{Advances, GivesPiece, GivesTold, PieceRanges, piece_data}
pub use Rattle.ciff_read.specs.Judging.{NumberedDoc, is_among, numbers_of}
pub use Rattle.ciff_read.specs.Marks.{is_marked}
pub use Rattle.ciff_read.specs.Pieces.{DocPiece, EndPiece, IsReached, KeptList, ListPiece, PieceData, Progress, StartPiece, Step, header_of_file, next_of, postings_kept, terms_kept}
pub use Rattle.ciff_read.specs.Reaching.{FailsReading}
pub use Rattle.ciff_read.specs.Reading.{Message, list_at, read_ciff}
pub use Rattle.ciff_read.specs.Refusals.{◌>>=◌}
pub use Rattle.ciff_read.specs.Seen.{is_seen}
pub use Rattle.ciff_read.specs.Walk.{Begins, HasKept, IsGiven, IsListAt, IsWalkOver, Keeps, KeepsRanges, LeavesWalk, StandsFor, StandsTold, WalkView, kept_of}
pub use Rattle.ciff_read.specs.declared.piece.Piece.{Piece}
pub use Rattle.ciff_read.specs.declared.refusal.CiffFault.{CiffFault}
pub use Rattle.ciff_read.specs.declared.refusal.CiffRefusal.{CiffRefusal}
pub use Rattle.impact_segments.proofs.OneTerm.{all_map_at}
pub use Rattle.impact_segments.proofs.Orders.{strictly}
pub use Rattle.impact_segments.specs.Bounds.{can_widen, heaviest, lightest, most_tf}
pub use Rattle.impact_segments.specs.Collections.{collection_index, index_of, lengths_of, total_of, weights_in, weights_of}
pub use Rattle.impact_segments.specs.ListTerms.{AreByTerm, list_term, lists_in_use, widened_by}
pub use Rattle.impact_segments.specs.OneList.{norms_in, outside}
pub use Rattle.index_layout.specs.Heads.{HeadData, all_heads, head_postings}
pub use Rattle.index_layout.specs.Layout.{file_length, front_bytes}
pub use Rattle.index_layout.specs.Totals.{totals_of}
pub use Rattle.index_layout.specs.View.{index_text}
pub use Rattle.index_model.specs.Grouping.{index_with}
pub use Rattle.index_model.specs.Index.{IndexData, SegmentData, TermData}
pub use Rattle.index_model.specs.Views.{segment_data}
pub use Rattle.index_write.specs.Chosen.{chosen_entry, chosen_head, chosen_heads, chosen_payloads, chosen_terms, head_data, table_payloads}
pub use Rattle.index_write.specs.Saving.{LeavesPrefix, Untouched}
pub use Rattle.index_write.specs.Streaming.{AreEntries, FallsTo, IsEntry, IsHead, RisesTo, Unappended, Unappending, Unbegun, WriterView, change_of, entries_totals, entry_data, next_heads, no_entry, writer_view}
pub use Rattle.index_write.specs.declared.fault.SaveFault.{SaveFault}
pub use Rattle.index_write.specs.declared.fault.TermFault.{TermFault}
pub use Rattle.index_write.specs.declared.term_heads.TermHeads.{TermHeads}
pub use Rattle.jass_base.proofs.Fitting.{list_fits}
pub use Rattle.jass_base.specs.Ciff.{CollectionData, FitsList, HeaderData, ListData}
pub use Rattle.jass_base.specs.CiffViews.{header_data, list_data}
pub use Rattle.jass_base.specs.Limits.{IsName, IsText}
pub use Rattle.jass_base.specs.Lists.{HasDocsBelow}
pub use Rattle.jass_base.specs.Outside.{Appended, Extends, Files, ForContent, IsMissing, OnContent, Sets, content_or_empty, content_there}
pub use Rattle.jass_base.specs.Postings.{HasTfInRange, docs_of}
pub use Rattle.jass_base.specs.Segments.{SharesNoDocument}
pub use Rattle.jass_base.specs.Terms.{BytesRise}
pub use Rattle.jass_base.specs.declared.answer.Totals.{Totals}
pub use Rattle.jass_base.specs.declared.doc_record.DocRecord.{DocRecord}
pub use Rattle.jass_base.specs.declared.header.Header.{Header}
pub use Rattle.jass_base.specs.declared.posting.Posting.{Posting}
pub use Rattle.jass_base.specs.declared.postings_list.PostingsList.{PostingsList}
pub use Rattle.jass_base.specs.declared.segment.Segment.{Segment}
pub use Rattle.weights.proofs.Ranges.{greatest-ge_start, least-le_start}
pub use Rattle.weights.specs.Quantizing.{empty_range, impact_of, range_of, widened}
pub use Rattle.weights.specs.Weighting.{length_norm}
pub use Rattle.weights.specs.declared.quantizing.Bits.{Bits}
pub use Rattle.weights.specs.declared.quantizing.Bits.TheVariants.{Of, Raw}
pub use Rattle.weights.specs.declared.quantizing.Range.{Range}
pub use Rattle.weights.specs.declared.weighting.Rule.{Rule}
