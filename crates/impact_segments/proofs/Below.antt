-- The names of the crates below that many proofs of this crate cite, passed on from one place. Declares nothing.
pub use Rattle.index_model.proofs.Groups.{IsOtherTerm, entries_behind}
pub use Rattle.index_model.specs.Grouping.{with_entries, with_entry}
pub use Rattle.index_model.specs.Index.{IndexData, SegmentData, TermData}
pub use Rattle.index_model.specs.Views.{segment_data, term_data}
pub use Rattle.jass_base.proofs.ByteOrder.{bytes_apart}
pub use Rattle.jass_base.specs.Ciff.{CollectionData, DocData, FitsList, ListData}
pub use Rattle.jass_base.specs.CiffViews.{collection_data, doc_data, list_data}
pub use Rattle.jass_base.specs.Gaps.{AreDocs}
pub use Rattle.jass_base.specs.Limits.{IsName, IsText}
pub use Rattle.jass_base.specs.Lists.{DifferInTerm, HasDocsBelow}
pub use Rattle.jass_base.specs.Postings.{HasTfInRange, docs_of}
pub use Rattle.jass_base.specs.Segments.{FallsTo, SharesNoDocument}
pub use Rattle.jass_base.specs.Terms.{BytesRise, HasTermBelow, RisesTo, greatest_impact, greatest_of}
pub use Rattle.jass_base.specs.declared.collection.Collection.{Collection}
pub use Rattle.jass_base.specs.declared.doc_record.DocRecord.{DocRecord}
pub use Rattle.jass_base.specs.declared.posting.Posting.{Posting}
pub use Rattle.jass_base.specs.declared.postings_list.PostingsList.{PostingsList}
pub use Rattle.jass_base.specs.declared.segment.Segment.{Segment}
pub use Rattle.jass_base.specs.declared.term_segments.TermSegments.{TermSegments}
pub use Rattle.ranking_model.proofs.Growing.{sorted_map}
pub use Rattle.ranking_model.proofs.Orders.{entry_total}
pub use Rattle.ranking_model.proofs.Sorting.{Ascends, all_sorted, ascends_append, ascends_pairs, both_equal, length_sorted, level, pairs_sorted, same_ranks, sorted_ascends, sorted_is_permutation, sorted_level, stable_is_sorted}
pub use Rattle.ranking_model.specs.Flat.{entry_cmp}
pub use Rattle.ranking_model.specs.Order.{placed, sorted}
pub use Rattle.ranking_model.specs.declared.entry.Entry.{Entry}
pub use Rattle.weights.proofs.Bounds.{lg_of_rarity, saturated_cut}
pub use Rattle.weights.proofs.Limits.{weight_of-lt}
pub use Rattle.weights.proofs.Ranges.{greatest-from, greatest-ge_each, greatest-ge_start, least-from, least-le_each, least-le_start, same_range}
pub use Rattle.weights.specs.Quantizing.{Holds, IsInRange, empty_range, impact_of, range_of, widened}
pub use Rattle.weights.specs.Weighting.{idf, length_norm, saturated, weight_of}
pub use Rattle.weights.specs.declared.quantizing.Bits.{Bits}
pub use Rattle.weights.specs.declared.quantizing.Bits.TheVariants.{Of, Raw}
pub use Rattle.weights.specs.declared.quantizing.Range.{Range}
pub use Rattle.weights.specs.declared.weighting.Rule.{Rule}
pub use Rattle.weights.specs.declared.weighting.Rule.TheVariants.{Bm25, Tf}
