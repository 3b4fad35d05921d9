-- The names of the crates below that many proofs cite, passed on from one place. Declares nothing.
pub use Rattle.impact_segments.specs.Collections.{collection_index, index_of, lengths_of, total_of, weights_of}
pub use Rattle.impact_segments.specs.ListTerms.{AreByTerm, list_term, lists_in_use}
pub use Rattle.index_layout.specs.Heads.{TermHeads, payloads_size}
pub use Rattle.index_layout.specs.Layout.{file_length, name_bytes, names_bytes, shared_with, terms_bytes}
pub use Rattle.index_layout.specs.View.{index_text, term_postings}
pub use Rattle.index_model.specs.Flat.{numbered_flat}
pub use Rattle.index_model.specs.Grouping.{index_with}
pub use Rattle.index_model.specs.Index.{IndexData, SegmentData, TermData}
pub use Rattle.index_model.specs.Querying.{query_segments, query_segments_at, query_segments_from, segments_at}
pub use Rattle.index_write.specs.Chosen.{chosen_heads, chosen_payload, chosen_payloads, chosen_terms, table_payloads}
pub use Rattle.jass_base.specs.Ciff.{CollectionData, DocData, FitsList, ListData}
pub use Rattle.jass_base.specs.Gaps.{AreDocs}
pub use Rattle.jass_base.specs.Postings.{docs_of}
pub use Rattle.jass_base.specs.Terms.{BytesRise}
pub use Rattle.jass_base.specs.declared.posting.Posting.{Posting}
pub use Rattle.jass_base.specs.declared.query_term.QueryTerm.{QueryTerm}
pub use Rattle.query_reader.specs.Mentions.{Mention, first_mentions, named_of, names_number, term_number, times_named, unknown_of, words_as_mentions}
pub use Rattle.ranking_model.proofs.Sorting.{Ascends, all_sorted, ascends_pairs, level, pairs_sorted, same_ranks, sorted_ascends, sorted_is_permutation, sorted_level}
pub use Rattle.ranking_model.specs.Order.{sorted}
pub use Rattle.ranking_model.specs.Plan.{plan_segments, postings_of}
pub use Rattle.ranking_model.specs.Postings.{weighted_postings}
pub use Rattle.ranking_model.specs.declared.plan.QueryPlan.{QueryPlan}
pub use Rattle.ranking_model.specs.declared.plan_segment.PlanSegment.{PlanSegment}
pub use Rattle.ranking_model.specs.declared.posting.WeightedPosting.{WeightedPosting}
pub use Rattle.weights.specs.Quantizing.{empty_range, impact_of, range_of}
pub use Rattle.weights.specs.declared.quantizing.Bits.{Bits}
pub use Rattle.weights.specs.declared.quantizing.Bits.TheVariants.{Raw}
pub use Rattle.weights.specs.declared.quantizing.Range.{Range}
pub use Rattle.weights.specs.declared.weighting.Rule.{Rule}
