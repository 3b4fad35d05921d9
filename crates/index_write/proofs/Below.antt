-- The names of the crates below that many proofs of this crate cite, passed on from one place. Declares nothing.
pub use Rattle.index_layout.proofs.Apart.{pairs_head, pairs_tail}
pub use Rattle.index_layout.proofs.Greatest.{greatest_joins}
pub use Rattle.index_layout.proofs.TermLaws.{heads_size}
pub use Rattle.index_layout.specs.Bytes.{u32_bytes, u64_bytes}
pub use Rattle.index_layout.specs.Heads.{HeadData, TermHeads, all_heads, greatest_impact, greatest_of, head_postings, heads_of, payloads_size, terms_heads}
pub use Rattle.index_layout.specs.Layout.{file_length, front_bytes, heads_bytes, magic, names_bytes, rest_behind, segments_payloads, shared_with, term_bytes, terms_bytes, terms_payloads}
pub use Rattle.index_layout.specs.Totals.{greatest_in, index_greatest, totals_of}
pub use Rattle.index_layout.specs.View.{chosen_codecs, chosen_view, index_postings, term_postings}
pub use Rattle.index_model.specs.Index.{IndexData, IsIndex, IsSegment, IsTerm, SegmentData, SharesNoDocument, TermData}
pub use Rattle.index_model.specs.Views.{index_data, segment_data, term_data}
pub use Rattle.jass_base.proofs.Sinks.{get_set, set_twice}
pub use Rattle.jass_base.specs.Gaps.{AreDocs}
pub use Rattle.jass_base.specs.Limits.{IsName}
pub use Rattle.jass_base.specs.Outside.{Extends, Files, Sets, content_or_empty}
pub use Rattle.jass_base.specs.Segments.{HasDocumentsBelow}
pub use Rattle.jass_base.specs.Terms.{BytesRise}
pub use Rattle.jass_base.specs.declared.answer.Totals.{Totals}
pub use Rattle.jass_base.specs.declared.impact_index.ImpactIndex.{ImpactIndex}
pub use Rattle.jass_base.specs.declared.segment.Segment.{Segment}
pub use Rattle.jass_base.specs.declared.term_segments.TermSegments.{TermSegments}
pub use Rattle.segment_codecs.specs.Codecs.{chosen_codec, codec_number, codec_of, payload_size}
pub use Rattle.segment_codecs.specs.declared.codec.Codec.{Codec}
