-- The names of the crates below that many proofs of this crate cite, passed on from one place. Declares nothing.
pub use Rattle.index_layout.proofs.Behind.{behind_index, behind_segments, behind_terms, heads_on, with_heads, with_index, with_segments, with_terms}
pub use Rattle.index_layout.proofs.PayloadLaws.{part_bytes}
pub use Rattle.index_layout.specs.Bytes.{u32_in, u64_in}
pub use Rattle.index_layout.specs.Heads.{HeadData, TermHeads, all_heads, greatest_impact, greatest_of, head_postings}
pub use Rattle.index_layout.specs.Reading.{Front, HeadsRead, IndexRead, NamesRead, SegmentsRead, TermsRead, after_front, after_names, after_payloads, after_terms, docs_in, docs_or_none, head_codecs, heads_in, is_among, name_end, name_in, payload_end, payload_placed, read_front}
pub use Rattle.index_layout.specs.Reading.{read_heads, read_names, read_payloads, read_segments, read_terms, shares_one, term_in}
pub use Rattle.index_layout.specs.Refusals.{Answers, Fails, check, judged, refuse, ◌>>=◌}
pub use Rattle.index_layout.specs.Totals.{greatest_in, index_greatest}
pub use Rattle.index_layout.specs.View.{FileView, IsFileView, file_bytes}
pub use Rattle.index_layout.specs.declared.refusal.OpenFault.{OpenFault}
pub use Rattle.index_layout.specs.declared.refusal.OpenRefusal.{OpenRefusal}
pub use Rattle.index_layout.specs.declared.refusal.OpenWhy.TheVariants.{DocTwice, Length, Limit, Payload}
pub use Rattle.index_model.specs.Index.{IsSegment, IsTerm, RisesTo, SegmentData, TermData}
pub use Rattle.index_model.specs.Querying.{segments_at}
pub use Rattle.jass_base.proofs.Accepting.{all_bytes}
pub use Rattle.jass_base.proofs.ByteOrder.{above_on, below_on, bytes_apart, bytes_fall}
pub use Rattle.jass_base.proofs.Gaps.{RiseFrom, rise_from}
pub use Rattle.jass_base.specs.Gaps.{AreDocs, GapSpelling, Judges, gap_in}
pub use Rattle.jass_base.specs.Limits.{IsText}
pub use Rattle.jass_base.specs.Outside.{Files, OnContent}
pub use Rattle.jass_base.specs.Terms.{BytesRise}
pub use Rattle.jass_base.specs.Wire.{short_varint}
pub use Rattle.jass_base.specs.declared.payload_fault.PayloadFault.{PayloadFault}
pub use Rattle.segment_codecs.specs.Codecs.{payload_of, read_payload}
pub use Rattle.segment_codecs.specs.Giving.{Gives}
pub use Rattle.segment_codecs.specs.declared.codec.Codec.{Codec}
pub use Rattle.segment_codecs.specs.declared.codec.Codec.TheVariants.{Varbyte}
