-- The names of the crates below that many proofs of this crate cite, passed on from one place. Declares nothing.
pub use Rattle.index_layout.proofs.Apart.{alone_only}
pub use Rattle.index_layout.proofs.Behind.{behind_index, behind_segments, behind_terms, heads_on, with_heads, with_index, with_segments, with_terms}
pub use Rattle.index_layout.proofs.FileLaws.{Found, Numbered, Only, first_bytes, front_of, same_first, step}
pub use Rattle.index_layout.proofs.Greatest.{greatest_joins, greatest_kept}
pub use Rattle.index_layout.proofs.HeadLaws.{HeadsAre, HeadsFall, heads_found, heads_only}
pub use Rattle.index_layout.proofs.IndexFacts.{TermsStand, fall_only, index_found, index_only}
pub use Rattle.index_layout.proofs.Judging.{NoneWrong, behind, bind_ok, judged_all, judged_ok, parts_stand, reaches}
pub use Rattle.index_layout.proofs.NameLaws.{shown, visible}
pub use Rattle.index_layout.proofs.Numbers.{Fit, u16_found, u16_only, u32_found, u32_only, u64_found, u64_only}
pub use Rattle.index_layout.proofs.PayloadLaws.{PayloadsAre, first_codecs, payloads_found, payloads_only, segments_only, terms_rise}
pub use Rattle.index_layout.proofs.Sums.{all_codecs_back, all_counted, all_sized, greatest_small, heads_length}
pub use Rattle.index_layout.proofs.TermLaws.{IsTermText, TermsRise, heads_size}
pub use Rattle.index_layout.specs.Bytes.{u16_bytes, u16_in, u32_bytes, u32_in, u64_bytes, u64_in}
pub use Rattle.index_layout.specs.Heads.{HeadData, TermHeads, all_heads, greatest_impact, greatest_of, head_postings, heads_of, payloads_size, terms_heads}
pub use Rattle.index_layout.specs.Layout.{heads_bytes, old_magic, terms_payloads}
pub use Rattle.index_layout.specs.Reading.{Front, HeadsRead, IndexRead, NamesRead, SegmentsRead, TermsRead, after_payloads, after_terms, docs_in, head_codecs, is_among, is_name_text, payload_end, payload_placed, read_heads, read_payloads, read_segment, read_segments, rises_behind, shares_one}
pub use Rattle.index_layout.specs.Refusals.{Check, Fails, check, judged, refuse, ◌>>=◌}
pub use Rattle.index_layout.specs.Totals.{greatest_in}
pub use Rattle.index_layout.specs.View.{FileView, HaveCodecs, index_postings}
pub use Rattle.index_layout.specs.declared.refusal.OpenFault.{OpenFault}
pub use Rattle.index_layout.specs.declared.refusal.OpenFault.TheVariants.{NoMemory, ReadFault, Refused}
pub use Rattle.index_layout.specs.declared.refusal.OpenRefusal.{OpenRefusal}
pub use Rattle.index_layout.specs.declared.refusal.OpenWhy.TheVariants.{DocTwice, Heads, Length, Limit, Magic, Names, Old, Payload, TermOrder, Totals}
pub use Rattle.index_model.specs.Index.{FallsTo, IndexData, IsIndex, IsSegment, IsTerm, RisesTo, SegmentData, SharesNoDocument, TermData}
pub use Rattle.index_model.specs.Views.{segment_data, term_data}
pub use Rattle.jass_base.specs.Gaps.{Judges}
pub use Rattle.jass_base.specs.Limits.{IsName, IsText}
pub use Rattle.jass_base.specs.declared.payload_fault.PayloadFault.{PayloadFault}
pub use Rattle.jass_base.specs.declared.segment.Segment.{Segment}
pub use Rattle.jass_base.specs.declared.term_segments.TermSegments.{TermSegments}
pub use Rattle.segment_codecs.specs.Codecs.{codec_number, codec_of, read_payload}
pub use Rattle.segment_codecs.specs.declared.codec.Codec.{Codec}
pub use Rattle.segment_codecs.specs.declared.codec.Codec.TheVariants.{Varbyte}
