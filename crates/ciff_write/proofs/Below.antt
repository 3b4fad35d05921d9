-- The names of the crates below that many proofs of this crate cite, passed on from one place. Declares nothing.
pub use Rattle.ciff_read.proofs.FileLaws.{spells-append}
pub use Rattle.gathered_text.proofs.Compose.{GathersUpTo, gather_cut, gather_pushed, gather_same, gather_then, up_to_all, up_to_failed, up_to_more}
pub use Rattle.jass_base.proofs.Fitting.{list_fits}
pub use Rattle.jass_base.proofs.GapGroups.{one_group_written}
pub use Rattle.jass_base.proofs.ShortVarints.{last_group, more_groups, short_size}
pub use Rattle.jass_base.specs.Ciff.{ArePostings, CollectionData, DocData, FitsDoc, FitsHeader, FitsList, HeaderData, IsCiff, IsDoc, IsDocAmong, IsHeader, IsList, IsPosting, ListData}
pub use Rattle.jass_base.specs.CiffText.{canonical_ciff, doc_body, docs_spelling, eight_spelling, header_body, list_body, number_spelling, posting_body, postings_spelling, sized, text_spelling}
pub use Rattle.jass_base.specs.CiffViews.{collection_data, doc_data, header_data, list_data}
pub use Rattle.jass_base.specs.Lists.{DifferInTerm, HasDocsBelow}
pub use Rattle.jass_base.specs.Postings.{HasTfInRange, docs_of}
pub use Rattle.jass_base.specs.Wire.{AreFields, AreGroups, Eight, Four, IsField, IsSized, IsVarint, Number, Spells, Text, WireField, WireValue, eight_field, eight_in, groups_value, number_field, number_in, short_varint, short_varint_within, text_field, text_in, texts_field, texts_in}
pub use Rattle.jass_base.specs.declared.collection.Collection.{Collection}
pub use Rattle.jass_base.specs.declared.doc_record.DocRecord.{DocRecord}
pub use Rattle.jass_base.specs.declared.posting.Posting.{Posting}
pub use Rattle.jass_base.specs.declared.postings_list.PostingsList.{PostingsList}
pub use Rattle.wire_fields.specs.Reading.{field_at}
pub use Rattle.wire_fields.specs.declared.fault.WireWhy.{WireWhy}
