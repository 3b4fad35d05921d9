-- The names of the crates below that many proofs of this crate cite, passed on from one place. Declares nothing.
pub use Rattle.jass_base.proofs.ByteOrder.{above_on, below_on, bytes_apart, bytes_fall}
pub use Rattle.jass_base.proofs.Contents.{on_for}
pub use Rattle.jass_base.specs.Ciff.{ArePostings, AreRecords, CollectionData, DocData, HeaderData, IsCiff, IsDoc, IsDocAmong, IsHeader, IsList, ListData, postings_count}
pub use Rattle.jass_base.specs.CiffViews.{collection_data, doc_data, header_data, list_data}
pub use Rattle.jass_base.specs.Limits.{IsName}
pub use Rattle.jass_base.specs.Lists.{DifferInTerm, HasDocsBelow}
pub use Rattle.jass_base.specs.Outside.{AreBytesAt, Files, ForContent, OnContent}
pub use Rattle.jass_base.specs.Postings.{HasTfInRange, docs_of}
pub use Rattle.jass_base.specs.Terms.{BytesRise}
pub use Rattle.jass_base.specs.Wire.{AreFields, AreGroups, Eight, Four, IsField, IsSized, IsValue, IsVarint, Number, Spells, Text, WireField, WireValue, texts_field, texts_in}
pub use Rattle.jass_base.specs.declared.collection.Collection.{Collection}
pub use Rattle.jass_base.specs.declared.doc_record.DocRecord.{DocRecord}
pub use Rattle.jass_base.specs.declared.header.Header.{Header}
pub use Rattle.jass_base.specs.declared.posting.Posting.{Posting}
pub use Rattle.jass_base.specs.declared.postings_list.PostingsList.{PostingsList}
pub use Rattle.wire_fields.proofs.Varints.{to_end}
pub use Rattle.wire_fields.specs.Places.{IsWithin, ReadsField, ReadsVarint, value_in}
pub use Rattle.wire_fields.specs.Reading.{field_at, varint_at, varint_within, ◌>>=◌}
pub use Rattle.wire_fields.specs.declared.fault.WireFault.{WireFault}
pub use Rattle.wire_fields.specs.declared.fault.WireWhy.{WireWhy}
pub use Rattle.wire_fields.specs.declared.fault.WireWhy.TheVariants.{Cut, LongVarint}
pub use Rattle.wire_fields.specs.declared.field.Value.{Value}
pub use Rattle.wire_fields.specs.declared.field.Value.TheVariants.{Bytes}
