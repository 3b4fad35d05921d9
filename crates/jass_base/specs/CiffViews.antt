-- A collection as plain data.
use Rattle.std.specs.Prelude.{map}
use Rattle.jass_base.specs.declared.header.Header.{Header}
use Rattle.jass_base.specs.declared.postings_list.PostingsList.{PostingsList}
use Rattle.jass_base.specs.declared.doc_record.DocRecord.{DocRecord}
use Rattle.jass_base.specs.declared.collection.Collection.{Collection}
use Rattle.jass_base.specs.Ciff.{HeaderData, ListData, DocData, CollectionData}

abbrev pub header_data : Header → HeaderData
header_data h = record {
  version = h.version;
  total_lists = h.total_lists;
  total_docs = h.total_docs;
  total_terms = h.total_terms;
  average = h.average;
  description = h.description;
}

abbrev pub list_data : PostingsList → ListData
list_data l = record { term = l.term; df = l.df; cf = l.cf; postings = l.postings }

abbrev pub doc_data : DocRecord → DocData
doc_data d = record { name = d.name; length = d.length }

abbrev pub collection_data : Collection → CollectionData
collection_data c = record { header = header_data c.header; lists = map list_data c.lists; docs = map doc_data c.docs }
