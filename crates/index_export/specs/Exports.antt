-- The collection that an index is exported as (CIFF; Lin et al., 2020). That impacts stand as tf is this project's.
use Rattle.std.specs.Prelude.{ℕ, List, [], length, map, replicate}
use Rattle.std.specs.List.{flat_map, sum_by}
use Rattle.std.specs.declared.cmp.Ordering.{Ordering}
use Rattle.std.specs.Ordering.{nat_cmp}
use Rattle.jass_base.specs.Ciff.{ListData, CollectionData}
use Rattle.jass_base.specs.declared.posting.Posting.{Posting}
use Rattle.ranking_model.specs.Order.{sorted}
use Rattle.index_model.specs.Index.{SegmentData, TermData, IndexData}

-- postings by their documents
abbrev pub doc_cmp : Posting → Posting → Ordering
doc_cmp a b = nat_cmp a.doc b.doc

-- the postings of a segment, with its impact as tf
abbrev pub segment_postings : SegmentData → List Posting
segment_postings s = map (λ doc. record { doc = doc; tf = s.impact }) s.docs

-- the postings of a term, by rising document
abbrev pub term_list : TermData → List Posting
term_list t = sorted doc_cmp (flat_map segment_postings t.segments)

-- the sum of the impacts of postings
abbrev pub impact_sum : List Posting → ℕ
impact_sum postings = sum_by (λ (p : Posting). p.tf) postings

-- a term as a list: df counts its postings, cf sums their impacts
abbrev pub exported_list : TermData → ListData
exported_list t = record {
  term = t.term;
  df = length (term_list t);
  cf = impact_sum (term_list t);
  postings = term_list t;
}

-- the collection of an index: impacts stand as tf, and nothing is known of the documents but their names
unfoldable pub export_of : IndexData → CollectionData
export_of index = record {
  header = record {
    version = 1;
    total_lists = length index.terms;
    total_docs = length index.names;
    total_terms = sum_by (λ (t : TermData). impact_sum (term_list t)) index.terms;
    average = replicate 8 0;
    description = [];
  };
  lists = map exported_list index.terms;
  docs = map (λ (name : List ℕ). record { name = name; length = 0 }) index.names;
}
