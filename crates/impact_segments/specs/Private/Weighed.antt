-- The weights of a collection in memory, list by list.
use Rattle.std.specs.Prelude.{ℕ, ◌^◌, List, length, map, min}
use Rattle.jass_base.specs.declared.doc_record.DocRecord.{DocRecord}
use Rattle.jass_base.specs.declared.posting.Posting.{Posting}
use Rattle.jass_base.specs.declared.postings_list.PostingsList.{PostingsList}
use Rattle.weights.specs.declared.weighting.Rule.{Rule}
use Rattle.weights.specs.declared.quantizing.Bits.{Bits}
use Rattle.weights.specs.declared.quantizing.Range.{Range}
use Rattle.weights.specs.Weighting.{length_norm}
use Rattle.ranking_model.specs.declared.entry.Entry.{Entry}
use Rattle.impact_segments.specs.Collections.{total_of, weight_in, weights_in, entries_in}

-- the lengths of records
abbrev pub lengths_in : List DocRecord → List ℕ
lengths_in docs = map (λ (d : DocRecord). d.length) docs

abbrev pub total_length : List DocRecord → ℕ
total_length docs = total_of (lengths_in docs)

-- how far each document's length slows the growth of a weight, cut off where no weight is above 1
abbrev pub norms_of : List DocRecord → List ℕ
norms_of docs = map (λ (d : DocRecord). min (length_norm (length docs) (total_length docs) d.length) (2 ^ 63)) docs

-- the weight of a posting of a list
abbrev pub posting_weight : Rule → List DocRecord → PostingsList → Posting → ℕ
posting_weight rule docs list p = weight_in rule (lengths_in docs) (total_length docs) (length list.postings) p

-- the weights of a list's postings
abbrev pub list_weights : Rule → List DocRecord → PostingsList → List ℕ
list_weights rule docs list = weights_in rule (lengths_in docs) (total_length docs) list.postings

-- the entries of a list's postings, with impacts from a range
abbrev pub list_entries : Rule → List DocRecord → Bits → Range → PostingsList → List (Entry (List ℕ))
list_entries rule docs bits range list = entries_in rule (lengths_in docs) (total_length docs) bits range list.term list.postings
