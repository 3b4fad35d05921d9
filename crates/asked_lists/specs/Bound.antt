-- At most how many bytes the index file of a collection has, as its names and its lists show. This project's.
use Rattle.std.specs.Prelude.{ℕ, ◌+◌, ◌*◌, length, sum_by}
use Rattle.jass_base.specs.declared.collection.Collection.{Collection}
use Rattle.jass_base.specs.declared.doc_record.DocRecord.{DocRecord}
use Rattle.jass_base.specs.declared.postings_list.PostingsList.{PostingsList}

-- a document's name behind its length
abbrev pub name_bound : DocRecord → ℕ
name_bound d = 4 + length d.name

-- a term that shares nothing with the one before it, behind its two lengths and before the number of its segments (8
-- bytes), and for each posting a head of 11 bytes and a payload of 4
abbrev pub list_bound : PostingsList → ℕ
list_bound l = 8 + length l.term + 15 * length l.postings

-- with the 40 bytes that the file begins with
abbrev pub file_bound : Collection → ℕ
file_bound c = 40 + sum_by name_bound c.docs + sum_by list_bound c.lists
