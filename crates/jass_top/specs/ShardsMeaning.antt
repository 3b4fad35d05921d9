-- What `shards` means: the search over the union of the indexes of a collection's parts. This project's.
use Rattle.std.specs.Prelude.{ℕ, ◌+◌, nat_lt, List, [], ◌∷◌, ◌++◌, length, Option, Some, None, if◌then◌else◌}
use Rattle.jass_base.specs.Outside.{Files}
use Rattle.jass_base.specs.declared.limits.TheConstants.{MOST_DOCUMENTS, MOST_POSTINGS}
use Rattle.index_layout.specs.View.{index_postings}
use Rattle.index_file.specs.Places.{texts_of}
use Rattle.index_model.specs.Index.{IndexData}
use Rattle.index_model.specs.Unions.{union_of}
use Rattle.query_reader.specs.declared.mode.Mode.{Mode}
use Rattle.jass_top.specs.declared.stop.Place.TheVariants.{Byte}
use Rattle.jass_top.specs.IndexJudging.{judge_held}
use Rattle.jass_top.specs.Judging.{Judged, Accepted, Refuses, behind, judge_content}
use Rattle.jass_top.specs.Meanings.{Meaning}
use Rattle.jass_top.specs.QueryJudging.{judge_queries}
use Rattle.jass_top.specs.SearchMeaning.{Search, SearchInputs, searching_meaning}

-- ---- the inputs

-- the indexes of some files, in the order of their names
abbrev pub judge_parts : List (List ℕ) → Option Files → Judged (List IndexData)
judge_parts [] told = Accepted []
judge_parts (name ∷ names) told =
    behind (judge_held name told) (λ part. behind (judge_parts names told) (λ parts. Accepted (part ∷ parts)))

abbrev pub document_count : IndexData → ℕ
document_count index = length index.names

-- the first part with which the sizes of the parts sum to more than a limit, by its name, and this sum; so much stands
-- before the parts
abbrev pub passing : (IndexData → ℕ) → ℕ → ℕ → List (List ℕ) → List IndexData → Option (List ℕ × ℕ)
passing size limit before names [] = None
passing size limit before [] (part ∷ parts) = None
passing size limit before (name ∷ names) (part ∷ parts) =
    if nat_lt limit (before + size part) then Some (name, before + size part)
    else passing size limit (before + size part) names parts

-- a part is refused by a number, with the sum that passes the limit for its place
abbrev pub refused_where : {A : Type 0} → ℕ → Option (List ℕ × ℕ) → Judged A → Judged A
refused_where number (Some (name, sum)) judged = Refuses name number (Byte sum)
refused_where number None judged = judged

-- the union of parts of these names: 57 where they have more than 2^26 documents, 58 where they have more than 2^29
-- postings
unfoldable pub united : List (List ℕ) → List IndexData → Judged IndexData
united names parts =
    refused_where 57 (passing document_count MOST_DOCUMENTS 0 names parts)
    (refused_where 58 (passing index_postings MOST_POSTINGS 0 names parts) (Accepted (union_of parts)))

-- the index files first, then the content of the query file, then their union, then the queries
abbrev pub judge_shards : List (List ℕ) → List ℕ → Mode → Option Files → Judged SearchInputs
judge_shards indexes queries mode told =
    behind (judge_parts indexes told) (λ parts.
    behind (judge_content queries told) (λ content.
    behind (united indexes parts) (λ union.
    behind (judge_queries queries mode (texts_of union.terms) content) (λ asked.
    Accepted (record { index = union; queries = asked })))))

-- ---- the output

abbrev pub shards_meaning : List (List ℕ) → List ℕ → List ℕ → Search → Mode → Meaning
shards_meaning indexes queries run search mode =
    searching_meaning (indexes ++ queries ∷ []) (judge_shards indexes queries mode) run search
