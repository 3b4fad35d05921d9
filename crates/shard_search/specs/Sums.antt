-- The documents and the postings of several files, and where they pass a limit.
use Rattle.std.specs.Prelude.{ℕ, ◌≡◌, ◌<◌, ◌≤◌, ◌+◌, List, Result, Ok, Err, length, map, take}
use Rattle.std.specs.List.{sum_by}
use Rattle.jass_base.specs.declared.limits.TheConstants.{MOST_DOCUMENTS, MOST_POSTINGS}
use Rattle.index_model.specs.Index.{IndexData}
use Rattle.index_layout.specs.View.{FileView, index_postings}
use Rattle.shard_search.specs.declared.stop.ShardStop.{ShardStop}
use Rattle.shard_search.specs.declared.stop.ShardStop.TheVariants.{Documents, Postings, NoMemory}

-- the indexes of files
abbrev pub indexes_of : List FileView → List IndexData
indexes_of files = map (λ (f : FileView). f.index) files

-- how many documents, and how many postings, a file has
abbrev pub file_docs : FileView → ℕ
file_docs f = length f.index.names

abbrev pub file_postings : FileView → ℕ
file_postings f = index_postings f.index

-- a part is the first with which the sizes of the parts up to it sum to more than a limit, and this is their sum
pub record IsPassedAt (size : FileView → ℕ) (files : List FileView) (limit part sum : ℕ) : Type 0 where
  pub there : part < length files
  pub sums : sum ≡ sum_by size (take (part + 1) files)
  pub passes : limit < sum
  pub before : sum_by size (take part files) ≤ limit

-- the answer to whether files have few enough documents
abbrev pub FitDocuments : List FileView → Result (Unit {0}) ShardStop → Type 0
FitDocuments files (Ok done) = sum_by file_docs files ≤ MOST_DOCUMENTS
FitDocuments files (Err (Documents part sum)) = IsPassedAt file_docs files MOST_DOCUMENTS part sum
FitDocuments files (Err (Postings part sum)) = ⊥
FitDocuments files (Err NoMemory) = ⊥

-- the answer to whether files have few enough postings
abbrev pub FitPostings : List FileView → Result (Unit {0}) ShardStop → Type 0
FitPostings files (Ok done) = sum_by file_postings files ≤ MOST_POSTINGS
FitPostings files (Err (Documents part sum)) = ⊥
FitPostings files (Err (Postings part sum)) = IsPassedAt file_postings files MOST_POSTINGS part sum
FitPostings files (Err NoMemory) = ⊥

-- the answer to whether files can be searched as one: memory may be refused where they can
abbrev pub Fits : {T : Type 0} → List FileView → Result T ShardStop → Type 0
Fits files (Ok shards) = (sum_by file_docs files ≤ MOST_DOCUMENTS) × (sum_by file_postings files ≤ MOST_POSTINGS)
Fits files (Err (Documents part sum)) = IsPassedAt file_docs files MOST_DOCUMENTS part sum
Fits files (Err (Postings part sum)) = (sum_by file_docs files ≤ MOST_DOCUMENTS) × IsPassedAt file_postings files MOST_POSTINGS part sum
Fits files (Err NoMemory) = (sum_by file_docs files ≤ MOST_DOCUMENTS) × (sum_by file_postings files ≤ MOST_POSTINGS)
