-- What stands in several files that are searched as one.
use Rattle.std.specs.Prelude.{ℕ, ◌≡◌, ◌<◌, ◌≤◌, List, length, All, slice_index}
use Rattle.std.specs.List.{sum_by}
use Rattle.jass_base.specs.declared.limits.TheConstants.{MOST_DOCUMENTS}
use Rattle.index_model.specs.Unions.{union_names, union_of}
use Rattle.index_layout.specs.View.{FileView, IsFileView}
use Rattle.index_file.specs.Sources.{IsSearchable}
use Rattle.shard_search.specs.Parts.{base_of}
use Rattle.shard_search.specs.Sums.{file_docs, indexes_of}
use Rattle.shard_search.specs.Private.Tables.{IsTable, told_terms}
use Rattle.shard_search.specs.declared.table.Table.{Table}

-- how many documents stand before each part
pub record AreBases (files : List FileView) (bases : List ℕ) : Type 0 where
  pub count : length bases ≡ length files
  pub each : (part : ℕ) → part < length files → slice_index bases part ≡ base_of files part

-- the files were checked, their union can be searched, and the table has its terms
pub record IsUnion (files : List FileView) (counts : List ℕ) (total known : ℕ) (rows : Table) : Type 0 where
  pub checked : All IsFileView files
  pub searchable : IsSearchable (union_of (indexes_of files))
  pub docs : total ≡ sum_by file_docs files
  pub few_docs : sum_by file_docs files ≤ MOST_DOCUMENTS
  pub bases : AreBases files counts
  pub counted : known ≡ length rows.terms
  pub table : IsTable files rows
  pub names : (union_of (indexes_of files)).names ≡ union_names (indexes_of files)
  pub terms : (union_of (indexes_of files)).terms ≡ told_terms files rows
