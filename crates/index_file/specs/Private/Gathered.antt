-- The terms that were read so far.
use Rattle.std.specs.Prelude.{ℕ, ◌≡◌, ◌+◌, ◌*◌, ◌^◌, ◌≤◌, ◌<◌, List, [], ◌∷◌, ◌++◌, length, All, Option, None, Some, IfSome, Ok}
use Rattle.jass_base.specs.Outside.{Files}
use Rattle.whole_files.specs.Windows.{AreFrom}
use Rattle.index_layout.specs.Heads.{TermHeads, all_heads}
use Rattle.index_layout.specs.Reading.{read_terms}
use Rattle.index_file.specs.declared.sums.Sums.{Sums}
use Rattle.index_file.specs.declared.term_reader.TermReader.{TermReader}
use Rattle.index_file.specs.declared.term_row.TermRow.{TermRow}
use Rattle.index_file.specs.declared.term_table.TermTable.{TermTable}
use Rattle.index_file.specs.Contents.{IsContent}
use Rattle.index_file.specs.Parts.{IsCounted}
use Rattle.index_file.specs.Sums.{AreSums}
use Rattle.index_file.specs.Private.Tables.{AreRows, IsSpan, before_in, closed, row_heads}
use Rattle.jass_base.specs.declared.limits.TheConstants.{MOST_DOCUMENTS}

-- the rows with one behind the last term
abbrev pub rows_read : TermReader → List TermRow
rows_read r = closed r.rows r.text r.heads r.groups

-- the terms with their heads
abbrev pub terms_read : TermReader → List TermHeads
terms_read r = row_heads r.heads r.text (rows_read r)

-- the last term
abbrev pub last_read : TermReader → Option (List ℕ)
last_read r = before_in r.text r.before

-- the tables of terms of a file with so many documents
pub record IsReader (docs : ℕ) (r : TermReader) : Type 0 where
  pub rows : AreRows r.heads r.text (rows_read r)
  pub counted : All (IsCounted docs) r.heads
  pub sums : AreSums r.sums (all_heads (terms_read r))
  pub before : IfSome r.before (IsSpan r.text)
  pub small : r.sums.postings ≤ MOST_DOCUMENTS * (11 * length r.heads)
  pub groups : r.groups ≤ length r.heads
  pub few : length r.text < 2 ^ 32

-- one term more was read, from one place of some bytes to another
pub record ReadsOne (bytes : List ℕ) (docs at end : ℕ) (old new : TermReader) (term : TermHeads) : Type 0 where
  pub reader : IsReader docs new
  pub read : read_terms bytes docs 1 (last_read old) at ≡ Ok (record { terms = term ∷ []; end = end })
  pub terms : terms_read new ≡ terms_read old ++ term ∷ []
  pub last : last_read new ≡ Some term.term
  pub count : length new.rows ≡ length old.rows + 1
  pub heads : at + 11 * length new.heads ≤ end + 11 * length old.heads
  pub rises : at ≤ end

-- the tables are those of so many terms, wherever these stand
pub record FixesTerms (terms : List ℕ) (docs count : ℕ) (table : TermTable) (sums : Sums) : Type 0 where
  pub read : (bytes : List ℕ) (from : ℕ) → AreFrom bytes from terms
      → read_terms bytes docs count None from
      ≡ Ok (record { terms = row_heads table.heads table.text table.rows; end = from + length terms })
  pub rows : AreRows table.heads table.text table.rows
  pub count_is : length table.rows ≡ count + 1
  pub counted : All (IsCounted docs) table.heads
  pub sums_are : AreSums sums (all_heads (row_heads table.heads table.text table.rows))

-- some terms stand from a place of a file to another, in the content where it is told
pub record AreTerms (files : Option Files) (name : List ℕ) (from to : ℕ) (terms : List ℕ) : Type 0 where
  pub place : to ≡ from + length terms
  pub small : All (λ byte. byte < 256) terms
  pub content : (content : List ℕ) → IsContent files name content → AreFrom content from terms
