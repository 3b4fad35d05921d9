-- An opened file: what its tables tell.
use Rattle.std.specs.Prelude.{ℕ, ◌≡◌, ◌+◌, ◌≤◌, ◌<◌, List, length, map, All}
use Rattle.index_layout.specs.Bytes.{u32_in, u64_in}
use Rattle.index_layout.specs.Reading.{head_codecs, name_in}
use Rattle.index_layout.specs.Totals.{index_greatest}
use Rattle.index_layout.specs.View.{FileView, IsFileView, index_postings, view_payloads}
use Rattle.index_file.specs.declared.term_table.TermTable.{TermTable}
use Rattle.index_file.specs.Private.Payloads.{IsPlaced, row_terms}
use Rattle.index_file.specs.Private.Samples.{AreSamples}
use Rattle.index_file.specs.Private.Tables.{AreRows, heads_between, row_at, row_heads}
use Rattle.index_file.specs.Parts.{IsNamePlace}

-- the view of a file whose parts are the front with the names, the tables of its terms, and the payloads
unfoldable pub view_of : List ℕ → List ℕ → TermTable → List ℕ → List ℕ → FileView
view_of front places terms groups payloads = record {
  index = record {
    names = map (name_in front) places;
    terms = row_terms payloads (length places) terms.heads terms.text groups terms.rows;
  };
  codecs = head_codecs (row_heads terms.heads terms.text terms.rows);
}

-- the parts and tables are those of a view
pub record Stands (front places : List ℕ) (terms : TermTable) (groups payloads : List ℕ) (v : FileView) : Type 0 where
  pub view : IsFileView v
  pub payloads_are : payloads ≡ view_payloads v
  pub names : v.index.names ≡ map (name_in front) places
  pub within : All (IsNamePlace front) places
  pub terms_are : v.index.terms ≡ row_terms payloads (length v.index.names) terms.heads terms.text groups terms.rows
  pub count : length terms.rows ≡ length v.index.terms + 1
  pub rows : AreRows terms.heads terms.text terms.rows
  pub codecs : v.codecs ≡ head_codecs (row_heads terms.heads terms.text terms.rows)
  pub placed : (t : ℕ) → t + 1 < length terms.rows → IsPlaced payloads (length v.index.names) groups (row_at terms.rows t)
      (heads_between terms.heads (row_at terms.rows t) (row_at terms.rows (t + 1)))
  pub long : 40 ≤ length front
  pub postings : u64_in front 24 ≡ index_postings v.index
  pub greatest : u32_in front 32 ≡ index_greatest v.index

-- the parts and tables, and the sampled terms
pub record IsOpened (front places : List ℕ) (terms : TermTable) (groups payloads samples : List ℕ) (v : FileView) : Type 0 where
  pub stands : Stands front places terms groups payloads v
  pub sampled : AreSamples terms.text terms.rows samples
