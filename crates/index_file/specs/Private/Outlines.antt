-- What stands before the payloads of a file, as tables.
use Rattle.std.specs.Prelude.{ℕ, ◌≡◌, ◌+◌, ◌≤◌, ◌<◌, List, length, map, drop, All, Option, None, Result, Ok}
use Rattle.jass_base.specs.Outside.{Files}
use Rattle.whole_files.specs.Windows.{AreFrom}
use Rattle.index_layout.specs.Bytes.{u32_in}
use Rattle.index_layout.specs.Heads.{all_heads}
use Rattle.index_layout.specs.Reading.{after_payloads, name_in, read_front, read_names, read_payloads, read_terms}
use Rattle.index_layout.specs.Refusals.{◌>>=◌}
use Rattle.index_layout.specs.View.{FileView}
use Rattle.index_layout.specs.declared.refusal.OpenRefusal.{OpenRefusal}
use Rattle.index_file.specs.declared.opening.LeadingParts.{LeadingParts}
use Rattle.index_file.specs.declared.outline.Outline.{Outline}
use Rattle.index_file.specs.Contents.{IsContent}
use Rattle.index_file.specs.Parts.{IsCounted}
use Rattle.index_file.specs.Sums.{AreSums}
use Rattle.index_file.specs.Private.Tables.{AreRows, row_heads}
use Rattle.jass_base.specs.declared.limits.TheConstants.{LONGEST_FILE, MOST_DOCUMENTS}

-- the name whose length stands at a place ends before another or there
abbrev pub EndsBefore : List ℕ → ℕ → ℕ → Type 0
EndsBefore bytes end at = at + 4 + u32_in bytes at ≤ end

-- the tables are those of a file with these bytes, whose names end at one place and whose terms at another
pub record IsOutline (bytes : List ℕ) (o : Outline) (names_end terms_end : ℕ) : Type 0 where
  pub front : read_front bytes ≡ Ok (record { docs = length o.places; terms = o.count })
  pub names : read_names bytes (length o.places) 40
      ≡ Ok (record { names = map (name_in bytes) o.places; end = names_end })
  pub terms_are : read_terms bytes (length o.places) o.count None names_end
      ≡ Ok (record { terms = row_heads o.terms.heads o.terms.text o.terms.rows; end = terms_end })
  pub before : All (EndsBefore bytes names_end) o.places
  pub rows : AreRows o.terms.heads o.terms.text o.terms.rows
  pub count : length o.terms.rows ≡ o.count + 1
  pub counted : All (IsCounted (length o.places)) o.terms.heads
  pub sums : AreSums o.sums (all_heads (row_heads o.terms.heads o.terms.text o.terms.rows))
  pub long : 40 ≤ names_end
  pub rises : names_end ≤ terms_end
  pub within : terms_end ≤ length bytes

-- what is read of the bytes behind an outline: the payloads from a place on, and the ends
abbrev pub after_outline : List ℕ → Outline → ℕ → Result FileView OpenRefusal
after_outline bytes o place =
    read_payloads bytes (length o.places) (row_heads o.terms.heads o.terms.text o.terms.rows) place
    >>= after_payloads bytes (map (name_in bytes) o.places) (row_heads o.terms.heads o.terms.text o.terms.rows)

-- the outline, the front with the names, and the payloads, which begin at a place, are those of a file with these bytes
pub record AreParts (bytes : List ℕ) (o : Outline) (front payloads : List ℕ) (place : ℕ) : Type 0 where
  pub outline : IsOutline bytes o (length front) place
  pub front_is : AreFrom bytes 0 front
  pub payloads_are : payloads ≡ drop place bytes
  pub fits : length bytes ≤ LONGEST_FILE
  pub few : length o.places ≤ MOST_DOCUMENTS
  pub small : All (λ byte. byte < 256) bytes

-- the names are those of each file of so many bytes which begins with this front, and it has so many terms
pub record FixesNames (front : List ℕ) (size count : ℕ) (places : List ℕ) : Type 0 where
  pub read : (bytes : List ℕ) → length bytes ≡ size → AreFrom bytes 0 front
      → read_front bytes ≡ Ok (record { docs = length places; terms = count })
  pub names : read_names front (length places) 40
      ≡ Ok (record { names = map (name_in front) places; end = length front })
  pub before : All (EndsBefore front (length front)) places
  pub long : 40 ≤ length front

-- the tables are those of each file of so many bytes which begins with this front, and behind that with these terms
abbrev pub FixesOutline : List ℕ → List ℕ → ℕ → Outline → Type 0
FixesOutline front terms size o =
    (bytes : List ℕ) → length bytes ≡ size → AreFrom bytes 0 front → AreFrom bytes (length front) terms
    → IsOutline bytes o (length front) (length front + length terms)

-- some terms were read behind the front of a file of so many bytes, from the content where it is told, and the tables
-- are theirs
pub record AreLeadingParts (files : Option Files) (name : List ℕ) (size : ℕ) (l : LeadingParts) (terms : List ℕ) : Type 0 where
  pub outline : FixesOutline l.names terms size l.outline
  pub place : l.place ≡ length l.names + length terms
  pub within : l.place ≤ size
  pub small : All (λ byte. byte < 256) terms
  pub few : length l.outline.places ≤ MOST_DOCUMENTS
  pub content : (content : List ℕ) → IsContent files name content
      → AreFrom content 0 l.names × AreFrom content (length l.names) terms
