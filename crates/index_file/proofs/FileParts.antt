-- The parts of a file: its outline, its front with the names, and its payloads.
use Rattle.shared_lemmas.proofs.Common.{◌≡◌, ◌<◌, ◌≤◌, ◌+◌, ℕ, suc, List, [], ◌∷◌, ◌++◌, length, map, take, drop, All, None, Result, Ok, ap, ap₂, sym, subst, ◌∙◌, refl, arith, slice_index_or, slice_range, length-take-le, drop-drop, length-append, All-append, take-append-drop, take_all}
use Rattle.std.proofs.Math.Seq.{drop-append-add, drop-append_seam, take-append_seam}
use Rattle.std.proofs.lemmas.List.{length-drop}
use Rattle.whole_files.specs.Windows.{AreFrom}
use Rattle.jass_base.specs.declared.limits.TheConstants.{LONGEST_FILE, MOST_DOCUMENTS}
use Rattle.index_layout.specs.Reading.{name_in, read_index}
use Rattle.index_file.proofs.Below.{u32_in, TermHeads, OpenRefusal, Front, NamesRead, TermsRead, read_front, read_names, read_terms, all_heads}
use Rattle.index_file.specs.declared.outline.Outline.{Outline}
use Rattle.index_file.specs.declared.sums.Sums.{Sums}
use Rattle.index_file.specs.declared.term_table.TermTable.{TermTable}
use Rattle.index_file.specs.Parts.{IsCounted}
use Rattle.index_file.specs.Sums.{AreSums}
use Rattle.index_file.specs.Private.Outlines.{AreParts, EndsBefore, IsOutline, FixesNames, FixesOutline, after_outline}
use Rattle.index_file.specs.Private.Gathered.{FixesTerms}
use Rattle.index_file.specs.Private.Tables.{AreRows, row_heads}
use Rattle.index_file.proofs.Joined.{names_on}
use Rattle.index_file.proofs.Pieces.{piece_range, piece_u32}
use Rattle.index_file.proofs.Reading.{front_there, names_there, terms_there}

abbrev front_told : ℕ → ℕ → Result Front OpenRefusal
front_told d n = Ok (record { docs = d; terms = n })

abbrev names_told : List (List ℕ) → ℕ → Result NamesRead OpenRefusal
names_told names end = Ok (record { names = names; end = end })

abbrev terms_told : List TermHeads → ℕ → Result TermsRead OpenRefusal
terms_told terms end = Ok (record { terms = terms; end = end })

-- an outline that was read, where the number of documents is known by another name
pub outline_at : (bytes : List ℕ) (o : Outline) (d names_end terms_end : ℕ) → length o.places ≡ d
    → read_front bytes ≡ front_told d o.count
    → read_names bytes d 40 ≡ names_told (map (name_in bytes) o.places) names_end
    → read_terms bytes d o.count None names_end ≡ terms_told (row_heads o.terms.heads o.terms.text o.terms.rows) terms_end
    → All (EndsBefore bytes names_end) o.places → AreRows o.terms.heads o.terms.text o.terms.rows → length o.terms.rows ≡ o.count + 1
    → All (IsCounted d) o.terms.heads → AreSums o.sums (all_heads (row_heads o.terms.heads o.terms.text o.terms.rows))
    → 40 ≤ names_end → names_end ≤ terms_end → terms_end ≤ length bytes → IsOutline bytes o names_end terms_end
outline_at bytes o d names_end terms_end same front names terms before rows count counted sums long rises within = record {
  front = front ∙ ap (λ d. front_told d o.count) (sym same);
  names = ap (λ d. read_names bytes d 40) same ∙ names;
  terms_are = ap (λ d. read_terms bytes d o.count None names_end) same ∙ terms;
  before = before;
  rows = rows;
  count = count;
  counted = subst (λ d. All (IsCounted d) o.terms.heads) (sym same) counted;
  sums = sums;
  long = long;
  rises = rises;
  within = within;
}

-- what is read up to the payloads
pub outline_reads : (bytes : List ℕ) (o : Outline) (names_end terms_end : ℕ) → IsOutline bytes o names_end terms_end → read_index bytes ≡ after_outline bytes o terms_end
outline_reads bytes o names_end terms_end is =
    let front : Front = record { docs = length o.places; terms = o.count } in
    let x : NamesRead = record { names = map (name_in bytes) o.places; end = names_end } in
    let y : TermsRead = record { terms = row_heads o.terms.heads o.terms.text o.terms.rows; end = terms_end } in
    front_there bytes front is.front ∙ names_there bytes front x is.names ∙ terms_there bytes front x y is.terms_are

-- the names of a front
module _ (bytes front : List ℕ) (from : AreFrom bytes 0 front) where
  pub front_within : 0 + length front ≤ length bytes
  front_within = (let e = from.within in omega (arith, e))

  name_same : (at : ℕ) → EndsBefore front (length front) at → name_in bytes at ≡ name_in front at
  unfolding name_in
  name_same at ends =
      let zero : 0 + at ≡ at = omega arith in
      let start : 0 + (at + 4) ≡ at + 4 = omega arith in
      let stop : 0 + (at + 4 + u32_in front at) ≡ at + 4 + u32_in front at = omega arith in
      let size : u32_in bytes at ≡ u32_in front at = sym (piece_u32 bytes front 0 at from (omega (arith, ends)) ∙ ap (u32_in bytes) zero) in
      ap (λ n. slice_range bytes (at + 4) (at + 4 + n)) size
      ∙ sym (piece_range bytes front 0 (at + 4) (at + 4 + u32_in front at) from (omega arith) ends ∙ ap₂ (slice_range bytes) start stop)

  pub names_same : (places : List ℕ) → All (EndsBefore front (length front)) places → map (name_in bytes) places ≡ map (name_in front) places
  names_same [] ends = refl
  names_same (at ∷ places) ends =
      ap₂ (λ (name : List ℕ) names. name ∷ names) (name_same at (ends 0 0 (omega arith))) (names_same places (λ i d inside. ends (suc i) d (omega (arith, inside))))

  pub ends_same : (places : List ℕ) → All (EndsBefore front (length front)) places → All (EndsBefore bytes (length front)) places
  ends_same places ends i d inside =
      let at = slice_index_or places i d in
      let e = ends i d inside in
      let zero : 0 + at ≡ at = omega arith in
      let size = piece_u32 bytes front 0 at from (omega (arith, e)) ∙ ap (u32_in bytes) zero in
      omega (arith, e, size)

  -- the same of names that are known to end among all bytes
  pub ends_back : (places : List ℕ) → All (EndsBefore bytes (length front)) places → All (EndsBefore front (length front)) places
  ends_back places ends i d inside =
      let at = slice_index_or places i d in
      let e = ends i d inside in
      let zero : 0 + at ≡ at = omega arith in
      let size = piece_u32 bytes front 0 at from (omega (arith, e)) ∙ ap (u32_in bytes) zero in
      omega (arith, e, size)

-- the outline of each file that begins with a front and terms
pub outline_joins : (front terms : List ℕ) (size count : ℕ) (places : List ℕ) (table : TermTable) (sums : Sums) → FixesNames front size count places → FixesTerms terms (length places) count table sums
    → FixesOutline front terms size (record { places = places; terms = table; count = count; sums = sums })
outline_joins front terms size count places table sums names are bytes long first second =
    let o : Outline = record { places = places; terms = table; count = count; sums = sums } in
    let inside = front_within bytes front first in
    let within : length front + length terms ≤ length bytes = (let e = second.within in let l = length-drop (length front) bytes in omega (arith, e, l, inside)) in
    let start : 0 + length front ≡ length front = omega arith in
    let read : read_names bytes (length places) 40 ≡ names_told (map (name_in bytes) places) (length front) =
    names_on bytes front 0 first inside (length places) 40 (record { names = map (name_in front) places; end = length front }) names.names
    ∙ ap₂ names_told (sym (names_same bytes front first places names.before)) start in
    outline_at bytes o (length places) (length front) (length front + length terms) refl (names.read bytes long first) read (are.read bytes (length front) second)
    (ends_same bytes front first places names.before) are.rows are.count_is are.counted are.sums_are names.long (omega arith) within

-- the parts of a file that is there as a whole
pub parts_of : (bytes front payloads : List ℕ) (o : Outline) (names_end terms_end : ℕ) → IsOutline bytes o names_end terms_end → front ≡ take names_end bytes → payloads ≡ drop terms_end bytes
    → length bytes ≤ LONGEST_FILE → length o.places ≤ MOST_DOCUMENTS → All (λ byte. byte < 256) bytes → AreParts bytes o front payloads terms_end
parts_of bytes front payloads o names_end terms_end is front_is payloads_is fits few small =
    let rises = is.rises in
    let inside : names_end ≤ length bytes = (let w = is.within in omega (arith, rises, w)) in
    let size : length front ≡ names_end = ap (λ (xs : List ℕ). length xs) front_is ∙ length-take-le names_end bytes inside in
    record {
      outline = subst (λ n. IsOutline bytes o n terms_end) (sym size) is;
      front_is = record { front = front_is ∙ ap (λ n. take n bytes) (sym size); within = omega (arith, size, inside) };
      payloads_are = payloads_is;
      fits = fits;
      few = few;
      small = small;
    }

-- the parts of a file that was read part by part
pub parts_join : (front terms payloads : List ℕ) (o : Outline) (place size : ℕ) → FixesOutline front terms size o → place ≡ length front + length terms → place + length payloads ≡ size
    → All (λ byte. byte < 256) front → All (λ byte. byte < 256) terms → All (λ byte. byte < 256) payloads → length o.places ≤ MOST_DOCUMENTS → size ≤ LONGEST_FILE
    → AreParts (front ++ (terms ++ payloads)) o front payloads place
parts_join front terms payloads o place size are place_is whole small_front small_terms small_payloads few fits =
    let bytes = front ++ (terms ++ payloads) in
    let one = length-append front (terms ++ payloads) in
    let two = length-append terms payloads in
    let long : length bytes ≡ size = omega (arith, one, two, place_is, whole) in
    let behind : drop (length front) bytes ≡ terms ++ payloads = drop-append_seam front (terms ++ payloads) in
    let first : AreFrom bytes 0 front = record { front = sym (take-append_seam front (terms ++ payloads)); within = omega (arith, one) } in
    let second : AreFrom bytes (length front) terms = record {
      front = sym (ap (take (length terms)) behind ∙ take-append_seam terms payloads);
      within = (let e = ap (λ (xs : List ℕ). length xs) behind in omega (arith, e, two));
    } in
    record {
      outline = subst (IsOutline bytes o (length front)) (sym place_is) (are bytes long first second);
      front_is = first;
      payloads_are = sym (ap (λ n. drop n bytes) place_is ∙ drop-append-add front (terms ++ payloads) (length terms) ∙ drop-append_seam terms payloads);
      fits = omega (arith, long, fits);
      few = few;
      small = All-append (λ byte. byte < 256) front (terms ++ payloads) small_front (All-append (λ byte. byte < 256) terms payloads small_terms small_payloads);
    }

-- a part that reaches to the end
pub rest_is : (content rest : List ℕ) (place : ℕ) → AreFrom content place rest → place + length rest ≡ length content → rest ≡ drop place content
rest_is content rest place is whole =
    let size = length-drop place content in
    is.front ∙ take_all (length rest) (drop place content) (omega (arith, size, whole))

-- a content is its parts
pub content_joins : (content front terms payloads : List ℕ) (place : ℕ) → AreFrom content 0 front → AreFrom content (length front) terms → place ≡ length front + length terms → payloads ≡ drop place content
    → content ≡ front ++ (terms ++ payloads)
content_joins content front terms payloads place first second place_is rest =
    sym (take-append-drop (length front) content)
    ∙ ap₂ (λ (xs ys : List ℕ). xs ++ ys) (sym first.front)
    (sym (take-append-drop (length terms) (drop (length front) content))
    ∙ ap₂ (λ (xs ys : List ℕ). xs ++ ys) (sym second.front) (drop-drop (length terms) (length front) content ∙ ap (λ n. drop n content) (sym place_is) ∙ sym rest))
