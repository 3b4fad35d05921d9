-- Terms that are read where they are held, one behind the other.
use Rattle.shared_lemmas.proofs.Common.{◌≡◌, ◌+◌, ◌-◌, ◌*◌, ◌≤◌, ◌<◌, ℕ, suc, arith, List, [], ◌∷◌, ◌++◌, length, take, drop, All, All-append, Option, None, Some, Result, Ok, ap, ap₂, sym, subst, ◌∙◌, length-append, length-drop, drop-drop, take-add, take-append_seam, slice_range}
use Rattle.std.proofs.Math.Seq.{drop-append_seam}
use Rattle.std.proofs.lemmas.List.{append-nil}
use Rattle.jass_base.specs.Outside.{Files}
use Rattle.whole_files.specs.Windows.{AreFrom}
use Rattle.whole_files.proofs.Windows.{later_from, none_from}
use Rattle.index_file.specs.declared.sums.Sums.{Sums}
use Rattle.index_file.specs.declared.term_reader.TermReader.{TermReader}
use Rattle.index_file.specs.declared.term_table.TermTable.{TermTable}
use Rattle.index_file.specs.Contents.{IsContent}
use Rattle.index_file.specs.Private.Gathered.{AreTerms, FixesTerms, IsReader, ReadsOne, last_read, rows_read, terms_read}
use Rattle.index_file.proofs.Below.{OpenRefusal, TermHeads, TermsRead, read_terms, with_terms}
use Rattle.index_file.proofs.ContentReads.{first_from}
use Rattle.index_file.proofs.Joined.{terms_on}
use Rattle.index_file.proofs.TermSteps.{all_terms, one_on}

-- the first of two lists that stand in a content, and the second
first_of : (content xs ys : List ℕ) (start : ℕ) → AreFrom content start (xs ++ ys) → AreFrom content start xs
first_of content xs ys start is =
    let size = length-append xs ys in
    subst (AreFrom content start) (take-append_seam xs ys) (first_from content (xs ++ ys) start (length xs) is (omega (arith, size)))

second_of : (content xs ys : List ℕ) (start : ℕ) → AreFrom content start (xs ++ ys) → AreFrom content (start + length xs) ys
second_of content xs ys start is =
    let size = length-append xs ys in
    let cut : length xs ≡ start + length xs - start = omega arith in
    later_from content (xs ++ ys) ys start (start + length xs) is (omega arith) (omega (arith, size)) (sym (drop-append_seam xs ys) ∙ ap (λ n. drop n (xs ++ ys)) cut)

both_from : (content xs ys : List ℕ) (start : ℕ) → AreFrom content start xs → AreFrom content (start + length xs) ys → AreFrom content start (xs ++ ys)
both_from content xs ys start first second =
    let size = length-append xs ys in
    record {
      front = ap₂ (λ (xs ys : List ℕ). xs ++ ys) first.front (second.front ∙ ap (take (length ys)) (sym (drop-drop (length xs) start content)))
          ∙ sym (take-add (length xs) (length ys) (drop start content)) ∙ ap (λ n. take n (drop start content)) (sym size);
      within = omega (arith, size, first.within, second.within, length-drop start content, length-drop (start + length xs) content);
    }

-- a part of what a window holds
pub held_from : (content bytes : List ℕ) (start from to : ℕ) → AreFrom content start bytes → from ≤ to → to ≤ length bytes → AreFrom content (start + from) (slice_range bytes from to)
held_from content bytes start from to is order inside =
    let cut : start + from - start ≡ from = omega arith in
    let rest : AreFrom content (start + from) (drop from bytes) = later_from content bytes (drop from bytes) start (start + from) is (omega arith) (omega (arith, order, inside)) (ap (λ n. drop n bytes) (sym cut)) in
    first_from content (drop from bytes) (start + from) (to - from) rest (omega (arith, order, inside, length-drop from bytes))

-- so many terms were read of some bytes, wherever these stand
pub record Gathers (terms : List ℕ) (docs count : ℕ) (r : TermReader) : Type 0 where
  pub read : (bytes : List ℕ) (from left : ℕ) → AreFrom bytes from terms
      → read_terms bytes docs (count + left) None from ≡ with_terms (terms_read r) (read_terms bytes docs left (last_read r) (from + length terms))
  pub heads : 11 * length r.heads ≤ length terms
  pub rows : length r.rows ≡ count

-- none
pub gathers_none : (docs : ℕ) (r : TermReader) → terms_read r ≡ [] → last_read r ≡ None → length r.rows ≡ 0 → length r.heads ≡ 0 → Gathers [] docs 0 r
gathers_none docs r none last rows heads = record {
  read = λ bytes from left is.
      let at : from ≡ from + 0 = omega arith in
      let many : 0 + left ≡ left = omega arith in
      ap (λ n. read_terms bytes docs n None from) many
      ∙ all_terms bytes docs left from (terms_read r) (last_read r) none last ∙ ap (λ n. with_terms (terms_read r) (read_terms bytes docs left (last_read r) n)) at;
  heads = omega (arith, heads);
  rows = rows;
}

-- one more
pub gathers_on : (terms here : List ℕ) (docs count : ℕ) (old new : TermReader) (term : TermHeads) → Gathers terms docs count old → ReadsOne here docs 0 (length here) old new term → 1 ≤ length here
    → Gathers (terms ++ here) docs (count + 1) new
gathers_on terms here docs count old new term was one some =
    let size = length-append terms here in
    record {
      read = λ bytes from left is.
          let first = first_of bytes terms here from is in
          let at = from + length terms in
          let second : AreFrom bytes at here = second_of bytes terms here from is in
          let within : at + length here ≤ length bytes = omega (arith, second.within, some, length-drop at bytes) in
          let zero_on : at + 0 ≡ at = omega arith in
          let single : read_terms bytes docs 1 (last_read old) at ≡ Ok (record { terms = term ∷ []; end = at + length here }) =
          ap (read_terms bytes docs 1 (last_read old)) (sym zero_on) ∙ terms_on bytes here at second within docs 1 (last_read old) 0 (record { terms = term ∷ []; end = length here }) one.read in
          let many : count + 1 + left ≡ count + (left + 1) = omega arith in
          let more : left + 1 ≡ suc left = omega arith in
          let end : at + length here ≡ from + length (terms ++ here) = omega (arith, size) in
          ap (λ n. read_terms bytes docs n None from) many
          ∙ one_on bytes docs left (last_read old) at (at + length here) term (read_terms bytes docs (count + (left + 1)) None from) (terms_read old) (left + 1) single (was.read bytes from (left + 1) first) more
          ∙ ap (λ (front : List TermHeads). with_terms front (read_terms bytes docs left (Some term.term) (at + length here))) (sym one.terms)
          ∙ ap (λ last. with_terms (terms_read new) (read_terms bytes docs left last (at + length here))) (sym one.last)
          ∙ ap (λ n. with_terms (terms_read new) (read_terms bytes docs left (last_read new) n)) end;
      heads = (let h = one.heads in omega (arith, was.heads, h, size));
      rows = omega (arith, was.rows, one.count);
    }

-- all
pub gathers_all : (terms : List ℕ) (docs count : ℕ) (r : TermReader) (table : TermTable) (sums : Sums) → Gathers terms docs count r → IsReader docs r
    → table ≡ record { text = r.text; rows = rows_read r; heads = r.heads } → sums ≡ r.sums → FixesTerms terms docs count table sums
gathers_all terms docs count r table sums was is table_is sums_is =
    subst (λ (t : TermTable). FixesTerms terms docs count t sums) (sym table_is)
    (subst (λ (s : Sums). FixesTerms terms docs count (record { text = r.text; rows = rows_read r; heads = r.heads }) s) (sym sums_is) (record {
      read = λ bytes from at.
          let none : count ≡ count + 0 = omega arith in
          ap (λ n. read_terms bytes docs n None from) none ∙ was.read bytes from 0 at
          ∙ ap (λ (terms_are : List TermHeads). (let x : Result TermsRead OpenRefusal = Ok (record { terms = terms_are; end = from + length terms }) in x)) (append-nil (terms_read r));
      rows = is.rows;
      count_is = length-append r.rows _ ∙ ap (λ n. n + 1) was.rows;
      counted = is.counted;
      sums_are = is.sums;
    }))

-- where the terms stand
pub are_none : (files : Option Files) (name : List ℕ) (from to : ℕ) → to ≡ from → AreTerms files name from to []
are_none files name from to same = record {
  place = omega (arith, same);
  small = λ i d inside. absurd (omega (arith, inside));
  content = λ content told. none_from content from;
}

pub are_on : (files : Option Files) (name terms here : List ℕ) (from at to : ℕ) → AreTerms files name from at terms → All (λ byte. byte < 256) here → to ≡ at + length here
    → ((content : List ℕ) → IsContent files name content → AreFrom content at here) → AreTerms files name from to (terms ++ here)
are_on files name terms here from at to was small end shown =
    let size = length-append terms here in
    record {
      place = omega (arith, was.place, end, size);
      small = All-append (λ byte. byte < 256) terms here was.small small;
      content = λ content told. both_from content terms here from (was.content content told) (subst (λ n. AreFrom content n here) was.place (shown content told));
    }
