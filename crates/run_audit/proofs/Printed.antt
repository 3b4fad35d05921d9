-- Rows that are printed are read as they are.
use Rattle.shared_lemmas.proofs.Common.{◌≡◌, ◌≢◌, ℕ, suc, ◌+◌, ◌-◌, ◌<◌, ◌≤◌, ◌^◌, ◌==◌, true, false, List, [], ◌∷◌, ◌++◌, length, zero, get_or, filter, list_all, refl, sym, ap, ap₂, subst, ◌∙◌, ◌⊎◌, inl, inr, arith, Some, codes, decimal, nat_lt, nat_le}
use Rattle.shared_lemmas.proofs.Common.{All, AllByRecursion, All-append, All-weaker, All-from_recursion, IsAscii, IsUtf8, is_utf8, IsUtf8-from_is_utf8, is_utf8-from_IsUtf8, IsUtf8-from_ascii, append_assoc, length-append, length-decimal-le, get_or-append-add, slice_split_at, slice_split_none}
use Rattle.shared_lemmas.proofs.Common.{digits_value, digit_value, is_ascii_digit, strip_carriage_return, cases_lt, flat_map-cons, ne_eqb, le-leb, lt-ltb, nat_tests}
use Rattle.std.proofs.lemmas.Str.{IsUtf8-append}
use Rattle.std.proofs.lemmas.Fmt.{decimal_is_IsNumeral}
use Rattle.std.specs.Str.Parse.{AllDigits}
use Rattle.jass_base.specs.Decimal.{decimal_of}
use Rattle.ranking_model.specs.Report.{run_line}
use Rattle.text_lines.specs.Lines.{lines_of}
use Rattle.trec_run.specs.declared.run_line.RunLine.{RunLine}
use Rattle.trec_run.specs.Runs.{IsRunLine, AreRunLines, columns_of, has_bytes, is_blank}
use Rattle.run_audit.specs.Rows.{IsColumn, IsPrintable, rows_text}

-- ---- decimals

abbrev pub IsDigit : ℕ → Type 0
IsDigit b = (48 ≤ b) × (b ≤ 57)

digit_is : (c : ℕ) → digit_value c < 10 → IsDigit c
digit_is c h = by (cases_lt c 48) (cases_lt c 58) where
  by : (c < 48) ⊎ (48 ≤ c) → (c < 58) ⊎ (58 ≤ c) → IsDigit c
  by (inl low) q = absurd (grind (arith, nat_tests))
  by (inr above) (inl below) = (above, omega (arith, below))
  by (inr above) (inr past) = absurd (grind (arith, nat_tests))

digits_are : (ds : List ℕ) → AllDigits 10 ds → AllByRecursion IsDigit ds
digits_are [] h = tt
digits_are (c ∷ cs) h = (digit_is c h.0, digits_are cs h.1)

digits_pass : (ds : List ℕ) → AllByRecursion IsDigit ds → list_all is_ascii_digit ds ≡ true
digits_pass [] h = refl
digits_pass (c ∷ cs) h = let low = le-leb 48 c h.0.0 in let high = le-leb c 57 h.0.1 in rw (low, high, digits_pass cs h.1) refl

pub small_ascii : (ds : List ℕ) → AllByRecursion (λ b. b < 128) ds → IsAscii ds
small_ascii [] h i = omega arith
small_ascii (d ∷ ds) h zero = h.0
small_ascii (d ∷ ds) h (suc i) = small_ascii ds h.1 i

pub digits_small : (ds : List ℕ) → AllByRecursion IsDigit ds → AllByRecursion (λ b. b < 128) ds
digits_small [] h = tt
digits_small (d ∷ ds) h = (omega (arith, h.0.1), digits_small ds h.1)

module _ (n : ℕ) (small : n < 2 ^ 64) where
  pub decimal_digits : AllByRecursion IsDigit (decimal n)
  decimal_digits = digits_are (decimal n) (decimal_is_IsNumeral n small).0.1

  pub decimal_some : 1 ≤ length (decimal n)
  decimal_some = omega (arith, (decimal_is_IsNumeral n small).0.0)

  decimal_read : decimal_of (decimal n) ≡ Some n
  decimal_read =
      let value = (decimal_is_IsNumeral n small).1 in
      let one : nat_le 1 (length (decimal n)) ≡ true = le-leb _ _ decimal_some in
      let twenty : nat_le (length (decimal n)) 20 ≡ true = le-leb _ _ (length-decimal-le 20 n (omega arith) (omega (arith, small)) small) in
      let all = digits_pass (decimal n) decimal_digits in
      let fits : nat_lt (digits_value 10 (decimal n)) (2 ^ 64) ≡ true = lt-ltb _ _ (subst (λ m. m < 2 ^ 64) (sym value) small) in
      rw (one, twenty, all, fits) (ap (λ m. Some m) value)

-- ---- columns of a line

pub plain_blank : (b : ℕ) → (b ≢ 9) × (b ≢ 10) × (b ≢ 32) → is_blank b ≡ false
plain_blank b h = let nine : (b == 9) ≡ false = ne_eqb _ _ h.0 in let blank : (b == 32) ≡ false = ne_eqb _ _ h.2 in rw (nine, blank) refl

digit_blank : (b : ℕ) → IsDigit b → is_blank b ≡ false
digit_blank b h = plain_blank b ((λ e. absurd (omega (arith, h.0, e))), (λ e. absurd (omega (arith, h.0, e))), (λ e. absurd (omega (arith, h.0, e))))

has_some : (text : List ℕ) → 1 ≤ length text → has_bytes text ≡ true
has_some [] h = absurd (omega (arith, h))
has_some (b ∷ bytes) h = refl

-- the first column, with a blank behind it
column_first : (text rest : List ℕ) → All (λ b. is_blank b ≡ false) text → 1 ≤ length text → columns_of (text ++ 32 ∷ rest) ≡ text ∷ columns_of rest
unfolding columns_of
column_first text rest plain some = ap (filter has_bytes) (slice_split_at is_blank text 32 rest plain refl) ∙ rw (has_some text some) refl

column_last : (text : List ℕ) → All (λ b. is_blank b ≡ false) text → 1 ≤ length text → columns_of text ≡ text ∷ []
unfolding columns_of
column_last text plain some = ap (filter has_bytes) (slice_split_none is_blank text plain) ∙ rw (has_some text some) refl

-- ---- a row's line

-- pieces of a text, with an end
abbrev joined : List (List ℕ) → List ℕ → List ℕ
joined [] end = end
joined (piece ∷ pieces) end = piece ++ joined pieces end

joined_ends : (pieces : List (List ℕ)) (end : List ℕ) → joined pieces end ≡ joined pieces [] ++ end
joined_ends [] end = refl
joined_ends (piece ∷ pieces) end = ap (λ text. piece ++ text) (joined_ends pieces end) ∙ sym (append_assoc piece (joined pieces []) end)

-- what a row's line has before its tag, and the line without its end
abbrev before_tag : RunLine → List (List ℕ)
before_tag row = row.id ∷ codes " Q0 " ∷ row.name ∷ codes " " ∷ decimal row.rank ∷ codes " " ∷ decimal row.score ∷ codes " " ∷ []

abbrev line_of : RunLine → List ℕ
line_of row = joined (before_tag row) row.tag

line_ends : (row : RunLine) → run_line row.id row.name row.tag row.rank row.score ≡ line_of row ++ 10 ∷ []
line_ends row = joined_ends (before_tag row) (row.tag ++ 10 ∷ []) ∙ sym (append_assoc (joined (before_tag row) []) row.tag (10 ∷ [])) ∙ ap (λ text. text ++ 10 ∷ []) (sym (joined_ends (before_tag row) row.tag))

module _ (row : RunLine) (is : IsPrintable row) where
  not_blank : (text : List ℕ) → IsColumn text → All (λ b. is_blank b ≡ false) text
  not_blank text column = All-weaker _ (λ b. is_blank b ≡ false) (λ b h. plain_blank b h) text column.plain

  number_blank : (n : ℕ) → n < 2 ^ 64 → All (λ b. is_blank b ≡ false) (decimal n)
  number_blank n small = All-weaker IsDigit (λ b. is_blank b ≡ false) digit_blank (decimal n) (All-from_recursion IsDigit (decimal n) (decimal_digits n small))

  columns : columns_of (line_of row) ≡ row.id ∷ codes "Q0" ∷ row.name ∷ decimal row.rank ∷ decimal row.score ∷ row.tag ∷ []
  columns =
      column_first row.id _ (not_blank row.id is.id) is.id.some
      ∙ ap (λ cs. row.id ∷ cs) (column_first (81 ∷ 48 ∷ []) _ (All-from_recursion (λ b. is_blank b ≡ false) (81 ∷ 48 ∷ []) (refl, (refl, tt))) (omega arith)
      ∙ ap (λ cs. (81 ∷ 48 ∷ []) ∷ cs) (column_first row.name _ (not_blank row.name is.name) is.name.some
      ∙ ap (λ cs. row.name ∷ cs) (column_first (decimal row.rank) _ (number_blank row.rank is.rank) (decimal_some row.rank is.rank)
      ∙ ap (λ cs. decimal row.rank ∷ cs) (column_first (decimal row.score) _ (number_blank row.score is.score) (decimal_some row.score is.score)
      ∙ ap (λ cs. decimal row.score ∷ cs) (column_last row.tag (not_blank row.tag is.tag.column) is.tag.column.some)))))

  number_utf8 : (n : ℕ) → n < 2 ^ 64 → IsUtf8 (decimal n)
  number_utf8 n small = IsUtf8-from_ascii (decimal n) (small_ascii (decimal n) (digits_small (decimal n) (decimal_digits n small)))

  blank_utf8 : IsUtf8 (codes " ")
  blank_utf8 = IsUtf8-from_ascii (codes " ") (small_ascii (codes " ") (omega arith, tt))

  mark_utf8 : IsUtf8 (codes " Q0 ")
  mark_utf8 = IsUtf8-from_ascii (codes " Q0 ") (small_ascii (codes " Q0 ") (omega arith, (omega arith, (omega arith, (omega arith, tt)))))

  text_utf8 : (text : List ℕ) → IsColumn text → IsUtf8 text
  text_utf8 text column = IsUtf8-from_is_utf8 text column.utf8

  line_utf8 : is_utf8 (line_of row) ≡ true
  line_utf8 = is_utf8-from_IsUtf8 (line_of row)
      (IsUtf8-append row.id _ (text_utf8 row.id is.id)
      (IsUtf8-append (codes " Q0 ") _ mark_utf8
      (IsUtf8-append row.name _ (text_utf8 row.name is.name)
      (IsUtf8-append (codes " ") _ blank_utf8
      (IsUtf8-append (decimal row.rank) _ (number_utf8 row.rank is.rank)
      (IsUtf8-append (codes " ") _ blank_utf8
      (IsUtf8-append (decimal row.score) _ (number_utf8 row.score is.score)
      (IsUtf8-append (codes " ") _ blank_utf8 (text_utf8 row.tag is.tag.column)))))))))

  pub line_is_row : IsRunLine (line_of row) row
  line_is_row = record { text = line_utf8; rank = decimal row.rank; score = decimal row.score; columns = columns; ranked = decimal_read row.rank is.rank; scored = decimal_read row.score is.score }

  -- ---- the line among others

  no_feeds : All (λ b. b ≢ 10) (line_of row)
  no_feeds =
      let text = λ (xs : List ℕ) (column : IsColumn xs). All-weaker (λ (b : ℕ). (b ≢ 9) × (b ≢ 10) × (b ≢ 32)) (λ b. b ≢ 10) (λ b h. h.1) xs column.plain in
      let number = λ (n : ℕ) (small : n < 2 ^ 64). All-weaker IsDigit (λ b. b ≢ 10) (λ b h e. absurd (omega (arith, h.0, e))) (decimal n) (All-from_recursion IsDigit (decimal n) (decimal_digits n small)) in
      let blank : All (λ b. b ≢ 10) (codes " ") = All-from_recursion (λ b. b ≢ 10) (codes " ") ((λ e. absurd (omega (arith, e))), tt) in
      let mark : All (λ b. b ≢ 10) (codes " Q0 ") = All-from_recursion (λ b. b ≢ 10) (codes " Q0 ") ((λ e. absurd (omega (arith, e))), ((λ e. absurd (omega (arith, e))), ((λ e. absurd (omega (arith, e))), ((λ e. absurd (omega (arith, e))), tt)))) in
      All-append (λ b. b ≢ 10) row.id _ (text row.id is.id)
      (All-append (λ b. b ≢ 10) (codes " Q0 ") _ mark
      (All-append (λ b. b ≢ 10) row.name _ (text row.name is.name)
      (All-append (λ b. b ≢ 10) (codes " ") _ blank
      (All-append (λ b. b ≢ 10) (decimal row.rank) _ (number row.rank is.rank)
      (All-append (λ b. b ≢ 10) (codes " ") _ blank
      (All-append (λ b. b ≢ 10) (decimal row.score) _ (number row.score is.score)
      (All-append (λ b. b ≢ 10) (codes " ") _ blank (text row.tag is.tag.column))))))))

  some_bytes : 1 ≤ length (line_of row)
  some_bytes = let whole = length-append row.id (joined (codes " Q0 " ∷ row.name ∷ codes " " ∷ decimal row.rank ∷ codes " " ∷ decimal row.score ∷ codes " " ∷ []) row.tag) in omega (arith, whole, is.id.some)

  no_return : strip_carriage_return (line_of row) ≡ line_of row
  no_return =
      let front = joined (before_tag row) [] in
      let n = length row.tag - 1 in
      let parted : line_of row ≡ front ++ row.tag = joined_ends (before_tag row) row.tag in
      let size : length (line_of row) ≡ length front + length row.tag = ap length parted ∙ length-append front row.tag in
      let place : length (line_of row) - 1 ≡ length front + n = omega (arith, size, is.tag.column.some) in
      let last : get_or (line_of row) (length (line_of row) - 1) 0 ≡ get_or row.tag n 0 = ap₂ (λ text i. get_or text i 0) parted place ∙ get_or-append-add front row.tag n 0 in
      let other : get_or row.tag n 0 ≢ 13 = is.tag.plain n 0 (omega (arith, is.tag.column.some)) in
      let fails : (get_or (line_of row) (length (line_of row) - 1) 0 == 13) ≡ false = ne_eqb _ _ (λ e. other (sym last ∙ e)) in
      rw fails refl

  -- the row's line is the first of a text that begins with it
  pub line_first : ((line rest : List ℕ) → All (λ b. b ≢ 10) line → lines_of (line ++ 10 ∷ rest) ≡ strip_carriage_return line ∷ lines_of rest)
      → (text : List ℕ) → filter has_bytes (lines_of (run_line row.id row.name row.tag row.rank row.score ++ text)) ≡ line_of row ∷ filter has_bytes (lines_of text)
  line_first more text =
      ap (λ all. filter has_bytes (lines_of all)) (ap (λ line. line ++ text) (line_ends row) ∙ append_assoc (line_of row) (10 ∷ []) text)
      ∙ ap (filter has_bytes) (more (line_of row) text no_feeds ∙ ap (λ line. line ∷ lines_of text) no_return)
      ∙ rw (has_some (line_of row) some_bytes) refl

-- printed rows are the lines of their text
pub rows_are_lines : lines_of [] ≡ [] → ((line rest : List ℕ) → All (λ b. b ≢ 10) line → lines_of (line ++ 10 ∷ rest) ≡ strip_carriage_return line ∷ lines_of rest)
    → (rows : List RunLine) → AllByRecursion IsPrintable rows → AreRunLines (filter has_bytes (lines_of (rows_text rows))) rows
rows_are_lines none more [] are = rw none tt
rows_are_lines none more (row ∷ rows) are =
    let lines = ap (λ text. filter has_bytes (lines_of text)) (flat_map-cons (λ row. run_line row.id row.name row.tag row.rank row.score) row rows) ∙ line_first row are.0 more (rows_text rows) in
    subst (λ ls. AreRunLines ls (row ∷ rows)) (sym lines) (line_is_row row are.0, rows_are_lines none more rows are.1)
