-- The ids of the queries of a file stand in columns.
use Rattle.shared_lemmas.proofs.Common.{◌≡◌, ◌≢◌, ℕ, ◌+◌, ◌-◌, ◌<◌, ◌≤◌, ◌==◌, Bool, true, false, true≢false, List, [], ◌∷◌, length, get_or, take, filter, map, refl, sym, ap, subst, ◌∙◌, ◌⊎◌, inl, inr, arith, if◌then◌else◌, not, cases_Bool, eqb-true, eqb-false}
use Rattle.shared_lemmas.proofs.Common.{All, AllByRecursion, All-from_recursion, IsUtf8, is_utf8-from_IsUtf8, get_or-take, length-take-le, fails_before_first, position_or_len, slice_split, slice_split-cons_no, slice_split-cons_yes, strip_carriage_return}
use Rattle.shared_lemmas.proofs.Lists.{all_take}
use Rattle.std.proofs.lemmas.List.Sums.{passes_at_first, prefix_len-le-length}
use Rattle.std.proofs.lemmas.Str.{IsUtf8-take}
use Rattle.std.specs.List.{onto_first}
use Rattle.query_reader.specs.declared.mode.Mode.{Mode}
use Rattle.query_reader.specs.Queries.{AreQueryLines, IsQueryLine, QueryData, id_of, query_lines}
use Rattle.query_reader.specs.Texts.{has_items, is_blank}
use Rattle.text_lines.specs.Lines.{LineData, last_line, lines_of, lines_of_parts, numbered_from}
use Rattle.run_audit.specs.Rows.{IsColumn}

-- ---- lines have no line feeds

abbrev Plain : List ℕ → Type 0
Plain text = AllByRecursion (λ b. b ≢ 10) text

onto_plain : (b : ℕ) (parts : List (List ℕ)) → b ≢ 10 → AllByRecursion Plain parts → AllByRecursion Plain (onto_first b parts)
onto_plain b [] other h = ((other, tt), tt)
onto_plain b (part ∷ parts) other h = ((other, h.0), h.1)

parts_plain : (text : List ℕ) → AllByRecursion Plain (slice_split (λ b. b == 10) text)
parts_plain [] = (tt, tt)
parts_plain (b ∷ bytes) = by (cases_Bool (b == 10)) (parts_plain bytes) where
  by : ((b == 10) ≡ true) ⊎ ((b == 10) ≡ false) → AllByRecursion Plain (slice_split (λ b. b == 10) bytes) → AllByRecursion Plain (slice_split (λ b. b == 10) (b ∷ bytes))
  by (inl t) rest = subst (AllByRecursion Plain) (sym (slice_split-cons_yes (λ b. b == 10) b bytes t)) (tt, rest)
  by (inr f) rest = subst (AllByRecursion Plain) (sym (slice_split-cons_no (λ b. b == 10) b bytes f)) (onto_plain b (slice_split (λ b. b == 10) bytes) (eqb-false b 10 f) rest)

last_plain : (rest : List ℕ) → Plain rest → AllByRecursion Plain (last_line rest)
last_plain [] h = tt
last_plain (b ∷ bytes) h = (h, tt)

lines_plain : (parts : List (List ℕ)) → AllByRecursion Plain parts → AllByRecursion Plain (lines_of_parts parts)
lines_plain [] h = tt
lines_plain (rest ∷ []) h = last_plain rest h.0
lines_plain (line ∷ next ∷ parts) h = (h.0, lines_plain (next ∷ parts) h.1)

strip_plain : (line : List ℕ) → Plain line → Plain (strip_carriage_return line)
strip_plain line h = by (get_or line (length line - 1) 0 == 13) where
  by : (b : Bool) → Plain (if b then take (length line - 1) line else line)
  by true = all_take (λ b. b ≢ 10) (length line - 1) line h
  by false = h

strips_plain : (lines : List (List ℕ)) → AllByRecursion Plain lines → AllByRecursion Plain (map strip_carriage_return lines)
strips_plain [] h = tt
strips_plain (line ∷ lines) h = (strip_plain line h.0, strips_plain lines h.1)

all_plain : (text : List ℕ) → AllByRecursion Plain (lines_of text)
unfolding lines_of
all_plain text = strips_plain (lines_of_parts (slice_split (λ b. b == 10) text)) (lines_plain (slice_split (λ b. b == 10) text) (parts_plain text))

kept_plain : (number : ℕ) (lines : List (List ℕ)) → AllByRecursion Plain lines → AllByRecursion (λ (line : LineData). Plain line.bytes) (filter (λ (line : LineData). has_items line.bytes) (numbered_from number lines))
kept_plain number [] h = tt
kept_plain number ([] ∷ lines) h = kept_plain (number + 1) lines h.1
kept_plain number ((b ∷ bytes) ∷ lines) h = (h.0, kept_plain (number + 1) lines h.1)

-- ---- an id is a column

not_blank : (b : ℕ) → is_blank b ≡ false → (b ≢ 9) × (b ≢ 32)
not_blank b h = (nine, blank) where
  nine : b ≢ 9
  nine e = absurd (true≢false (sym (ap is_blank e) ∙ h))

  blank : b ≢ 32
  blank e = absurd (true≢false (sym (ap is_blank e) ∙ h))

blank_small : (b : ℕ) → is_blank b ≡ true → b < 128
blank_small b h =
    elim (cases_Bool (b == 32)) [ inl t ↦ let e : b ≡ 32 = eqb-true b 32 t in omega arith | inr f ↦ let e : b ≡ 9 = eqb-true b 9 (rw f at h) in omega arith ]

module _ (line : List ℕ) (utf8 : IsUtf8 line) (plain : Plain line) (some : id_of line ≢ []) where
  within : position_or_len is_blank line ≤ length line
  within = prefix_len-le-length (λ b. not (is_blank b)) line

  id_utf8 : IsUtf8 (id_of line)
  id_utf8 = IsUtf8-take line (position_or_len is_blank line) utf8 (
    within,
    λ inside high.
        let small = blank_small (get_or line (position_or_len is_blank line) 0) (passes_at_first is_blank line 0 inside) in absurd (omega (arith, small, high)),
  )

  id_some : 1 ≤ length (id_of line)
  id_some = by (id_of line) refl where
    by : (id : List ℕ) → id ≡ id_of line → 1 ≤ length id
    by [] is = absurd (some (sym is))
    by (b ∷ bytes) is = omega arith

  id_plain : All (λ b. (b ≢ 9) × (b ≢ 10) × (b ≢ 32)) (id_of line)
  id_plain i d inside =
      let before : i < position_or_len is_blank line = (let long = length-take-le (position_or_len is_blank line) line within in omega (arith, inside, long)) in
      let here : get_or (id_of line) i d ≡ get_or line i d = get_or-take (position_or_len is_blank line) line i d before in
      let other = not_blank (get_or line i d) (fails_before_first is_blank line i d before) in
      let feed : get_or line i d ≢ 10 = All-from_recursion (λ b. b ≢ 10) line plain i d (omega (arith, before, within)) in
      ((λ e. other.0 (sym here ∙ e)), (λ e. feed (sym here ∙ e)), (λ e. other.1 (sym here ∙ e)))

  pub id_column : IsColumn (id_of line)
  id_column = record { utf8 = is_utf8-from_IsUtf8 (id_of line) id_utf8; some = id_some; plain = id_plain }

-- ---- the ids of a file

columns_of_lines : (mode : Mode) (terms : List (List ℕ)) (lines : List LineData) (queries : List QueryData) → AllByRecursion (λ (line : LineData). Plain line.bytes) lines → AreQueryLines mode terms lines queries
    → AllByRecursion (λ (query : QueryData). IsColumn query.id) queries
columns_of_lines mode terms [] [] plain are = tt
columns_of_lines mode terms [] (query ∷ queries) plain are = absurd are
columns_of_lines mode terms (line ∷ lines) [] plain are = absurd are
columns_of_lines mode terms (line ∷ lines) (query ∷ queries) plain are =
    let is : IsQueryLine mode terms line.bytes query = are.0 in
    (subst IsColumn (sym is.id) (id_column line.bytes is.utf8 plain.0 (λ none. is.begins (is.id ∙ none))), columns_of_lines mode terms lines queries plain.1 are.1)

pub ids_are_columns : (bytes : List ℕ) (mode : Mode) (terms : List (List ℕ)) (queries : List QueryData) → AreQueryLines mode terms (query_lines bytes) queries → AllByRecursion (λ (query : QueryData). IsColumn query.id) queries
ids_are_columns bytes mode terms queries are = columns_of_lines mode terms (query_lines bytes) queries (kept_plain 1 (lines_of bytes) (all_plain bytes)) are
