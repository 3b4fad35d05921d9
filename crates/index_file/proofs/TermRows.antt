-- Rows of terms while their texts and heads grow.
use Rattle.shared_lemmas.proofs.Common.{◌≡◌, ◌+◌, ◌-◌, ◌≤◌, ℕ, length, arith, List, [], ◌∷◌, ◌++◌, ap, sym, subst, ◌∙◌, refl, max, append_assoc, length-append, sum_by-cons, sum_by-append}
use Rattle.std.proofs.lemmas.Grind.{flat_map-append}
use Rattle.std.proofs.lemmas.List.{append-nil}
use Rattle.index_file.proofs.Below.{HeadData, TermHeads, all_heads, greatest_of}
use Rattle.index_file.specs.declared.sums.Sums.{Sums}
use Rattle.index_file.specs.Sums.{AreSums}
use Rattle.index_file.specs.declared.term_row.TermRow.{TermRow}
use Rattle.index_file.specs.declared.span.Span.{Span}
use Rattle.shared_lemmas.proofs.Places.{slice_stays, slice_new}
use Rattle.index_file.proofs.RowOrder.{heads_below, text_below}
use Rattle.index_file.specs.Private.Tables.{IsSpan, RowsFrom, AreRows, closed, group_count, part_of, row_heads}

part_new : (text term : List ℕ) (span : Span) → span.from ≡ length text → span.to ≡ length (text ++ term) → part_of (text ++ term) span ≡ term
unfolding part_of
part_new text term span from to = slice_new text term span.from span.to from to

-- one term more: its row takes the place of the last, and a new last one stands behind it
module _ (heads more : List HeadData) (text term : List ℕ) (last row after : TermRow) (at_text : row.text ≡ last.text) (at_head : row.head ≡ last.head) (at_group : row.group ≡ last.group)
    (last_text : last.text ≡ length text) (last_head : last.head ≡ length heads) (after_text : after.text ≡ length (text ++ term)) (after_head : after.head ≡ length (heads ++ more))
    (after_group : after.group ≡ row.group + group_count (after.head - row.head)) (some : 1 ≤ length more) where
  abbrev pushed : TermHeads
  pushed = record { term = term; heads = more }

  one_row : RowsFrom (heads ++ more) (text ++ term) row (after ∷ [])
  one_row =
      let l = length-append text term in
      let h = length-append heads more in
      (omega (arith, l, at_text, last_text, after_text), omega (arith, h, at_head, last_head, after_head, some), after_group, (after_text, after_head))

  rows_push : (a : TermRow) (rows : List TermRow) → RowsFrom heads text a (rows ++ last ∷ []) → RowsFrom (heads ++ more) (text ++ term) a (rows ++ row ∷ after ∷ [])
  rows_push a [] are = (
    omega (arith, are.0, at_text),
    omega (arith, are.1, at_head),
    at_group ∙ are.2 ∙ ap (λ h. a.group + group_count (h - a.head)) (sym at_head),
    one_row,
  )
  rows_push a (b ∷ rows) are = (are.0, are.1, are.2, rows_push b rows are.3)

  are_push : (rows : List TermRow) → AreRows heads text (rows ++ last ∷ []) → AreRows (heads ++ more) (text ++ term) (rows ++ row ∷ after ∷ [])
  are_push [] are = (at_text ∙ are.0, at_head ∙ are.1, at_group ∙ are.2, one_row)
  are_push (a ∷ rows) are = (are.0, are.1, are.2, rows_push a rows are.3)

  heads_push : (rows : List TermRow) → AreRows heads text (rows ++ last ∷ [])
      → row_heads (heads ++ more) (text ++ term) (rows ++ row ∷ after ∷ []) ≡ row_heads heads text (rows ++ last ∷ []) ++ pushed ∷ []
  heads_push [] are =
      rw (slice_new text term row.text after.text (at_text ∙ last_text) after_text, slice_new heads more row.head after.head (at_head ∙ last_head) after_head) refl
  heads_push (a ∷ rows) are = behind a rows are.3
    where
      behind : (a : TermRow) (rows : List TermRow) → RowsFrom heads text a (rows ++ last ∷ [])
          → row_heads (heads ++ more) (text ++ term) (a ∷ (rows ++ row ∷ after ∷ [])) ≡ row_heads heads text (a ∷ (rows ++ last ∷ [])) ++ pushed ∷ []
      behind a [] are =
          let rises : a.head ≤ last.head = omega (arith, are.1) in
          rw (
            slice_new text term row.text after.text (at_text ∙ last_text) after_text,
            slice_new heads more row.head after.head (at_head ∙ last_head) after_head,
            at_text,
            at_head,
            slice_stays text term a.text last.text are.0 (omega (arith, last_text)),
            slice_stays heads more a.head last.head rises (omega (arith, last_head)),
          ) refl
      behind a (b ∷ rows) are =
          let rises : a.head ≤ b.head = omega (arith, are.1) in
          rw (
            slice_stays text term a.text b.text are.0 (text_below heads text b (rows ++ last ∷ []) are.3),
            slice_stays heads more a.head b.head rises (heads_below heads text b (rows ++ last ∷ []) are.3),
            behind b rows are.3,
          ) refl

-- the rows with a term more, the sums of whose heads are known
pub record RowsThere (heads : List HeadData) (text : List ℕ) (rows : List TermRow) (groups : ℕ) (terms : List TermHeads) (sums : Sums) (span : Span) (term : List ℕ) : Type 0 where
  pub terms_are : row_heads heads text (closed rows text heads groups) ≡ terms
  pub are : AreRows heads text (closed rows text heads groups)
  pub sums_are : AreSums sums (all_heads (row_heads heads text (closed rows text heads groups)))
  pub span_is : IsSpan text span
  pub part : part_of text span ≡ term

pub rows_next : (heads more longer : List HeadData) (text term newer : List ℕ) (rows newest : List TermRow) (row : TermRow) (groups next : ℕ) (sums : Sums) (span : Span)
    → longer ≡ heads ++ more → newer ≡ text ++ term → newest ≡ rows ++ row ∷ [] → AreRows heads text (closed rows text heads groups)
    → row.text ≡ length text → row.head ≡ length heads → row.group ≡ groups → 1 ≤ length more → next ≡ groups + group_count (length more)
    → AreSums sums (all_heads (row_heads heads text (closed rows text heads groups)) ++ more)
    → span.from ≡ length text → span.to ≡ length newer
    → RowsThere longer newer newest next (row_heads heads text (closed rows text heads groups) ++ record { term = term; heads = more } ∷ []) sums span term
rows_next heads more longer text term newer rows newest row groups next sums span wider grown put are at_text at_head at_group some new are_sums from to =
    let l = length-append text term in
    let h = length-append heads more in
    let to_is : span.to ≡ length (text ++ term) = to ∙ ap length grown in
    let last : TermRow = record { text = length text; head = length heads; group = groups } in
    let after : TermRow = record { text = length (text ++ term); head = length (heads ++ more); group = next } in
    let many : length (heads ++ more) - row.head ≡ length more = omega (arith, h, at_head) in
    let after_group : next ≡ row.group + group_count (length (heads ++ more) - row.head) = new ∙ ap (λ g. g + group_count (length more)) (sym at_group) ∙ ap (λ k. row.group + group_count k) (sym many) in
    let front = row_heads heads text (closed rows text heads groups) in
    let t : TermHeads = record { term = term; heads = more } in
    let joined : closed (rows ++ row ∷ []) (text ++ term) (heads ++ more) next ≡ rows ++ row ∷ after ∷ [] = append_assoc rows (row ∷ []) (after ∷ []) in
    let terms_are : row_heads (heads ++ more) (text ++ term) (closed (rows ++ row ∷ []) (text ++ term) (heads ++ more) next) ≡ front ++ t ∷ [] =
    ap (row_heads (heads ++ more) (text ++ term)) joined ∙ heads_push heads more text term last row after at_text at_head at_group refl refl refl refl after_group some rows are in
    let all : all_heads (front ++ t ∷ []) ≡ all_heads front ++ more =
    flat_map-append (λ (t : TermHeads). t.heads) front (t ∷ []) ∙ ap (λ heads. all_heads front ++ heads) (append-nil more) in
    let there : RowsThere (heads ++ more) (text ++ term) (rows ++ row ∷ []) next (front ++ t ∷ []) sums span term = record {
      terms_are = terms_are;
      are = subst (AreRows (heads ++ more) (text ++ term)) (sym joined) (are_push heads more text term last row after at_text at_head at_group refl refl refl refl after_group some rows are);
      sums_are = subst (AreSums sums) (sym (ap all_heads terms_are ∙ all)) are_sums;
      span_is = (omega (arith, from, to_is, l), omega (arith, to_is));
      part = part_new text term span from to_is;
    } in
    subst (λ some. RowsThere some newer newest next (front ++ t ∷ []) sums span term) (sym wider)
    (subst (λ t. RowsThere (heads ++ more) t newest next (front ++ record { term = term; heads = more } ∷ []) sums span term) (sym grown)
    (subst (λ r. RowsThere (heads ++ more) (text ++ term) r next (front ++ record { term = term; heads = more } ∷ []) sums span term) (sym put) there))

-- the sums of more heads
greatest_push : (heads : List HeadData) (h : HeadData) → greatest_of (heads ++ h ∷ []) ≡ max (greatest_of heads) h.impact
greatest_push [] h = omega arith
greatest_push (g ∷ heads) h = (let later = greatest_push heads h in omega (arith, later))

pub sums_push : (sums new : Sums) (heads : List HeadData) (h : HeadData) → AreSums sums heads → new.postings ≡ sums.postings + h.count → new.greatest ≡ max sums.greatest h.impact → AreSums new (heads ++ h ∷ [])
sums_push sums new heads h are postings greatest = record {
  postings = (let whole = sum_by-append (λ (h : HeadData). h.count) heads (h ∷ []) in let one = sum_by-cons (λ (h : HeadData). h.count) h [] in let front = are.postings in omega (arith, whole, one, front, postings));
  greatest = greatest ∙ ap (λ n. max n h.impact) are.greatest ∙ sym (greatest_push heads h);
}
