-- What is read is what the text stands for.
use Rattle.shared_lemmas.proofs.Common.{◌≡◌, ℕ, true, false, List, [], ◌∷◌, filter, ◌+◌, refl, ap, sym, subst, ◌⊎◌, inl, inr, ◌∙◌, Ok, Err, Some, None, Option, Result, nat_eq, codes, is_utf8, pointwise, same_text, cases_Bool}
use Rattle.jass_base.specs.Decimal.{decimal_of}
use Rattle.text_lines.specs.Lines.{numbered_from}
use Rattle.trec_run.specs.declared.run_line.RunLine.{RunLine}
use Rattle.trec_run.specs.declared.run_line.RunWhy.{RunWhy}
use Rattle.trec_run.specs.declared.run_line.RunFault.{RunFault}
use Rattle.trec_run.specs.Runs.{◌>>=◌, has_bytes, columns_of, with_numbers, read_columns, read_line, at_line, read_lines, IsRunLine, AreRunLines}
use Rattle.trec_run.proofs.Reading.{run_columns}

with_read : (id name tag : List ℕ) (run : RunLine) (a b : Option ℕ) → a ≡ Some run.rank → b ≡ Some run.score → id ≡ run.id → name ≡ run.name → tag ≡ run.tag → with_numbers id name a b tag ≡ Ok run
with_read id name tag run a b first second one two three = rw (first, second) (rw (one, two, three) refl)

pub line_read : (line : List ℕ) (run : RunLine) → IsRunLine line run → read_line line ≡ Ok run
line_read line run is = run_columns line line run.id (codes "Q0") run.name is.rank is.score run.tag refl is.text is.columns refl
    ∙ with_read run.id run.name run.tag run (decimal_of is.rank) (decimal_of is.score) is.ranked is.scored refl refl refl

module _ (line : List ℕ) (run : RunLine) (utf8 : is_utf8 line ≡ true) where
  from_numbers : (id name rank score tag : List ℕ) (a b : Option ℕ) → columns_of line ≡ id ∷ codes "Q0" ∷ name ∷ rank ∷ score ∷ tag ∷ [] → decimal_of rank ≡ a → decimal_of score ≡ b → with_numbers id name a b tag ≡ Ok run → IsRunLine line run
  from_numbers id name rank score tag (Some r) (Some s) is first second read =
      let made : RunLine = record { id = id; name = name; rank = r; score = s; tag = tag } in
      let same : made ≡ run = cc in
      subst (IsRunLine line) same (record { text = utf8; rank = rank; score = score; columns = is; ranked = first; scored = second })
  from_numbers id name rank score tag (Some r) None is first second read = cc
  from_numbers id name rank score tag None b is first second read = cc

  from_columns : (cs : List (List ℕ)) → columns_of line ≡ cs → read_columns cs ≡ Ok run → IsRunLine line run
  from_columns [] is read = cc
  from_columns (a ∷ []) is read = cc
  from_columns (a ∷ b ∷ []) is read = cc
  from_columns (a ∷ b ∷ c ∷ []) is read = cc
  from_columns (a ∷ b ∷ c ∷ d ∷ []) is read = cc
  from_columns (a ∷ b ∷ c ∷ d ∷ e ∷ []) is read = cc
  from_columns (id ∷ mark ∷ name ∷ rank ∷ score ∷ tag ∷ []) is read = by (cases_Bool (pointwise nat_eq mark (codes "Q0"))) where
    by : (pointwise nat_eq mark (codes "Q0") ≡ true) ⊎ (pointwise nat_eq mark (codes "Q0") ≡ false) → IsRunLine line run
    by (inl t) =
        let same : mark ≡ codes "Q0" = same_text mark (codes "Q0") (sym t) in
        from_numbers id name rank score tag (decimal_of rank) (decimal_of score) (is ∙ ap (λ m. id ∷ m ∷ name ∷ rank ∷ score ∷ tag ∷ []) same) refl refl (rw t at read)
    by (inr f) = let bad = rw f at read in cc
  from_columns (a ∷ b ∷ c ∷ d ∷ e ∷ f ∷ g ∷ cs) is read = cc

pub line_only : (line : List ℕ) (run : RunLine) → read_line line ≡ Ok run → IsRunLine line run
unfolding read_line
line_only line run read =
    elim (cases_Bool (is_utf8 line)) [ inl t ↦ from_columns line run t (columns_of line) refl (rw t at read) | inr f ↦ let bad = rw f at read in cc ]

pub lines_read : (number : ℕ) (lines : List (List ℕ)) (runs : List RunLine) → AreRunLines (filter has_bytes lines) runs → read_lines (numbered_from number lines) ≡ Ok runs
lines_read number [] [] h = refl
lines_read number [] (run ∷ runs) h = absurd h
lines_read number ([] ∷ lines) runs h = lines_read (number + 1) lines runs h
lines_read number ((b ∷ bytes) ∷ lines) [] h = absurd h
lines_read number ((b ∷ bytes) ∷ lines) (run ∷ runs) h = let first = line_read (b ∷ bytes) run h.0 in let rest = lines_read (number + 1) lines runs h.1 in rw (first, rest) refl

pub lines_only : (number : ℕ) (lines : List (List ℕ)) (runs : List RunLine) → read_lines (numbered_from number lines) ≡ Ok runs → AreRunLines (filter has_bytes lines) runs
lines_only number [] [] h = tt
lines_only number [] (run ∷ runs) h = cc
lines_only number ([] ∷ lines) runs h = lines_only (number + 1) lines runs h
lines_only number ((b ∷ bytes) ∷ lines) runs h = by (read_line (b ∷ bytes)) refl (read_lines (numbered_from (number + 1) lines)) refl h (lines_only (number + 1) lines) where
  by : (line : Result RunLine RunWhy) → read_line (b ∷ bytes) ≡ line → (rest : Result (List RunLine) RunFault) → read_lines (numbered_from (number + 1) lines) ≡ rest
      → (at_line number line >>= λ first. rest >>= λ more. Ok (first ∷ more)) ≡ Ok runs
      → ((more : List RunLine) → read_lines (numbered_from (number + 1) lines) ≡ Ok more → AreRunLines (filter has_bytes lines) more)
      → AreRunLines ((b ∷ bytes) ∷ filter has_bytes lines) runs
  by (Err why) is rest are k on = cc
  by (Ok run) is (Err fault) are k on = cc
  by (Ok run) is (Ok more) are k on = let same : run ∷ more ≡ runs = cc in subst (AreRunLines ((b ∷ bytes) ∷ filter has_bytes lines)) same (line_only (b ∷ bytes) run is, on more are)
