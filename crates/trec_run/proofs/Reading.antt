-- What a line stands for, step by step, and the lines behind it.
use Rattle.shared_lemmas.proofs.Common.{◌≡◌, ◌≢◌, ℕ, true, false, List, [], ◌∷◌, ◌++◌, length, refl, ap, sym, ◌⊎◌, inl, inr, ◌∙◌, Ok, Err, Result, nat_eq, codes, is_utf8, pointwise}
use Rattle.jass_base.specs.Decimal.{decimal_of}
use Rattle.trec_run.specs.declared.run_line.RunLine.{RunLine}
use Rattle.trec_run.specs.declared.run_line.RunWhy.{RunWhy}
use Rattle.trec_run.specs.declared.run_line.RunWhy.TheVariants.{Columns}
use Rattle.trec_run.specs.declared.run_line.RunFault.{RunFault}
use Rattle.trec_run.specs.declared.run_line.RunFault.TheVariants.{Refused, NoMemory}
use Rattle.trec_run.specs.Runs.{◌>>=◌, columns_of, at_line, with_numbers, read_columns, read_line}

not_six : (cs : List (List ℕ)) → length cs ≢ 6 → read_columns cs ≡ Err Columns
not_six [] h = refl
not_six (a ∷ []) h = refl
not_six (a ∷ b ∷ []) h = refl
not_six (a ∷ b ∷ c ∷ []) h = refl
not_six (a ∷ b ∷ c ∷ d ∷ []) h = refl
not_six (a ∷ b ∷ c ∷ d ∷ e ∷ []) h = refl
not_six (a ∷ b ∷ c ∷ d ∷ e ∷ f ∷ []) h = absurd (h refl)
not_six (a ∷ b ∷ c ∷ d ∷ e ∷ f ∷ g ∷ cs) h = refl

pub no_text : (line : List ℕ) → is_utf8 line ≡ false → read_line line ≡ Err Columns
unfolding read_line
no_text line e = rw e refl

pub other_columns : (line text : List ℕ) → text ≡ line → is_utf8 line ≡ true → length (columns_of text) ≢ 6 → read_line line ≡ Err Columns
unfolding read_line
other_columns line text same e h = rw e (ap read_columns (ap columns_of (sym same)) ∙ not_six (columns_of text) h)

pub other_mark : (line text id mark name rank score tag : List ℕ) → text ≡ line → is_utf8 line ≡ true → columns_of text ≡ id ∷ mark ∷ name ∷ rank ∷ score ∷ tag ∷ [] → pointwise nat_eq mark (codes "Q0") ≡ false → read_line line ≡ Err Columns
unfolding read_line
other_mark line text id mark name rank score tag same e is other = rw e (ap read_columns (ap columns_of (sym same) ∙ is) ∙ rw other refl)

pub run_columns : (line text id mark name rank score tag : List ℕ) → text ≡ line → is_utf8 line ≡ true → columns_of text ≡ id ∷ mark ∷ name ∷ rank ∷ score ∷ tag ∷ [] → pointwise nat_eq mark (codes "Q0") ≡ true
    → read_line line ≡ with_numbers id name (decimal_of rank) (decimal_of score) tag
unfolding read_line
run_columns line text id mark name rank score tag same e is right = rw e (ap read_columns (ap columns_of (sym same) ∙ is) ∙ rw right refl)

pub refused_line : (number : ℕ) (line : List ℕ) (fault : RunFault) → fault ≡ Refused number Columns → read_line line ≡ Err Columns → (let r : Result RunLine RunFault = Err fault in r) ≡ at_line number (read_line line)
refused_line number line fault is why = rw why (ap (λ f. Err f) is)

pub run_as : (number : ℕ) (line : List ℕ) (result : Result RunLine RunFault) (read : Result RunLine RunWhy) → (result ≡ at_line number read) ⊎ (result ≡ Err NoMemory) → read_line line ≡ read → (result ≡ at_line number (read_line line)) ⊎ (result ≡ Err NoMemory)
run_as number line result read (inl h) is = inl (h ∙ ap (at_line number) (sym is))
run_as number line result read (inr h) is = inr h

-- lines that were read, before what follows them
abbrev pub behind : List RunLine → Result (List RunLine) RunFault → Result (List RunLine) RunFault
behind read rest = rest >>= λ more. Ok (read ++ more)
