-- A refusal stands at its message's place or within its body.
use Rattle.shared_lemmas.proofs.Common.{◌≡◌, ℕ, zero, suc, ◌+◌, ◌-◌, ◌≤◌, Bool, true, false, cond, List, [], ◌∷◌, ◌++◌, length, Result, Ok, Err, refl, ap, subst, arith, ◌==◌, ⊤, fold, AllByRecursion, length-append}
use Rattle.ciff_read.proofs.Below.{Posting, ListData, WireField, WireValue, Number, Eight, Text, Four, WireWhy, field_at}
use Rattle.ciff_read.specs.declared.posting_fields.PostingFields.{PostingFields}
use Rattle.ciff_read.specs.declared.refusal.CiffWhy.{CiffWhy}
use Rattle.ciff_read.specs.declared.refusal.CiffRefusal.{CiffRefusal}
use Rattle.ciff_read.specs.Judging.{FileStart, ListStart, NumberedDoc, start_of, list_start_of, numbered_of, judge_header, judge_list, judge_doc, judge, gather, postings_of}
use Rattle.ciff_read.specs.Reading.{Message, message_end, ListWalk, start_at, list_walk_at, numbered_at, header_at, list_at, doc_at}
use Rattle.ciff_read.specs.Refusals.{◌>>=◌, placed, field_placed}
use Rattle.ciff_read.specs.Walking.{PlacedEntry, Walked, in_front, walk, walk_within, nothing_inside, entry_of, entry_at, entry_in, entry_inside}
use Rattle.ciff_read.proofs.Moving.{Fits, field_fits}
use Rattle.ciff_read.proofs.WireLaws.{WireLaws}

module _ (n : ℕ) where
  -- what is read has P, or its refusal stands at or before a place
  abbrev pub Near : {A : Type 0} → (A → Type 0) → Result A CiffRefusal → Type 0
  Near P (Ok x) = P x
  Near P (Err e) = e.at ≤ n

  then_near : {A B : Type 0} (P : A → Type 0) (Q : B → Type 0) (r : Result A CiffRefusal) (f : A → Result B CiffRefusal) → Near P r → ((x : A) → P x → Near Q (f x)) → Near Q (r >>= f)
  then_near P Q (Ok x) f near each = each x near
  then_near P Q (Err e) f near each = near

  placed_near : {A : Type 0} (at : ℕ) (r : Result A CiffWhy) → at ≤ n → Near (λ x. ⊤) (placed at r)
  placed_near at (Ok x) inside = tt
  placed_near at (Err why) inside = inside

  abbrev AreNear : List PlacedEntry → Type 0
  AreNear entries = AllByRecursion (λ (x : PlacedEntry). x.at ≤ n) entries

  both_near : (xs ys : List PlacedEntry) → AreNear xs → AreNear ys → AreNear (xs ++ ys)
  both_near [] ys h k = k
  both_near (x ∷ xs) ys h k = (h.0, both_near xs ys h.1 k)

  abbrev IsNear : Walked → Type 0
  IsNear w = AreNear w.entries

  abbrev Inside : (ℕ → ℕ → WireField → Result (List PlacedEntry) CiffRefusal) → Type 0
  Inside inside = (at next : ℕ) (f : WireField) → Fits 0 next f → at ≤ n → next ≤ n → Near AreNear (inside at next f)

  module _ (laws : WireLaws) where
    left_over : (s rest : List ℕ) (f : WireField) → field_at s ≡ Ok (f, rest) → length rest ≤ length s
    left_over s rest f is =
        let found = laws.field_found s rest f is in
        omega (arith, ap (λ (t : List ℕ). length t) found.1, length-append found.0 rest)

    walk_near : (inside : ℕ → ℕ → WireField → Result (List PlacedEntry) CiffRefusal) → Inside inside → (k at : ℕ) (s : List ℕ) → at + length s ≤ n → Near IsNear (walk_within inside k at s)
    unfolding walk_within
    walk_near inside near k at [] within = tt
    walk_near inside near zero at (b ∷ s) within = tt
    walk_near inside near (suc k) at (b ∷ s) within = go (λ next rest fits. walk_near inside near k next rest fits) (field_at (b ∷ s)) refl
      where
        Later : Type 0
        Later = (next : ℕ) (rest : List ℕ) → next + length rest ≤ n → Near IsNear (walk_within inside k next rest)

        go : Later → (r : Result (WireField × List ℕ) WireWhy) → field_at (b ∷ s) ≡ r
            → Near IsNear (field_placed at r >>= λ x. inside at (at + (length (b ∷ s) - length x.1)) x.0 >>= λ entries. walk_within inside k (at + (length (b ∷ s) - length x.1)) x.1 >>= λ later. Ok (in_front x.0 entries later))
        go again (Ok x) is =
            let next : ℕ = at + (length (b ∷ s) - length x.1) in
            let left = left_over (b ∷ s) x.1 x.0 is in
            then_near AreNear IsNear (inside at next x.0) (λ entries. walk_within inside k next x.1 >>= λ later. Ok (in_front x.0 entries later))
            (near at next x.0 (field_fits 0 laws at (b ∷ s) x.1 x.0 is) (omega (arith, within)) (omega (arith, within, left)))
            (λ entries first. then_near IsNear IsNear (walk_within inside k next x.1) (λ later. Ok (in_front x.0 entries later)) (again next x.1 (omega (arith, within, left))) (λ later second. both_near entries later.entries first second))
        go again (Err why) is = omega (arith, within)

    nothing_near : Inside nothing_inside
    nothing_near at next f fits a b = tt

    entry_at_near : (from : ℕ) (body : List ℕ) → from + length body ≤ n → Near (λ (entry : PostingFields). ⊤) (entry_at from body)
    entry_at_near from body within = then_near IsNear (λ (entry : PostingFields). ⊤) (walk nothing_inside from body) (λ walked. Ok (entry_of walked.fields)) (walk_near nothing_inside nothing_near (length body) from body within) (λ w is. tt)

    entry_in_near : (v : WireValue) (at next : ℕ) → ((body : List ℕ) → v ≡ Text body → length body ≤ next) → at ≤ n → next ≤ n → Near AreNear (entry_in v at next)
    entry_in_near (Number m) at next fits a b = tt
    entry_in_near (Eight bytes) at next fits a b = tt
    entry_in_near (Text body) at next fits a b =
        then_near (λ (entry : PostingFields). ⊤) AreNear (entry_at (next - length body) body) (λ entry. Ok (record { at = at; entry = entry } ∷ [])) (entry_at_near (next - length body) body (omega (arith, b, fits body refl))) (λ entry is. (a, tt))
    entry_in_near (Four bytes) at next fits a b = tt

    entry_near : Inside entry_inside
    entry_near at next f fits a b = go (f.number == 4)
      where
        go : (test : Bool) → Near AreNear (cond test (entry_in f.value at next) (Ok []))
        go true = entry_in_near f.value at next fits a b
        go false = tt

    gather_near : (docs before : ℕ) (r : Result (List Posting) CiffRefusal) (x : PlacedEntry) → Near (λ ps. ⊤) r → x.at ≤ n → Near (λ ps. ⊤) (gather docs before r x)
    gather_near docs before (Ok ps) x near inside = go (judge docs before ps x.entry)
      where
        go : (p : Result Posting CiffWhy) → Near (λ ps. ⊤) (placed x.at p >>= λ p. Ok (ps ++ p ∷ []))
        go (Ok p) = tt
        go (Err why) = inside
    gather_near docs before (Err e) x near inside = near

    fold_near : (docs before : ℕ) (xs : List PlacedEntry) (r : Result (List Posting) CiffRefusal) → Near (λ ps. ⊤) r → AreNear xs → Near (λ ps. ⊤) (fold (gather docs before) r xs)
    fold_near docs before [] r near all = near
    fold_near docs before (x ∷ xs) r near all = fold_near docs before xs (gather docs before r x) (gather_near docs before r x near all.0) all.1

    module _ (at : ℕ) (m : Message) (first : at ≤ n) (last : message_end m ≤ n) where
      pub header_near : Near (λ (start : FileStart). ⊤) (header_at at m)
      unfolding header_at
      header_near =
          then_near (λ (start : FileStart). ⊤) (λ (start : FileStart). ⊤) (start_at m.from m.body) (λ start. placed at (judge_header start))
          (then_near IsNear (λ (start : FileStart). ⊤) (walk nothing_inside m.from m.body) (λ walked. Ok (start_of walked.fields)) (walk_near nothing_inside nothing_near (length m.body) m.from m.body last) (λ w is. tt))
          (λ start is. placed_near at (judge_header start) first)

      pub doc_near : (docs : ℕ) (numbers : List ℕ) → Near (λ (x : NumberedDoc). ⊤) (doc_at docs numbers at m)
      unfolding doc_at
      doc_near docs numbers =
          then_near (λ (x : NumberedDoc). ⊤) (λ (x : NumberedDoc). ⊤) (numbered_at m.from m.body) (λ x. placed at (judge_doc docs numbers x))
          (then_near IsNear (λ (x : NumberedDoc). ⊤) (walk nothing_inside m.from m.body) (λ walked. Ok (numbered_of walked.fields)) (walk_near nothing_inside nothing_near (length m.body) m.from m.body last) (λ w is. tt))
          (λ x is. placed_near at (judge_doc docs numbers x) first)

      pub list_near : (docs before : ℕ) (terms : List (List ℕ)) → Near (λ (l : ListData). ⊤) (list_at docs before terms at m)
      unfolding list_at
      list_near docs before terms =
          then_near (λ (w : ListWalk). AreNear w.entries) (λ (l : ListData). ⊤) (list_walk_at m.from m.body)
          (λ walked. placed at (judge_list terms walked.start) >>= λ start. postings_of docs before walked.entries >>= λ postings. Ok (record { term = start.term; df = start.df; cf = start.cf; postings = postings }))
          (then_near IsNear (λ (w : ListWalk). AreNear w.entries) (walk entry_inside m.from m.body) (λ walked. Ok (record { start = list_start_of walked.fields; entries = walked.entries })) (walk_near entry_inside entry_near (length m.body) m.from m.body last) (λ w is. is))
          (λ w is. then_near (λ (start : ListStart). ⊤) (λ (l : ListData). ⊤) (placed at (judge_list terms w.start)) (λ start. postings_of docs before w.entries >>= λ postings. Ok (record { term = start.term; df = start.df; cf = start.cf; postings = postings }))
          (placed_near at (judge_list terms w.start) first)
          (λ start here. then_near (λ (ps : List Posting). ⊤) (λ (l : ListData). ⊤) (postings_of docs before w.entries) (λ postings. Ok (record { term = start.term; df = start.df; cf = start.cf; postings = postings })) (fold_near docs before w.entries (Ok []) tt is) (λ ps there. tt)))

pub near_place : {A : Type 0} (n : ℕ) (r : Result A CiffRefusal) (e : CiffRefusal) → Near n (λ x. ⊤) r → r ≡ Err e → e.at ≤ n
near_place {A} n r e near is = subst (λ (q : Result A CiffRefusal). Near n (λ x. ⊤) q) is near
