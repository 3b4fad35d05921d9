-- A message is judged by its bytes alone, and its refusals move with its place.
use Rattle.shared_lemmas.proofs.Common.{◌≡◌, ℕ, zero, suc, ◌+◌, ◌-◌, ◌≤◌, Bool, true, false, cond, List, [], ◌∷◌, ◌++◌, length, Result, Ok, Err, refl, sym, ap, ◌∙◌, arith, ◌==◌, map, fold, length-append, map-append}
use Rattle.ciff_read.proofs.Below.{Posting, ListData, WireField, WireValue, Number, Eight, Text, Four, IsValue, WireWhy, field_at}
use Rattle.ciff_read.specs.declared.posting_fields.PostingFields.{PostingFields}
use Rattle.ciff_read.specs.declared.refusal.CiffWhy.{CiffWhy}
use Rattle.ciff_read.specs.declared.refusal.CiffRefusal.{CiffRefusal}
use Rattle.ciff_read.specs.Judging.{FileStart, ListStart, NumberedDoc, start_of, list_start_of, numbered_of, judge_header, judge_list, judge_doc, judge, gather, postings_of}
use Rattle.ciff_read.specs.Moving.{refusal_moved, moved}
use Rattle.ciff_read.specs.Reading.{Message, ListWalk, start_at, list_walk_at, numbered_at, header_at, list_at, doc_at}
use Rattle.ciff_read.specs.Refusals.{◌>>=◌, placed, field_placed}
use Rattle.ciff_read.specs.Walking.{PlacedEntry, Walked, in_front, walk, walk_within, nothing_inside, entry_of, entry_at, entry_in, entry_inside}
use Rattle.ciff_read.proofs.WireLaws.{WireLaws}

abbrev entry_moved : ℕ → PlacedEntry → PlacedEntry
entry_moved base x = record { at = base + x.at; entry = x.entry }

abbrev walked_moved : ℕ → Walked → Walked
walked_moved base w = record { fields = w.fields; entries = map (entry_moved base) w.entries }

-- what is read, seen by a function, where a refusal stands further on
abbrev moved_as : {A B : Type 0} → (A → B) → ℕ → Result A CiffRefusal → Result B CiffRefusal
moved_as view base (Ok x) = Ok (view x)
moved_as view base (Err e) = Err (refusal_moved base e)

module _ (base : ℕ) where
  plain : {A : Type 0} (r : Result A CiffRefusal) → moved_as (λ x. x) base r ≡ moved base r
  plain (Ok x) = refl
  plain (Err e) = refl

  -- steps that move, one after the other
  then_moved : {A B C D : Type 0} (view : A → B) (seen : C → D) (r : Result A CiffRefusal) (f : A → Result C CiffRefusal) (g : B → Result D CiffRefusal)
      → ((x : A) → g (view x) ≡ moved_as seen base (f x)) → (moved_as view base r >>= g) ≡ moved_as seen base (r >>= f)
  then_moved view seen (Ok x) f g each = each x
  then_moved view seen (Err e) f g each = refl

  placed_moved : {A : Type 0} (at : ℕ) (r : Result A CiffWhy) → placed (base + at) r ≡ moved_as (λ x. x) base (placed at r)
  placed_moved at (Ok x) = refl
  placed_moved at (Err why) = refl

  -- a field inside its bytes
  value_fits : (s : List ℕ) (v : WireValue) (body : List ℕ) → IsValue s v → v ≡ Text body → length body ≤ length s
  value_fits s (Number n) body is same = absurd cc
  value_fits s (Eight bytes) body is same = absurd cc
  value_fits s (Text bytes) body is same =
      let one : bytes ≡ body = cc in
      omega (arith, ap (λ (t : List ℕ). length t) is.parts, ap (λ (t : List ℕ). length t) one, length-append is.size bytes)
  value_fits s (Four bytes) body is same = absurd cc

  -- a text that ends by a place is no longer than that
  abbrev pub Fits : ℕ → WireField → Type 0
  Fits next f = (body : List ℕ) → f.value ≡ Text body → length body ≤ next

  abbrev Moves : (ℕ → ℕ → WireField → Result (List PlacedEntry) CiffRefusal) → Type 0
  Moves inside = (at next : ℕ) (f : WireField) → Fits next f → inside (base + at) (base + next) f ≡ moved_as (map (entry_moved base)) base (inside at next f)

  module _ (laws : WireLaws) where
    pub field_fits : (at : ℕ) (s rest : List ℕ) (f : WireField) → field_at s ≡ Ok (f, rest) → Fits (at + (length s - length rest)) f
    field_fits at s rest f is body same =
        let found = laws.field_found s rest f is in
        let field = found.2 in
        let inner = value_fits field.value f.value body field.valued same in
        omega (arith, inner, ap (λ (t : List ℕ). length t) found.1, ap (λ (t : List ℕ). length t) field.parts, length-append found.0 rest, length-append field.tag field.value)

    walk_moved : (inside : ℕ → ℕ → WireField → Result (List PlacedEntry) CiffRefusal) → Moves inside → (k at : ℕ) (s : List ℕ)
        → walk_within inside k (base + at) s ≡ moved_as (walked_moved base) base (walk_within inside k at s)
    unfolding walk_within
    walk_moved inside moves k at [] = refl
    walk_moved inside moves zero at (b ∷ s) = refl
    walk_moved inside moves (suc k) at (b ∷ s) = go (λ next rest. walk_moved inside moves k next rest) (field_at (b ∷ s)) refl
      where
        Later : Type 0
        Later = (next : ℕ) (rest : List ℕ) → walk_within inside k (base + next) rest ≡ moved_as (walked_moved base) base (walk_within inside k next rest)

        more : ℕ → ℕ → WireField × List ℕ → Result Walked CiffRefusal
        more at next x = inside at next x.0 >>= λ entries. walk_within inside k next x.1 >>= λ later. Ok (in_front x.0 entries later)

        behind : Later → (next : ℕ) (f : WireField) (rest : List ℕ) → Fits next f → more (base + at) (base + next) (f, rest) ≡ moved_as (walked_moved base) base (more at next (f, rest))
        behind again next f rest fits =
            ap (λ (r : Result (List PlacedEntry) CiffRefusal). r >>= λ entries. walk_within inside k (base + next) rest >>= λ later. Ok (in_front f entries later)) (moves at next f fits)
            ∙ then_moved (map (entry_moved base)) (walked_moved base) (inside at next f) (λ entries. walk_within inside k next rest >>= λ later. Ok (in_front f entries later)) (λ entries. walk_within inside k (base + next) rest >>= λ later. Ok (in_front f entries later))
            (λ entries. ap (λ (r : Result Walked CiffRefusal). r >>= λ later. Ok (in_front f (map (entry_moved base) entries) later)) (again next rest)
            ∙ then_moved (walked_moved base) (walked_moved base) (walk_within inside k next rest) (λ later. Ok (in_front f entries later)) (λ later. Ok (in_front f (map (entry_moved base) entries) later))
            (λ later. ap (λ (es : List PlacedEntry). Ok (record { fields = f ∷ later.fields; entries = es })) (sym (map-append (entry_moved base) entries later.entries))))

        go : Later → (r : Result (WireField × List ℕ) WireWhy) → field_at (b ∷ s) ≡ r
            → (field_placed (base + at) r >>= λ x. more (base + at) (base + at + (length (b ∷ s) - length x.1)) x)
            ≡ moved_as (walked_moved base) base (field_placed at r >>= λ x. more at (at + (length (b ∷ s) - length x.1)) x)
        go again (Ok x) is =
            let next : ℕ = at + (length (b ∷ s) - length x.1) in
            let place : base + at + (length (b ∷ s) - length x.1) ≡ base + next = omega arith in
            ap (λ n. more (base + at) n x) place ∙ behind again next x.0 x.1 (field_fits at (b ∷ s) x.1 x.0 is)
        go again (Err why) is = refl

    nothing_moves : Moves nothing_inside
    nothing_moves at next f fits = refl

    entry_at_moved : (from : ℕ) (body : List ℕ) → entry_at (base + from) body ≡ moved_as (λ entry. entry) base (entry_at from body)
    entry_at_moved from body =
        ap (λ (r : Result Walked CiffRefusal). r >>= λ walked. Ok (entry_of walked.fields)) (walk_moved nothing_inside nothing_moves (length body) from body)
        ∙ then_moved (walked_moved base) (λ (entry : PostingFields). entry) (walk nothing_inside from body) (λ walked. Ok (entry_of walked.fields)) (λ walked. Ok (entry_of walked.fields)) (λ w. refl)

    entry_in_moved : (v : WireValue) (at next : ℕ) → ((body : List ℕ) → v ≡ Text body → length body ≤ next) → entry_in v (base + at) (base + next) ≡ moved_as (map (entry_moved base)) base (entry_in v at next)
    entry_in_moved (Number n) at next fits = refl
    entry_in_moved (Eight bytes) at next fits = refl
    entry_in_moved (Text body) at next fits =
        let inside = fits body refl in
        let place : base + next - length body ≡ base + (next - length body) = omega (arith, inside) in
        ap (λ n. entry_at n body >>= λ entry. Ok (record { at = base + at; entry = entry } ∷ [])) place
        ∙ ap (λ (r : Result PostingFields CiffRefusal). r >>= λ entry. Ok (record { at = base + at; entry = entry } ∷ [])) (entry_at_moved (next - length body) body)
        ∙ then_moved (λ (entry : PostingFields). entry) (map (entry_moved base)) (entry_at (next - length body) body) (λ entry. Ok (record { at = at; entry = entry } ∷ [])) (λ entry. Ok (record { at = base + at; entry = entry } ∷ [])) (λ entry. refl)
    entry_in_moved (Four bytes) at next fits = refl

    entry_moves : Moves entry_inside
    entry_moves at next f fits = go (f.number == 4)
      where
        go : (test : Bool) → cond test (entry_in f.value (base + at) (base + next)) (Ok []) ≡ moved_as (map (entry_moved base)) base (cond test (entry_in f.value at next) (Ok []))
        go true = entry_in_moved f.value at next fits
        go false = refl

    start_moved : (from : ℕ) (body : List ℕ) → start_at (base + from) body ≡ moved_as (λ start. start) base (start_at from body)
    start_moved from body =
        ap (λ (r : Result Walked CiffRefusal). r >>= λ walked. Ok (start_of walked.fields)) (walk_moved nothing_inside nothing_moves (length body) from body)
        ∙ then_moved (walked_moved base) (λ (start : FileStart). start) (walk nothing_inside from body) (λ walked. Ok (start_of walked.fields)) (λ walked. Ok (start_of walked.fields)) (λ w. refl)

    numbered_moved : (from : ℕ) (body : List ℕ) → numbered_at (base + from) body ≡ moved_as (λ doc. doc) base (numbered_at from body)
    numbered_moved from body =
        ap (λ (r : Result Walked CiffRefusal). r >>= λ walked. Ok (numbered_of walked.fields)) (walk_moved nothing_inside nothing_moves (length body) from body)
        ∙ then_moved (walked_moved base) (λ (doc : NumberedDoc). doc) (walk nothing_inside from body) (λ walked. Ok (numbered_of walked.fields)) (λ walked. Ok (numbered_of walked.fields)) (λ w. refl)

    abbrev walked_list_moved : ListWalk → ListWalk
    walked_list_moved w = record { start = w.start; entries = map (entry_moved base) w.entries }

    list_walk_moved : (from : ℕ) (body : List ℕ) → list_walk_at (base + from) body ≡ moved_as walked_list_moved base (list_walk_at from body)
    list_walk_moved from body =
        ap (λ (r : Result Walked CiffRefusal). r >>= λ walked. Ok (record { start = list_start_of walked.fields; entries = walked.entries })) (walk_moved entry_inside entry_moves (length body) from body)
        ∙ then_moved (walked_moved base) walked_list_moved (walk entry_inside from body) (λ walked. Ok (record { start = list_start_of walked.fields; entries = walked.entries })) (λ walked. Ok (record { start = list_start_of walked.fields; entries = walked.entries })) (λ w. refl)

    module _ (docs before : ℕ) where
      gather_moved : (r : Result (List Posting) CiffRefusal) (x : PlacedEntry) → gather docs before (moved_as (λ ps. ps) base r) (entry_moved base x) ≡ moved_as (λ ps. ps) base (gather docs before r x)
      gather_moved (Ok ps) x = go (judge docs before ps x.entry)
        where
          go : (p : Result Posting CiffWhy) → (placed (base + x.at) p >>= λ p. Ok (ps ++ p ∷ [])) ≡ moved_as (λ ps. ps) base (placed x.at p >>= λ p. Ok (ps ++ p ∷ []))
          go (Ok p) = refl
          go (Err why) = refl
      gather_moved (Err e) x = refl

      fold_moved : (xs : List PlacedEntry) (r : Result (List Posting) CiffRefusal) → fold (gather docs before) (moved_as (λ ps. ps) base r) (map (entry_moved base) xs) ≡ moved_as (λ ps. ps) base (fold (gather docs before) r xs)
      fold_moved [] r = refl
      fold_moved (x ∷ xs) r = ap (λ (q : Result (List Posting) CiffRefusal). fold (gather docs before) q (map (entry_moved base) xs)) (gather_moved r x) ∙ fold_moved xs (gather docs before r x)

    module _ (at : ℕ) (m n : Message) (from : n.from ≡ base + m.from) (body : n.body ≡ m.body) where
      pub header_moved : header_at (base + at) n ≡ moved base (header_at at m)
      unfolding header_at
      header_moved =
          ap (λ k. start_at k n.body >>= λ start. placed (base + at) (judge_header start)) from
          ∙ ap (λ (s : List ℕ). start_at (base + m.from) s >>= λ start. placed (base + at) (judge_header start)) body
          ∙ ap (λ (r : Result FileStart CiffRefusal). r >>= λ start. placed (base + at) (judge_header start)) (start_moved m.from m.body)
          ∙ then_moved (λ (start : FileStart). start) (λ (start : FileStart). start) (start_at m.from m.body) (λ start. placed at (judge_header start)) (λ start. placed (base + at) (judge_header start)) (λ start. placed_moved at (judge_header start))
          ∙ plain (header_at at m)

      pub doc_moved : (docs : ℕ) (numbers : List ℕ) → doc_at docs numbers (base + at) n ≡ moved base (doc_at docs numbers at m)
      unfolding doc_at
      doc_moved docs numbers =
          ap (λ k. numbered_at k n.body >>= λ x. placed (base + at) (judge_doc docs numbers x)) from
          ∙ ap (λ (s : List ℕ). numbered_at (base + m.from) s >>= λ x. placed (base + at) (judge_doc docs numbers x)) body
          ∙ ap (λ (r : Result NumberedDoc CiffRefusal). r >>= λ x. placed (base + at) (judge_doc docs numbers x)) (numbered_moved m.from m.body)
          ∙ then_moved (λ (x : NumberedDoc). x) (λ (x : NumberedDoc). x) (numbered_at m.from m.body) (λ x. placed at (judge_doc docs numbers x)) (λ x. placed (base + at) (judge_doc docs numbers x)) (λ x. placed_moved at (judge_doc docs numbers x))
          ∙ plain (doc_at docs numbers at m)

      pub list_moved : (docs before : ℕ) (terms : List (List ℕ)) → list_at docs before terms (base + at) n ≡ moved base (list_at docs before terms at m)
      unfolding list_at
      list_moved docs before terms =
          ap (λ k. list_walk_at k n.body >>= judged (base + at)) from
          ∙ ap (λ (s : List ℕ). list_walk_at (base + m.from) s >>= judged (base + at)) body
          ∙ ap (λ (r : Result ListWalk CiffRefusal). r >>= judged (base + at)) (list_walk_moved m.from m.body)
          ∙ then_moved walked_list_moved (λ (l : ListData). l) (list_walk_at m.from m.body) (judged at) (judged (base + at)) each
          ∙ plain (list_at docs before terms at m)
        where
          judged : ℕ → ListWalk → Result ListData CiffRefusal
          judged at walked = placed at (judge_list terms walked.start) >>= λ start. postings_of docs before walked.entries >>= λ postings. Ok (record { term = start.term; df = start.df; cf = start.cf; postings = postings })

          each : (w : ListWalk) → judged (base + at) (walked_list_moved w) ≡ moved_as (λ (l : ListData). l) base (judged at w)
          each w =
              ap (λ (r : Result ListStart CiffRefusal). r >>= λ start. postings_of docs before (map (entry_moved base) w.entries) >>= λ postings. Ok (record { term = start.term; df = start.df; cf = start.cf; postings = postings })) (placed_moved at (judge_list terms w.start))
              ∙ then_moved (λ (start : ListStart). start) (λ (l : ListData). l) (placed at (judge_list terms w.start))
              (λ start. postings_of docs before w.entries >>= λ postings. Ok (record { term = start.term; df = start.df; cf = start.cf; postings = postings }))
              (λ start. postings_of docs before (map (entry_moved base) w.entries) >>= λ postings. Ok (record { term = start.term; df = start.df; cf = start.cf; postings = postings }))
              (λ start. ap (λ (r : Result (List Posting) CiffRefusal). r >>= λ postings. Ok (record { term = start.term; df = start.df; cf = start.cf; postings = postings })) (fold_moved docs before w.entries (Ok []))
              ∙ then_moved (λ (ps : List Posting). ps) (λ (l : ListData). l) (postings_of docs before w.entries)
              (λ postings. Ok (record { term = start.term; df = start.df; cf = start.cf; postings = postings })) (λ postings. Ok (record { term = start.term; df = start.df; cf = start.cf; postings = postings })) (λ ps. refl))
