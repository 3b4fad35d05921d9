-- Messages that are read one after the other.
use Rattle.std.proofs.Common.{◌≡◌, ℕ, suc, ◌+◌, ◌-◌, ◌≤◌, List, [], ◌∷◌, ◌++◌, length, drop, Result, Ok, Err, refl, sym, ap, ◌∙◌, append_assoc, arith}
use Rattle.std.proofs.lemmas.List.{append-nil, length-take, length-drop}
use Rattle.jass_base.specs.Ciff.{ListData}
use Rattle.ciff_read.specs.declared.body.Body.{Body}
use Rattle.ciff_read.specs.declared.refusal.CiffRefusal.{CiffRefusal}
use Rattle.ciff_read.specs.declared.refusal.CiffFault.{CiffFault}
use Rattle.ciff_read.specs.Judging.{NumberedDoc, numbers_of}
use Rattle.ciff_read.specs.Private.Places.{message_in}
use Rattle.ciff_read.specs.Reading.{Message, ListsRead, DocsRead, message_end, message_at, list_at, doc_at, lists_at, docs_at, inserted}
use Rattle.ciff_read.specs.Refusals.{◌>>=◌, Fails}
use Rattle.ciff_read.proofs.Answering.{fails_on, fails_as}

pub end_there : (bytes : List ℕ) (body : Body) → body.end ≤ length bytes → message_end (message_in bytes body) ≡ body.end
end_there bytes body within = let order : body.from ≤ body.end = body.in_order in omega (arith, length-take (body.end - body.from) (drop body.from bytes), length-drop body.from bytes)

-- lists that were read, and those that are still read
abbrev pub behind_lists : List ListData → ListsRead → ListsRead
behind_lists front later = record { lists = front ++ later.lists; at = later.at; rest = later.rest }

abbrev pub with_lists : List ListData → Result ListsRead CiffRefusal → Result ListsRead CiffRefusal
with_lists front read = read >>= λ later. Ok (behind_lists front later)

pub no_lists : (read : Result ListsRead CiffRefusal) → read ≡ with_lists [] read
no_lists (Ok x) = refl
no_lists (Err r) = refl

regroup : (front : List ListData) (l : ListData) (read : Result ListsRead CiffRefusal) → with_lists front (read >>= λ later. Ok (record { lists = l ∷ later.lists; at = later.at; rest = later.rest })) ≡ with_lists (front ++ l ∷ []) read
regroup front l (Ok x) = ap (λ (ls : List ListData). Ok (record { lists = ls; at = x.at; rest = x.rest })) (sym (append_assoc front (l ∷ []) x.lists))
regroup front l (Err r) = refl

module _ (total : Result ListsRead CiffRefusal) (left docs before : ℕ) (terms : List (List ℕ)) (at : ℕ) (s : List ℕ) (front : List ListData) (so_far : total ≡ with_lists front (lists_at left docs before terms at s)) where
  pub lists_end : left ≡ 0 → total ≡ Ok (record { lists = front; at = at; rest = s })
  unfolding lists_at
  lists_end none = so_far ∙ ap (λ n. with_lists front (lists_at n docs before terms at s)) none ∙ ap (λ (ls : List ListData). Ok (record { lists = ls; at = at; rest = s })) (append-nil front)

  module _ (n : ℕ) (more : left ≡ suc n) where
    -- what follows a message
    abbrev next_lists : Message → Result ListsRead CiffRefusal
    next_lists m = list_at docs before terms at m >>= λ list. lists_at n docs (before + length list.postings) (terms ++ list.term ∷ []) (message_end m) m.rest >>= λ later. Ok (record { lists = list ∷ later.lists; at = later.at; rest = later.rest })

    begun : total ≡ with_lists front (message_at at s >>= next_lists)
    unfolding lists_at
    begun = so_far ∙ ap (λ k. with_lists front (lists_at k docs before terms at s)) more

    pub lists_message_not : (answer : CiffFault) → Fails answer (message_at at s) → Fails answer total
    lists_message_not answer fails = fails_as answer _ _ (sym begun) (fails_on answer (message_at at s >>= next_lists) (λ later. Ok (behind_lists front later)) (fails_on answer (message_at at s) next_lists fails))

    module _ (m : Message) (there : message_at at s ≡ Ok m) where
      entered : total ≡ with_lists front (next_lists m)
      entered = begun ∙ ap (λ (r : Result Message CiffRefusal). with_lists front (r >>= next_lists)) there

      pub lists_list_not : (answer : CiffFault) → Fails answer (list_at docs before terms at m) → Fails answer total
      lists_list_not answer fails =
          fails_as answer _ _ (sym entered) (fails_on answer (next_lists m) (λ later. Ok (behind_lists front later)) (fails_on answer
          (list_at docs before terms at m)
          (λ list. lists_at n docs (before + length list.postings) (terms ++ list.term ∷ []) (message_end m) m.rest >>= λ later. Ok (record { lists = list ∷ later.lists; at = later.at; rest = later.rest }))
          fails))

      pub lists_on : (l : ListData) → list_at docs before terms at m ≡ Ok l → total ≡ with_lists (front ++ l ∷ []) (lists_at n docs (before + length l.postings) (terms ++ l.term ∷ []) (message_end m) m.rest)
      lists_on l is =
          entered
          ∙ ap (λ (r : Result ListData CiffRefusal). with_lists front (r >>= λ list. lists_at n docs (before + length list.postings) (terms ++ list.term ∷ []) (message_end m) m.rest >>= λ later. Ok (record { lists = list ∷ later.lists; at = later.at; rest = later.rest }))) is
          ∙ regroup front l (lists_at n docs (before + length l.postings) (terms ++ l.term ∷ []) (message_end m) m.rest)

module _ (total : Result DocsRead CiffRefusal) (left docs : ℕ) (records : List NumberedDoc) (at : ℕ) (s : List ℕ) (so_far : total ≡ docs_at left docs records at s) where
  pub docs_end : left ≡ 0 → total ≡ Ok (record { records = records; at = at; rest = s })
  unfolding docs_at
  docs_end none = so_far ∙ ap (λ n. docs_at n docs records at s) none

  module _ (n : ℕ) (more : left ≡ suc n) where
    abbrev next_docs : Message → Result DocsRead CiffRefusal
    next_docs m = doc_at docs (numbers_of records) at m >>= λ x. docs_at n docs (inserted x records) (message_end m) m.rest

    docs_begun : total ≡ (message_at at s >>= next_docs)
    unfolding docs_at
    docs_begun = so_far ∙ ap (λ k. docs_at k docs records at s) more

    pub docs_message_not : (answer : CiffFault) → Fails answer (message_at at s) → Fails answer total
    docs_message_not answer fails = fails_as answer _ _ (sym docs_begun) (fails_on answer (message_at at s) next_docs fails)

    module _ (m : Message) (there : message_at at s ≡ Ok m) where
      docs_entered : total ≡ next_docs m
      docs_entered = docs_begun ∙ ap (λ (r : Result Message CiffRefusal). r >>= next_docs) there

      pub docs_doc_not : (answer : CiffFault) → Fails answer (doc_at docs (numbers_of records) at m) → Fails answer total
      docs_doc_not answer fails = fails_as answer _ _ (sym docs_entered) (fails_on answer (doc_at docs (numbers_of records) at m) (λ x. docs_at n docs (inserted x records) (message_end m) m.rest) fails)

      pub docs_on : (x : NumberedDoc) → doc_at docs (numbers_of records) at m ≡ Ok x → total ≡ docs_at n docs (inserted x records) (message_end m) m.rest
      docs_on x is = docs_entered ∙ ap (λ (r : Result NumberedDoc CiffRefusal). r >>= λ x. docs_at n docs (inserted x records) (message_end m) m.rest) is
