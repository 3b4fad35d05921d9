-- Messages that are read part by part.
use Rattle.shared_lemmas.proofs.Common.{◌≡◌, ℕ, ◌-◌, ◌≤◌, List, [], ◌∷◌, ◌++◌, length, take, drop, Result, Ok, sym, ap, subst, ◌∙◌, arith, fold, slice_range, length-take, length-drop, fold-append}
use Rattle.ciff_read.proofs.Below.{Posting, ListData, Text, Value, Bytes, IsWithin, value_in}
use Rattle.ciff_read.specs.declared.body.Body.{Body}
use Rattle.ciff_read.specs.declared.posting_fields.PostingFields.{PostingFields}
use Rattle.ciff_read.specs.declared.refusal.CiffRefusal.{CiffRefusal}
use Rattle.ciff_read.specs.declared.refusal.CiffFault.{CiffFault}
use Rattle.ciff_read.specs.Judging.{FileStart, ListStart, NumberedDoc, judge_header, judge_list, judge_doc, gather, postings_of}
use Rattle.ciff_read.specs.Private.Places.{message_in}
use Rattle.ciff_read.specs.Reading.{ListWalk, start_at, list_walk_at, numbered_at, header_at, list_at, doc_at}
use Rattle.ciff_read.specs.Refusals.{◌>>=◌, placed, Fails}
use Rattle.ciff_read.specs.Walking.{PlacedEntry, entry_at, entry_in, entry_inside}
use Rattle.ciff_read.proofs.Answering.{fails_on, fails_as}
use Rattle.ciff_read.proofs.Messages.{body_there}

-- the body of a message, from its place in the cut bytes on
abbrev pub cut_body : List ℕ → Body → List ℕ
cut_body bytes body = drop body.from (take body.end bytes)

module _ (bytes : List ℕ) (body : Body) (at : ℕ) where
  same : cut_body bytes body ≡ slice_range bytes body.from body.end
  same = body_there bytes body.from body.end body.in_order

  pub header_walks_not : (answer : CiffFault) → Fails answer (start_at body.from (cut_body bytes body)) → Fails answer (header_at at (message_in bytes body))
  unfolding header_at
  header_walks_not answer fails = fails_on answer (start_at body.from (slice_range bytes body.from body.end)) (λ start. placed at (judge_header start)) (fails_as answer _ _ (ap (start_at body.from) same) fails)

  pub header_judged : (start : FileStart) → start_at body.from (cut_body bytes body) ≡ Ok start → header_at at (message_in bytes body) ≡ placed at (judge_header start)
  unfolding header_at
  header_judged start is = ap (λ (r : Result FileStart CiffRefusal). r >>= λ start. placed at (judge_header start)) (ap (start_at body.from) (sym same) ∙ is)

  module _ (docs : ℕ) (numbers : List ℕ) where
    pub doc_walks_not : (answer : CiffFault) → Fails answer (numbered_at body.from (cut_body bytes body)) → Fails answer (doc_at docs numbers at (message_in bytes body))
    unfolding doc_at
    doc_walks_not answer fails = fails_on answer (numbered_at body.from (slice_range bytes body.from body.end)) (λ x. placed at (judge_doc docs numbers x)) (fails_as answer _ _ (ap (numbered_at body.from) same) fails)

    pub doc_judged : (x : NumberedDoc) → numbered_at body.from (cut_body bytes body) ≡ Ok x → doc_at docs numbers at (message_in bytes body) ≡ placed at (judge_doc docs numbers x)
    unfolding doc_at
    doc_judged x is = ap (λ (r : Result NumberedDoc CiffRefusal). r >>= λ x. placed at (judge_doc docs numbers x)) (ap (numbered_at body.from) (sym same) ∙ is)

  module _ (docs before : ℕ) (terms : List (List ℕ)) where
    -- what follows the start of a list
    abbrev pub list_rest : ListWalk → ListStart → Result ListData CiffRefusal
    list_rest walked start = postings_of docs before walked.entries >>= λ postings. Ok (record { term = start.term; df = start.df; cf = start.cf; postings = postings })

    pub list_walks_not : (answer : CiffFault) → Fails answer (list_walk_at body.from (cut_body bytes body)) → Fails answer (list_at docs before terms at (message_in bytes body))
    unfolding list_at
    list_walks_not answer fails = fails_on answer (list_walk_at body.from (slice_range bytes body.from body.end)) (λ walked. placed at (judge_list terms walked.start) >>= λ start. list_rest walked start) (fails_as answer _ _ (ap (list_walk_at body.from) same) fails)

    module _ (walked : ListWalk) (is : list_walk_at body.from (cut_body bytes body) ≡ Ok walked) where
      pub list_judged : list_at docs before terms at (message_in bytes body) ≡ (placed at (judge_list terms walked.start) >>= λ start. list_rest walked start)
      unfolding list_at
      list_judged = ap (λ (r : Result ListWalk CiffRefusal). r >>= λ walked. placed at (judge_list terms walked.start) >>= λ start. list_rest walked start) (ap (list_walk_at body.from) (sym same) ∙ is)

      pub list_judged_not : (answer : CiffFault) → Fails answer (placed at (judge_list terms walked.start)) → Fails answer (list_at docs before terms at (message_in bytes body))
      list_judged_not answer fails = fails_as answer _ _ (sym list_judged) (fails_on answer (placed at (judge_list terms walked.start)) (λ start. list_rest walked start) fails)

-- the posting in a field
module _ (bytes : List ℕ) (at first after : ℕ) (order : first ≤ after) (within : after ≤ length bytes) where
  place : after - length (slice_range bytes first after) ≡ first
  place = omega (arith, length-take (after - first) (drop first bytes), length-drop first bytes)

  inner : entry_in (Text (slice_range bytes first after)) at after ≡ (entry_at first (drop first (take after bytes)) >>= λ entry. Ok (record { at = at; entry = entry } ∷ []))
  inner = ap (λ n. entry_at n (slice_range bytes first after) >>= λ entry. Ok (record { at = at; entry = entry } ∷ [])) place ∙ ap (λ (s : List ℕ). entry_at first s >>= λ entry. Ok (record { at = at; entry = entry } ∷ [])) (sym (body_there bytes first after order))

  pub entry_there : (entry : PostingFields) → entry_at first (drop first (take after bytes)) ≡ Ok entry → entry_in (Text (slice_range bytes first after)) at after ≡ Ok (record { at = at; entry = entry } ∷ [])
  entry_there entry is = inner ∙ ap (λ (r : Result PostingFields CiffRefusal). r >>= λ entry. Ok (record { at = at; entry = entry } ∷ [])) is

pub entry_inside_there : (bytes : List ℕ) (at number next first after : ℕ) (value : Value) (entry : PostingFields) → number ≡ 4 → value ≡ Bytes first after → IsWithin value next → next ≤ length bytes
    → entry_at first (drop first (take after bytes)) ≡ Ok entry → entry_inside at next (record { number = number; value = value_in bytes value }) ≡ Ok (record { at = at; entry = entry } ∷ [])
entry_inside_there bytes at number next first after value entry four bytes_are fits within is =
    let w : (first ≤ after) × (after ≡ next) = subst (λ (v : Value). IsWithin v next) bytes_are fits in
    let inside : after ≤ length bytes = omega (arith, w.1) in
    rw (four, bytes_are, ← w.1) (entry_there bytes at first after w.0 inside entry is)

-- the postings that were gathered, and more of them
pub gathers_more : (docs before : ℕ) (start old now : Result (List Posting) CiffRefusal) (entries more : List PlacedEntry) → old ≡ fold (gather docs before) start entries → now ≡ fold (gather docs before) old more → now ≡ fold (gather docs before) start (entries ++ more)
gathers_more docs before start old now entries more was is = is ∙ ap (λ (r : Result (List Posting) CiffRefusal). fold (gather docs before) r more) was ∙ sym (fold-append (gather docs before) start entries more)

pub gathers_all : (docs before d b : ℕ) (start now : Result (List Posting) CiffRefusal) (entries : List PlacedEntry) → start ≡ Ok [] → d ≡ docs → b ≡ before → now ≡ fold (gather d b) start entries → postings_of docs before entries ≡ now
gathers_all docs before d b start now entries empty same_docs same_before is =
    sym (is ∙ ap (λ (r : Result (List Posting) CiffRefusal). fold (gather d b) r entries) empty ∙ ap (λ n. fold (gather n b) (Ok []) entries) same_docs ∙ ap (λ n. fold (gather docs n) (Ok []) entries) same_before)
