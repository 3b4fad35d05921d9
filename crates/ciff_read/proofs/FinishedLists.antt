-- A list that is judged in two steps.
use Rattle.shared_lemmas.proofs.Common.{◌≡◌, ℕ, ◌<◌, ◌≤◌, Bool, true, false, cond, List, length, Result, Ok, Err, refl, ap, ◌∙◌, arith, ◌||◌, nat_lt, is_utf8, le-ltb, nat_tests}
use Rattle.ciff_read.proofs.Below.{Posting, ListData}
use Rattle.ciff_read.specs.declared.body.Body.{Body}
use Rattle.ciff_read.specs.declared.refusal.CiffWhy.{CiffWhy}
use Rattle.ciff_read.specs.declared.refusal.CiffWhy.TheVariants.{Text, Limit, TermTwice, Range}
use Rattle.ciff_read.specs.declared.refusal.CiffRefusal.{CiffRefusal}
use Rattle.ciff_read.specs.declared.walked_list.WalkedList.{WalkedList}
use Rattle.ciff_read.specs.Private.Finishing.{finished}
use Rattle.ciff_read.specs.Judging.{ListStart, judge_list, over63, postings_of}
use Rattle.ciff_read.specs.Private.Places.{message_in, gathered_of}
use Rattle.ciff_read.specs.Reading.{ListWalk, list_walk_at, list_at}
use Rattle.ciff_read.specs.Refusals.{◌>>=◌, placed}
use Rattle.ciff_read.specs.Seen.{is_seen}
use Rattle.ciff_read.proofs.Parts.{cut_body, list_judged}

module _ (at : ℕ) (terms : List (List ℕ)) (start : ListStart) where
  pub no_text : is_utf8 start.term ≡ false → placed at (judge_list terms start) ≡ Err (record { at = at; why = Text })
  no_text not_text = rw not_text refl

  pub long_text : is_utf8 start.term ≡ true → 65535 < length start.term → placed at (judge_list terms start) ≡ Err (record { at = at; why = Limit })
  long_text text long =
      let over : nat_lt 65535 (length start.term) ≡ true = grind (arith, nat_tests) in
      rw (text, over) refl

module _ (bytes : List ℕ) (body : Body) (at docs before : ℕ) (walked : ListWalk) (is : list_walk_at body.from (cut_body bytes body) ≡ Ok walked) where
  -- what follows the start of a list
  abbrev rest : ListStart → Result ListData CiffRefusal
  rest start = postings_of docs before walked.entries >>= λ postings. Ok (record { term = start.term; df = start.df; cf = start.cf; postings = postings })

  pub walked_there : (l : WalkedList) → walked.start ≡ record { term = l.term.now; df = l.df; cf = l.cf } → postings_of docs before walked.entries ≡ gathered_of l.gathered → is_utf8 l.term.now ≡ true → length l.term.now ≤ 65535
      → (terms : List (List ℕ)) → list_at docs before terms at (message_in bytes body) ≡ finished (is_seen l.term.now terms) at l
  walked_there l same gathered text short terms =
      let start : ListStart = record { term = l.term.now; df = l.df; cf = l.cf } in
      let fits : nat_lt 65535 (length l.term.now) ≡ false = le-ltb _ _ (omega (arith, short)) in
      list_judged bytes body at docs before terms walked is
      ∙ ap (λ (s : ListStart). placed at (judge_list terms s) >>= rest) same
      ∙ rw (text, fits) (passed (is_seen l.term.now terms) (over63 l.df || over63 l.cf) start refl)
      ∙ ap (λ (r : Result (List Posting) CiffRefusal). left (is_seen l.term.now terms) (over63 l.df || over63 l.cf) r) gathered
    where
      left : Bool → Bool → Result (List Posting) CiffRefusal → Result ListData CiffRefusal
      left seen over r = cond seen (Err (record { at = at; why = TermTwice })) (cond over (Err (record { at = at; why = Range })) (r >>= λ postings. Ok (record { term = l.term.now; df = l.df; cf = l.cf; postings = postings })))

      passed : (seen over : Bool) (start : ListStart) → start ≡ record { term = l.term.now; df = l.df; cf = l.cf }
          → (placed at (let r : Result ListStart CiffWhy = cond seen (Err TermTwice) (cond over (Err Range) (Ok start)) in r) >>= rest) ≡ left seen over (postings_of docs before walked.entries)
      passed true over start one = refl
      passed false true start one = refl
      passed false false start one = ap (rest) one
