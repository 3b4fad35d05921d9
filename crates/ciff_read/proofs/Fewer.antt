-- A list that is read behind others is read with none before it, too: fewer postings and fewer terms refuse less.
use Rattle.shared_lemmas.proofs.Common.{◌≡◌, ℕ, ◌+◌, ◌^◌, Bool, true, false, not, cond, List, [], ◌∷◌, ◌++◌, length, Result, Ok, Err, refl, ap, ◌∙◌, arith, fold, ◌==◌, ◌&&◌, ◌||◌, nat_lt, nat_le, is_utf8, nat_tests}
use Rattle.ciff_read.proofs.Below.{Posting, ListData}
use Rattle.ciff_read.specs.declared.posting_fields.PostingFields.{PostingFields}
use Rattle.ciff_read.specs.declared.refusal.CiffWhy.{CiffWhy}
use Rattle.ciff_read.specs.declared.refusal.CiffWhy.TheVariants.{Range, Text, Tf, Gap, DocRange, TermTwice, Limit}
use Rattle.ciff_read.specs.declared.refusal.CiffRefusal.{CiffRefusal}
use Rattle.ciff_read.specs.Judging.{ListStart, last_from, over31, over63, judge, judge_list, gather, postings_of}
use Rattle.ciff_read.specs.Reading.{Message, list_walk_at, list_at}
use Rattle.ciff_read.specs.Refusals.{◌>>=◌, placed}
use Rattle.ciff_read.specs.Seen.{is_seen}
use Rattle.ciff_read.specs.Walking.{PlacedEntry}
use Rattle.ciff_read.proofs.WireLaws.{bound, unplaced}

-- what the one gives, the other gives, too
abbrev GivesToo : {A : Type 0} → Result A CiffRefusal → Result A CiffRefusal → Type 0
GivesToo {A} r q = (x : A) → r ≡ Ok x → q ≡ Ok x

then_too : {A B : Type 0} (r q : Result A CiffRefusal) (f g : A → Result B CiffRefusal) → GivesToo r q → ((x : A) → GivesToo (f x) (g x)) → GivesToo (r >>= f) (q >>= g)
then_too r q f g first each y is = let b = bound r f y is in ap (λ t. t >>= g) (first b.0 b.1) ∙ each b.0 y b.2

placed_too : {A : Type 0} (at : ℕ) (r q : Result A CiffWhy) → ((x : A) → r ≡ Ok x → q ≡ Ok x) → GivesToo (placed at r) (placed at q)
placed_too at r q too x is = ap (placed at) (too x (unplaced at r x is))

-- tests of which one passes more often
posting_too : (a b c d e f : Bool) (x p : Posting) → (e ≡ false → f ≡ false) → (let r : Result Posting CiffWhy = cond a (Err Range) (cond b (Err Tf) (cond c (Err Gap) (cond d (Err DocRange) (cond e (Err Limit) (Ok x))))) in r) ≡ Ok p
    → (let r : Result Posting CiffWhy = cond a (Err Range) (cond b (Err Tf) (cond c (Err Gap) (cond d (Err DocRange) (cond f (Err Limit) (Ok x))))) in r) ≡ Ok p
posting_too true b c d e f x p fewer is = absurd cc
posting_too false true c d e f x p fewer is = absurd cc
posting_too false false true d e f x p fewer is = absurd cc
posting_too false false false true e f x p fewer is = absurd cc
posting_too false false false false true f x p fewer is = absurd cc
posting_too false false false false false f x p fewer is = rw (fewer refl) is

start_too : (a b c d : Bool) (x y : ListStart) → (let r : Result ListStart CiffWhy = cond a (Err Text) (cond b (Err Limit) (cond c (Err TermTwice) (cond d (Err Range) (Ok x)))) in r) ≡ Ok y
    → (let r : Result ListStart CiffWhy = cond a (Err Text) (cond b (Err Limit) (cond d (Err Range) (Ok x))) in r) ≡ Ok y
start_too true b c d x y is = absurd cc
start_too false true c d x y is = absurd cc
start_too false false true d x y is = absurd cc
start_too false false false d x y is = is

module _ (docs before : ℕ) where
  judge_too : (ps : List Posting) (e : PostingFields) (p : Posting) → judge docs before ps e ≡ Ok p → judge docs 0 ps e ≡ Ok p
  judge_too ps e p is =
      posting_too (over31 e.docid || over31 e.tf) (e.tf == 0) (e.docid == 0 && nat_lt 0 (length ps)) (nat_le docs (last_from 0 ps + e.docid)) (nat_le (2 ^ 29) (before + length ps)) (nat_le (2 ^ 29) (0 + length ps))
      (record { doc = last_from 0 ps + e.docid; tf = e.tf }) p (λ few. grind (arith, nat_tests)) is

  gather_too : (r q : Result (List Posting) CiffRefusal) (x : PlacedEntry) → GivesToo r q → GivesToo (gather docs before r x) (gather docs 0 q x)
  gather_too r q x too =
      then_too r q (λ ps. placed x.at (judge docs before ps x.entry) >>= λ p. Ok (ps ++ p ∷ [])) (λ ps. placed x.at (judge docs 0 ps x.entry) >>= λ p. Ok (ps ++ p ∷ [])) too
      (λ ps. then_too (placed x.at (judge docs before ps x.entry)) (placed x.at (judge docs 0 ps x.entry)) (λ p. Ok (ps ++ p ∷ [])) (λ p. Ok (ps ++ p ∷ []))
      (placed_too x.at (judge docs before ps x.entry) (judge docs 0 ps x.entry) (judge_too ps x.entry)) (λ p y is. is))

  gathered_too : (xs : List PlacedEntry) (r q : Result (List Posting) CiffRefusal) → GivesToo r q → GivesToo (fold (gather docs before) r xs) (fold (gather docs 0) q xs)
  gathered_too [] r q too = too
  gathered_too (x ∷ xs) r q too = gathered_too xs (gather docs before r x) (gather docs 0 q x) (gather_too r q x too)

  module _ (terms : List (List ℕ)) where
    judge_list_too : (x y : ListStart) → judge_list terms x ≡ Ok y → judge_list [] x ≡ Ok y
    judge_list_too x y is = start_too (not (is_utf8 x.term)) (nat_lt 65535 (length x.term)) (is_seen x.term terms) (over63 x.df || over63 x.cf) x y is

    pub list_alone : (at : ℕ) (m : Message) (l : ListData) → list_at docs before terms at m ≡ Ok l → list_at docs 0 [] at m ≡ Ok l
    unfolding list_at
    list_alone at m l is =
        then_too (list_walk_at m.from m.body) (list_walk_at m.from m.body)
        (λ walked. placed at (judge_list terms walked.start) >>= λ start. postings_of docs before walked.entries >>= λ postings. Ok (record { term = start.term; df = start.df; cf = start.cf; postings = postings }))
        (λ walked. placed at (judge_list [] walked.start) >>= λ start. postings_of docs 0 walked.entries >>= λ postings. Ok (record { term = start.term; df = start.df; cf = start.cf; postings = postings }))
        (λ w is. is)
        (λ walked. then_too (placed at (judge_list terms walked.start)) (placed at (judge_list [] walked.start))
        (λ start. postings_of docs before walked.entries >>= λ postings. Ok (record { term = start.term; df = start.df; cf = start.cf; postings = postings }))
        (λ start. postings_of docs 0 walked.entries >>= λ postings. Ok (record { term = start.term; df = start.df; cf = start.cf; postings = postings }))
        (placed_too at (judge_list terms walked.start) (judge_list [] walked.start) (judge_list_too walked.start))
        (λ start. then_too (postings_of docs before walked.entries) (postings_of docs 0 walked.entries)
        (λ postings. Ok (record { term = start.term; df = start.df; cf = start.cf; postings = postings })) (λ postings. Ok (record { term = start.term; df = start.df; cf = start.cf; postings = postings }))
        (gathered_too walked.entries (Ok []) (Ok []) (λ ps is. is))
        (λ postings y is. is)))
        l is
