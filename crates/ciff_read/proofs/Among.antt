-- Records that are placed by rising numbers have the numbers that they had, so a document's record is judged alike behind them.
use Rattle.shared_lemmas.proofs.Common.{◌≡◌, ℕ, Bool, true, false, cond, List, [], ◌∷◌, Result, Ok, Err, refl, ap, ◌∙◌, sym, fold, ◌==◌, ◌||◌, nat_lt, or-false}
use Rattle.ciff_read.specs.declared.refusal.CiffRefusal.{CiffRefusal}
use Rattle.ciff_read.specs.Assembling.{by_number}
use Rattle.ciff_read.specs.Judging.{NumberedDoc, numbers_of, is_among, judge_doc}
use Rattle.ciff_read.specs.Reading.{Message, numbered_at, doc_at, inserted}
use Rattle.ciff_read.specs.Refusals.{◌>>=◌, placed}

or_swap : (a b c : Bool) → (a || (b || c)) ≡ (b || (a || c))
or_swap true true c = refl
or_swap true false c = refl
or_swap false true c = refl
or_swap false false c = refl

or_behind : (a b c : Bool) → ((a || b) || c) ≡ (b || (a || c))
or_behind true true c = refl
or_behind true false c = refl
or_behind false true c = refl
or_behind false false c = refl

module _ (n : ℕ) where
  among_inserted : (x : NumberedDoc) (rs : List NumberedDoc) → is_among n (numbers_of (inserted x rs)) ≡ (x.number == n || is_among n (numbers_of rs))
  among_inserted x [] = refl
  among_inserted x (r ∷ rs) = go (nat_lt r.number x.number) (among_inserted x rs)
    where
      go : (test : Bool) → is_among n (numbers_of (inserted x rs)) ≡ (x.number == n || is_among n (numbers_of rs))
          → is_among n (numbers_of (cond test (r ∷ inserted x rs) (x ∷ r ∷ rs))) ≡ (x.number == n || (r.number == n || is_among n (numbers_of rs)))
      go true more = ap (λ b. r.number == n || b) more ∙ or_swap (r.number == n) (x.number == n) (is_among n (numbers_of rs))
      go false more = refl

  among_placed : (rs so_far : List NumberedDoc) → is_among n (numbers_of (fold (λ (others : List NumberedDoc) (x : NumberedDoc). inserted x others) so_far rs)) ≡ (is_among n (numbers_of so_far) || is_among n (numbers_of rs))
  among_placed [] so_far = sym (or-false (is_among n (numbers_of so_far)))
  among_placed (x ∷ rs) so_far =
      among_placed rs (inserted x so_far) ∙ ap (λ b. b || is_among n (numbers_of rs)) (among_inserted x so_far)
      ∙ or_behind (x.number == n) (is_among n (numbers_of so_far)) (is_among n (numbers_of rs))

  pub among_by_number : (rs : List NumberedDoc) → is_among n (numbers_of (by_number rs)) ≡ is_among n (numbers_of rs)
  among_by_number rs = among_placed rs []

module _ (docs : ℕ) (a b : List ℕ) where
  -- of the numbers that came before it counts only whether the record's own is among them
  pub same_judged : (x : NumberedDoc) → is_among x.number a ≡ is_among x.number b → judge_doc docs a x ≡ judge_doc docs b x
  same_judged x is = rw is refl

  pub same_doc : (at : ℕ) (m : Message) → ((n : ℕ) → is_among n a ≡ is_among n b) → doc_at docs a at m ≡ doc_at docs b at m
  unfolding doc_at
  same_doc at m same = go (numbered_at m.from m.body)
    where
      go : (r : Result NumberedDoc CiffRefusal) → (r >>= λ x. placed at (judge_doc docs a x)) ≡ (r >>= λ x. placed at (judge_doc docs b x))
      go (Ok x) = ap (placed at) (same_judged x (same x.number))
      go (Err e) = refl
