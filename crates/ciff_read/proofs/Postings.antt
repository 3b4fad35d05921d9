-- What postings keep when one more is put behind them.
use Rattle.shared_lemmas.proofs.Common.{ap, ◌≡◌, ℕ, zero, suc, ◌+◌, ◌^◌, ◌<◌, ◌≤◌, Bool, true, false, cond, List, [], ◌∷◌, ◌++◌, length, All, Result, Ok, Err, refl, sym, subst, arith, inl, inr, nat_le, nat_lt, ◌==◌, ◌||◌, ◌&&◌, IsStrictlyIncreasing, cases_lt, nat_tests, get_or-append_seam}
use Rattle.shared_lemmas.proofs.Common.{map-append, length-map, length-append, get_or_append_left, All-append}
use Rattle.ciff_read.proofs.Below.{Posting, docs_of, HasTfInRange}
use Rattle.ciff_read.specs.declared.posting_fields.PostingFields.{PostingFields}
use Rattle.ciff_read.specs.declared.refusal.CiffWhy.{CiffWhy}
use Rattle.ciff_read.specs.declared.refusal.CiffWhy.TheVariants.{Range, Tf, Gap, DocRange, Limit}
use Rattle.ciff_read.specs.Judging.{last_from, judge}
use Rattle.ciff_read.specs.Private.Kept.{AreKept}

-- five tests that let a value through
passed : (a b c d e : Bool) (x y : Posting) → (let r : Result Posting CiffWhy = cond a (Err Range) (cond b (Err Tf) (cond c (Err Gap) (cond d (Err DocRange) (cond e (Err Limit) (Ok x))))) in r) ≡ Ok y
    → (a ≡ false) × (b ≡ false) × (c ≡ false) × (d ≡ false) × (e ≡ false) × (x ≡ y)
passed true b c d e x y is = absurd cc
passed false true c d e x y is = absurd cc
passed false false true d e x y is = absurd cc
passed false false false true e x y is = absurd cc
passed false false false false true x y is = absurd cc
passed false false false false false x y is = (refl, refl, refl, refl, refl, cc)

-- a posting that goes behind others
pub record Follows (docs before last : ℕ) (postings : List Posting) (p : Posting) : Type 0 where
  pub above : 0 < length postings → last < p.doc
  pub rises : last ≤ p.doc
  pub below : p.doc < docs
  pub room : before + length postings < 2 ^ 29
  pub tf : HasTfInRange p

pub judge_follows : (docs before : ℕ) (postings : List Posting) (e : PostingFields) (p : Posting) → judge docs before postings e ≡ Ok p → Follows docs before (last_from 0 postings) postings p
judge_follows docs before postings e p is =
    let t = passed (nat_le (2 ^ 31) e.docid || nat_le (2 ^ 31) e.tf) (e.tf == 0) (e.docid == 0 && nat_lt 0 (length postings)) (nat_le docs (last_from 0 postings + e.docid)) (nat_le (2 ^ 29) (before + length postings)) (record { doc = last_from 0 postings + e.docid; tf = e.tf }) p is in
    subst (Follows docs before (last_from 0 postings) postings) t.5 (record {
      above = λ some. let a = t.2 in grind (arith, nat_tests);
      rises = omega arith;
      below = let a = t.3 in grind (arith, nat_tests);
      room = let a = t.4 in grind (arith, nat_tests);
      tf = let a = t.0 in let b = t.1 in (grind (arith, nat_tests), grind (arith, nat_tests));
    })

-- what a posting that passes is
pub judge_is : (docs before : ℕ) (postings : List Posting) (e : PostingFields) (p : Posting) → judge docs before postings e ≡ Ok p → (p.doc ≡ last_from 0 postings + e.docid) × (p.tf ≡ e.tf)
judge_is docs before postings e p is =
    let t = passed (nat_le (2 ^ 31) e.docid || nat_le (2 ^ 31) e.tf) (e.tf == 0) (e.docid == 0 && nat_lt 0 (length postings)) (nat_le docs (last_from 0 postings + e.docid)) (nat_le (2 ^ 29) (before + length postings)) (record { doc = last_from 0 postings + e.docid; tf = e.tf }) p is in
    (ap (λ (q : Posting). q.doc) (sym t.5), ap (λ (q : Posting). q.tf) (sym t.5))

pub last_from-snoc : (last : ℕ) (ps : List Posting) (p : Posting) → last_from last (ps ++ p ∷ []) ≡ p.doc
last_from-snoc last [] p = refl
last_from-snoc last (x ∷ ps) p = last_from-snoc x.doc ps p

pub All-one : {X : Type 0} (P : X → Type 0) (x : X) → P x → All P (x ∷ [])
All-one P x h zero d lt = h
All-one P x h (suc k) d lt = absurd (omega arith)

pub rising-snoc : (xs : List ℕ) (last x : ℕ) → IsStrictlyIncreasing xs → All (λ y. y ≤ last) xs → (0 < length xs → last < x) → IsStrictlyIncreasing (xs ++ x ∷ [])
rising-snoc xs last x rising up above k lt =
    elim (cases_lt (k + 1) (length xs)) [
      | inl inside ↦ rw (get_or_append_left xs (x ∷ []) 0 k (omega arith), get_or_append_left xs (x ∷ []) 0 (k + 1) inside) (rising k inside)
      | inr le ↦
          let before : k < length xs = omega (arith, length-append xs (x ∷ [])) in
          let at : k + 1 ≡ length xs = omega (arith, length-append xs (x ∷ [])) in
          let some : 0 < length xs = omega arith in
          rw (get_or_append_left xs (x ∷ []) 0 k before, at, get_or-append_seam xs x [] 0) (omega (arith, up k 0 before, above some))
    ]

pub kept-snoc : (docs before last : ℕ) (ps : List Posting) (p : Posting) → AreKept docs before last ps → Follows docs before last ps p → AreKept docs before p.doc (ps ++ p ∷ [])
kept-snoc docs before last ps p kept next =
    let names : docs_of (ps ++ p ∷ []) ≡ docs_of ps ++ p.doc ∷ [] = map-append (λ (q : Posting). q.doc) ps (p ∷ []) in
    record {
      few_docs = kept.few_docs;
      few_postings = omega (arith, length-append ps (p ∷ []), next.room);
      last_is = sym (last_from-snoc 0 ps p);
      rising = rw names (rising-snoc (docs_of ps) last p.doc kept.rising kept.up_to_last (λ some. next.above (omega (arith, length-map ps (λ (q : Posting). q.doc)))));
      tf_in_range = All-append HasTfInRange ps (p ∷ []) kept.tf_in_range (All-one HasTfInRange p next.tf);
      up_to_last = rw names (All-append (λ doc. doc ≤ p.doc) (docs_of ps) (p.doc ∷ []) (λ k d lt. omega (arith, kept.up_to_last k d lt, next.rises)) (All-one (λ doc. doc ≤ p.doc) p.doc (omega arith)));
      docs_below = rw names (All-append (λ doc. doc < docs) (docs_of ps) (p.doc ∷ []) kept.docs_below (All-one (λ doc. doc < docs) p.doc next.below));
    }
