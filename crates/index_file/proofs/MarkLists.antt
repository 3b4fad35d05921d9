-- Marks of the documents of a term, and which of them were met before.
use Rattle.shared_lemmas.proofs.Common.{◌≡◌, ◌≢◌, ◌≤◌, ◌<◌, ◌+◌, ◌==◌, ◌||◌, ℕ, Bool, true, false, nat_eq, All, List, [], ◌∷◌, ◌++◌, length, take, drop, slice_index, slice_set, ap, sym, subst, ◌∙◌, refl, arith, ◌⊎◌, list_any, inl, inr, cases_eq, nat_tests, take-append-drop, All-head, All-tail}
use Rattle.shared_lemmas.proofs.Common.{All-weaker, All-set, list_any-append, or-false, or-true}
use Rattle.std.proofs.lemmas.List.{append-nil, append_assoc, get_or-set_same, get_or-set_other, length-set}
use Rattle.index_file.proofs.Below.{AreDocs, is_among, shares_one, RiseFrom, rise_from}
use Rattle.index_file.specs.Marks.{AreMarks, marked, meets_marked}

-- the documents that are still to come
pub record Left (gives : List ℕ → Type 0) (now d left : ℕ) (docs before marks : List ℕ) : Type 0 where
  pub rest : List ℕ
  pub given : gives rest
  pub many : length rest ≡ left
  pub below : All (λ doc. doc < d) rest
  pub met : meets_marked now docs before ≡ meets_marked now rest marks
  pub same : marked now docs before ≡ marked now rest marks
  pub count : d ≤ length marks

or_behind : (b x y z : Bool) → x ≡ (y || z) → (b || x) ≡ ((b || y) || z)
or_behind true x y z is = refl
or_behind false x y z is = is

meets_behind : (now : ℕ) (xs ys marks : List ℕ) → meets_marked now (xs ++ ys) marks ≡ (meets_marked now xs marks || meets_marked now ys (marked now xs marks))
meets_behind now [] ys marks = refl
meets_behind now (x ∷ xs) ys marks =
    or_behind (slice_index marks x == now) (meets_marked now (xs ++ ys) (slice_set marks x now)) (meets_marked now xs (slice_set marks x now)) (meets_marked now ys (marked now xs (slice_set marks x now)))
    (meets_behind now xs ys (slice_set marks x now))

marked_behind : (now : ℕ) (xs ys marks : List ℕ) → marked now (xs ++ ys) marks ≡ marked now ys (marked now xs marks)
marked_behind now [] ys marks = refl
marked_behind now (x ∷ xs) ys marks = marked_behind now xs ys (slice_set marks x now)

pub block_met : (now n : ℕ) (rest marks : List ℕ) → meets_marked now (take n rest) marks ≡ true → meets_marked now rest marks ≡ true
block_met now n rest marks met =
    ap (λ docs. meets_marked now docs marks) (sym (take-append-drop n rest)) ∙ meets_behind now (take n rest) (drop n rest) marks
    ∙ ap (λ b. b || meets_marked now (drop n rest) (marked now (take n rest) marks)) met

pub block_passed : (now n : ℕ) (rest marks : List ℕ) → meets_marked now (take n rest) marks ≡ false → meets_marked now rest marks ≡ meets_marked now (drop n rest) (marked now (take n rest) marks)
block_passed now n rest marks passed =
    ap (λ docs. meets_marked now docs marks) (sym (take-append-drop n rest)) ∙ meets_behind now (take n rest) (drop n rest) marks
    ∙ ap (λ b. b || meets_marked now (drop n rest) (marked now (take n rest) marks)) passed

pub block_marked : (now n : ℕ) (rest marks : List ℕ) → marked now rest marks ≡ marked now (drop n rest) (marked now (take n rest) marks)
block_marked now n rest marks = ap (λ docs. marked now docs marks) (sym (take-append-drop n rest)) ∙ marked_behind now (take n rest) (drop n rest) marks

among_more : (earlier : List ℕ) (doc other : ℕ) → is_among (earlier ++ doc ∷ []) other ≡ (is_among earlier other || (other == doc))
among_more earlier doc other = list_any-append (nat_eq other) earlier (doc ∷ []) ∙ ap (λ b. is_among earlier other || b) (or-false (other == doc))

pub mark_one : (now : ℕ) (earlier marks : List ℕ) (doc : ℕ) → AreMarks now earlier marks → AreMarks now (earlier ++ doc ∷ []) (slice_set marks doc now)
mark_one now earlier marks doc are = record {
  met = λ other inside. (let within : other < length marks = (let l = length-set marks doc now in omega (arith, inside, l)) in either other within (cases_eq other doc));
  most = All-set (λ mark. mark ≤ now) marks doc now (omega arith) are.most;
}
  where
    either : (other : ℕ) → other < length marks → (other ≡ doc) ⊎ (other ≢ doc) → (slice_index (slice_set marks doc now) other == now) ≡ is_among (earlier ++ doc ∷ []) other
    either other within (inl same) =
        let here : slice_index (slice_set marks doc now) other ≡ now = ap (slice_index (slice_set marks doc now)) same ∙ get_or-set_same marks doc now 0 (subst (λ n. n < length marks) same within) in
        let a : (slice_index (slice_set marks doc now) other == now) ≡ true = grind (arith, nat_tests, here) in
        let b : (other == doc) ≡ true = grind (arith, nat_tests, same) in
        a ∙ sym (among_more earlier doc other ∙ ap (λ x. is_among earlier other || x) b ∙ or-true (is_among earlier other))
    either other within (inr apart) =
        let b : (other == doc) ≡ false = grind (arith, nat_tests, apart) in
        ap (λ mark. mark == now) (get_or-set_other marks doc other now 0 apart) ∙ are.met other within
        ∙ sym (among_more earlier doc other ∙ ap (λ x. is_among earlier other || x) b ∙ or-false (is_among earlier other))

-- documents that were marked are met later
pub marked_are : (now : ℕ) (docs earlier marks : List ℕ) → AreMarks now earlier marks → AreMarks now (earlier ++ docs) (marked now docs marks)
marked_are now [] earlier marks are = subst (λ docs. AreMarks now docs marks) (sym (append-nil earlier)) are
marked_are now (doc ∷ docs) earlier marks are =
    subst (λ all. AreMarks now all (marked now docs (slice_set marks doc now))) (append_assoc earlier (doc ∷ []) docs)
    (marked_are now docs (earlier ++ doc ∷ []) (slice_set marks doc now) (mark_one now earlier marks doc are))

-- whether a document of some has the mark
abbrev meets_now : ℕ → List ℕ → List ℕ → Bool
meets_now now marks docs = list_any (λ doc. slice_index marks doc == now) docs

other_mark : (now least : ℕ) (docs marks : List ℕ) (doc : ℕ) → doc < least → RiseFrom least docs → meets_now now (slice_set marks doc now) docs ≡ meets_now now marks docs
other_mark now least [] marks doc less rise = refl
other_mark now least (next ∷ docs) marks doc less rise =
    let above = rise.0 in
    let apart : next ≢ doc = (λ same. absurd (omega (arith, less, above, same))) in
    rw (get_or-set_other marks doc next now 0 apart, other_mark now (next + 1) docs marks doc (omega (arith, less, above)) rise.1) refl

meets_each : (now least : ℕ) (docs marks : List ℕ) → RiseFrom least docs → meets_marked now docs marks ≡ meets_now now marks docs
meets_each now least [] marks rise = refl
meets_each now least (doc ∷ docs) marks rise =
    ap (λ b. (slice_index marks doc == now) || b) (meets_each now (doc + 1) docs (slice_set marks doc now) rise.1 ∙ other_mark now (doc + 1) docs marks doc (omega arith) rise.1)

meets_earlier : (now : ℕ) (earlier docs marks : List ℕ) → AreMarks now earlier marks → All (λ doc. doc < length marks) docs → meets_now now marks docs ≡ shares_one earlier docs
meets_earlier now earlier [] marks are below = refl
meets_earlier now earlier (doc ∷ docs) marks are below =
    rw (are.met doc (All-head (λ doc. doc < length marks) doc docs below), meets_earlier now earlier docs marks are (All-tail (λ doc. doc < length marks) doc docs below)) refl

pub meets_is : (now d : ℕ) (earlier docs marks : List ℕ) → AreMarks now earlier marks → AreDocs d docs → d ≤ length marks → meets_marked now docs marks ≡ shares_one earlier docs
meets_is now d earlier docs marks are all inside =
    meets_each now 0 docs marks (rise_from 0 docs all.rising (λ some. omega arith))
    ∙ meets_earlier now earlier docs marks are (All-weaker (λ doc. doc < d) (λ doc. doc < length marks) (λ doc less. omega (arith, less, inside)) docs all.below)
