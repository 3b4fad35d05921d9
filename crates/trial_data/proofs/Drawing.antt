-- What the postings of a term keep.
use Rattle.shared_lemmas.proofs.Common.{◌≡◌, ℕ, zero, suc, ◌+◌, ◌*◌, ◌%◌, ◌^◌, ◌<◌, ◌≤◌, Bool, true, false, cond, List, [], ◌∷◌, ◌++◌, length, refl, sym, ap, ap₂, ◌∙◌, subst, arith, append_assoc, ⊤, nat_lt, All, IsStrictlyIncreasing, nat_tests, All-nil, All-cons, sum_by-cons, mul-le, pow-succ'}
use Rattle.shared_lemmas.proofs.Common.{pow-zero}
use Rattle.std.proofs.lemmas.List.{append-nil}
use Rattle.jass_base.specs.declared.posting.Posting.{Posting}
use Rattle.jass_base.specs.Postings.{docs_of, HasTfInRange}
use Rattle.jass_base.proofs.Gaps.{RiseFrom, rising}
use Rattle.trial_data.specs.Generator.{next_state, drawn}
use Rattle.trial_data.specs.Trials.{DrawnPostings, tf_of, posting_behind, none_behind, put_posting, postings_from, term_postings, tf_sum}

-- documents rise from one on and stay below a number, and each tf is from 1 to 8
abbrev pub AreDrawn : ℕ → ℕ → List Posting → Type 0
AreDrawn docs from [] = ⊤
AreDrawn docs from (p ∷ ps) = (from ≤ p.doc) × (p.doc < docs) × (1 ≤ p.tf) × (p.tf ≤ 8) × AreDrawn docs (p.doc + 1) ps

pub tf_small : (number : ℕ) → tf_of number ≤ 8
tf_small number =
    let low : number % 64 ≤ 63 = omega arith in
    let square : (number % 64) ^ 2 ≡ (number % 64) * (number % 64) = rw (pow-succ' (number % 64) 1, pow-succ' (number % 64) 0, pow-zero (number % 64)) (omega arith) in
    omega (arith, mul-le (number % 64) (number % 64) 63 63 low low)

pub are_drawn : (docs term left from state : ℕ) → AreDrawn docs from (postings_from docs term left from state).postings
are_drawn docs term zero from state = tt
are_drawn docs term (suc left) from state = go (nat_lt p.doc docs) refl (are_drawn docs term left (p.doc + 1) (next_state (next_state state)))
  where
    p : Posting
    p = posting_behind term from state

    later : DrawnPostings
    later = postings_from docs term left (p.doc + 1) (next_state (next_state state))

    go : (test : Bool) → nat_lt p.doc docs ≡ test → AreDrawn docs (p.doc + 1) later.postings
        → AreDrawn docs from (cond test (put_posting p later) (none_behind state)).postings
    go true low h = (omega arith, grind (arith, nat_tests), omega arith, tf_small (drawn (next_state (next_state state))), h)
    go false high h = tt

pub term_drawn : (docs term state : ℕ) → AreDrawn docs 0 (term_postings docs term state).postings
unfolding term_postings
term_drawn docs term state = are_drawn docs term docs 0 state

-- ---- what follows from it

rise : (docs from : ℕ) (ps : List Posting) → AreDrawn docs from ps → RiseFrom from (docs_of ps)
rise docs from [] h = tt
rise docs from (p ∷ ps) h = (h.0, rise docs (p.doc + 1) ps h.4)

pub docs_rise : (docs from : ℕ) (ps : List Posting) → AreDrawn docs from ps → IsStrictlyIncreasing (docs_of ps)
docs_rise docs from ps h = rising from (docs_of ps) (rise docs from ps h)

pub docs_below : (docs from : ℕ) (ps : List Posting) → AreDrawn docs from ps → All (λ doc. doc < docs) (docs_of ps)
docs_below docs from [] h = All-nil (λ doc. doc < docs)
docs_below docs from (p ∷ ps) h = All-cons (λ doc. doc < docs) p.doc (docs_of ps) h.1 (docs_below docs (p.doc + 1) ps h.4)

pub tf_fits : (docs from : ℕ) (ps : List Posting) → AreDrawn docs from ps → All HasTfInRange ps
tf_fits docs from [] h = All-nil HasTfInRange
tf_fits docs from (p ∷ ps) h = let low = h.3 in All-cons HasTfInRange p ps (h.2, omega arith) (tf_fits docs (p.doc + 1) ps h.4)

-- each document once
pub tf_between : (docs from : ℕ) (ps : List Posting) → AreDrawn docs from ps → All (λ (p : Posting). (1 ≤ p.tf) × (p.tf ≤ 8)) ps
tf_between docs from [] h = All-nil (λ (p : Posting). (1 ≤ p.tf) × (p.tf ≤ 8))
tf_between docs from (p ∷ ps) h = All-cons (λ (p : Posting). (1 ≤ p.tf) × (p.tf ≤ 8)) p ps (h.2, h.3) (tf_between docs (p.doc + 1) ps h.4)

pub few_drawn : (docs from : ℕ) (ps : List Posting) → AreDrawn docs from ps → from ≤ docs → from + length ps ≤ docs
few_drawn docs from [] h within = omega arith
few_drawn docs from (p ∷ ps) h within = omega (arith, h.0, h.1, few_drawn docs (p.doc + 1) ps h.4 (omega (arith, h.1)))

pub tf_sum_small : (docs from : ℕ) (ps : List Posting) → AreDrawn docs from ps → tf_sum ps ≤ 8 * length ps
tf_sum_small docs from [] h = omega arith
tf_sum_small docs from (p ∷ ps) h = omega (arith, h.3, tf_sum_small docs (p.doc + 1) ps h.4, sum_by-cons (λ (q : Posting). q.tf) p ps)

-- ---- one turn of drawing them

-- postings before those that are drawn
abbrev pub with_front : List Posting → DrawnPostings → DrawnPostings
with_front ps later = record { postings = ps ++ later.postings; state = later.state }

pub one_more : (ps : List Posting) (p : Posting) (later : DrawnPostings) → with_front ps (put_posting p later) ≡ with_front (ps ++ p ∷ []) later
one_more ps p later = ap (λ (qs : List Posting). (let d : DrawnPostings = record { postings = qs; state = later.state } in d)) (sym (append_assoc ps (p ∷ []) later.postings))

-- the postings of a term so far, and what is still drawn
pub record DrawnTo (docs term : ℕ) (whole : DrawnPostings) (ps : List Posting) (from state : ℕ) : Type 0 where
  pub left : ℕ
  pub within : from ≤ docs
  pub enough : docs ≤ from + left
  pub is : whole ≡ with_front ps (postings_from docs term left from state)

-- the draw that gives no document ends the term
pub ends : (docs term left from state : ℕ) → docs ≤ (posting_behind term from state).doc → postings_from docs term left from state ≡ none_behind state
ends docs term zero from state high = refl
ends docs term (suc left) from state high = let test : nat_lt (posting_behind term from state).doc docs ≡ false = grind (arith, nat_tests) in rw test refl

pub drawn_all : (docs term from state number next : ℕ) (whole : DrawnPostings) (ps : List Posting) → DrawnTo docs term whole ps from state
    → next ≡ next_state state → number ≡ drawn next → docs ≤ from + number % (2 * term + 1) → record { postings = ps; state = next } ≡ whole
drawn_all docs term from state number next whole ps to moved is high =
    let last : number ≡ drawn (next_state state) = is ∙ ap drawn moved in
    let behind : docs ≤ (posting_behind term from state).doc = subst (λ (n : ℕ). docs ≤ from + n % (2 * term + 1)) last high in
    let front : with_front ps (none_behind state) ≡ whole = sym (to.is ∙ ap (with_front ps) (ends docs term to.left from state behind)) in
    ap₂ (λ (qs : List Posting) (n : ℕ). (let d : DrawnPostings = record { postings = qs; state = n } in d)) (sym (append-nil ps)) moved ∙ front

-- the documents that are left behind a posting
record GoesOn (docs term left from state : ℕ) : Type 0 where
  fewer : ℕ
  enough : docs ≤ (posting_behind term from state).doc + 1 + fewer
  is : postings_from docs term left from state
      ≡ put_posting (posting_behind term from state) (postings_from docs term fewer ((posting_behind term from state).doc + 1) (next_state (next_state state)))

goes_on : (docs term left from state : ℕ) → docs ≤ from + left → (posting_behind term from state).doc < docs → GoesOn docs term left from state
goes_on docs term zero from state enough low = absurd (omega arith)
goes_on docs term (suc left) from state enough low =
    let test : nat_lt (posting_behind term from state).doc docs ≡ true = grind (arith, nat_tests) in
    record { fewer = left; enough = omega arith; is = rw test refl }

one_behind : (docs term from state : ℕ) (whole : DrawnPostings) (ps : List Posting) → DrawnTo docs term whole ps from state → (posting_behind term from state).doc < docs
    → DrawnTo docs term whole (ps ++ posting_behind term from state ∷ []) ((posting_behind term from state).doc + 1) (next_state (next_state state))
one_behind docs term from state whole ps to low =
    let more = goes_on docs term to.left from state to.enough low in
    record { left = more.fewer; within = omega arith; enough = more.enough; is = to.is ∙ ap (with_front ps) more.is ∙ one_more ps (posting_behind term from state) (postings_from docs term more.fewer ((posting_behind term from state).doc + 1) (next_state (next_state state))) }

-- one posting more
pub drawn_more : (docs term from state number next tf other last : ℕ) (whole : DrawnPostings) (ps now : List Posting) → DrawnTo docs term whole ps from state
    → next ≡ next_state state → number ≡ drawn next → from + number % (2 * term + 1) < docs
    → last ≡ next_state next → other ≡ drawn last → tf ≡ tf_of other
    → now ≡ ps ++ record { doc = from + number % (2 * term + 1); tf = tf } ∷ [] → DrawnTo docs term whole now (from + number % (2 * term + 1) + 1) last
drawn_more docs term from state number next tf other last whole ps now to moved is low again also times put =
    let doc : from + number % (2 * term + 1) ≡ (posting_behind term from state).doc = ap (λ n. from + n % (2 * term + 1)) (is ∙ ap drawn moved) in
    let state_is : last ≡ next_state (next_state state) = again ∙ ap next_state moved in
    let often : tf ≡ tf_of (drawn (next_state (next_state state))) = times ∙ ap tf_of (also ∙ ap drawn state_is) in
    let posting : (let p : Posting = record { doc = from + number % (2 * term + 1); tf = tf } in p) ≡ posting_behind term from state = (λ i. record { doc = doc i; tf = often i }) in
    let P : List Posting → ℕ → ℕ → Type 0 = λ (qs : List Posting) (n m : ℕ). DrawnTo docs term whole qs n m in
    let put_is : ps ++ posting_behind term from state ∷ [] ≡ now = sym (put ∙ ap (λ (p : Posting). ps ++ p ∷ []) posting) in
    let there : from + number % (2 * term + 1) + 1 ≡ (posting_behind term from state).doc + 1 = ap (λ n. n + 1) doc in
    subst (λ (qs : List Posting). P qs (from + number % (2 * term + 1) + 1) last) put_is
    (subst (λ (m : ℕ). P (ps ++ posting_behind term from state ∷ []) (from + number % (2 * term + 1) + 1) m) (sym state_is)
    (subst (λ (n : ℕ). P (ps ++ posting_behind term from state ∷ []) n (next_state (next_state state))) (sym there)
    (one_behind docs term from state whole ps to (subst (λ (n : ℕ). n < docs) doc low))))

-- ---- the number of documents that are left

-- one more changes nothing
one_left_more : (docs term left from state : ℕ) → docs ≤ from + left → postings_from docs term left from state ≡ postings_from docs term (suc left) from state
one_left_more docs term zero from state enough = sym (ends docs term 1 from state (omega arith))
one_left_more docs term (suc left) from state enough = go (nat_lt p.doc docs) refl (one_left_more docs term left (p.doc + 1) (next_state (next_state state)))
  where
    p : Posting
    p = posting_behind term from state

    later : ℕ → DrawnPostings
    later n = postings_from docs term n (p.doc + 1) (next_state (next_state state))

    go : (test : Bool) → nat_lt p.doc docs ≡ test → (docs ≤ p.doc + 1 + left → later left ≡ later (suc left))
        → cond test (put_posting p (later left)) (none_behind state) ≡ cond test (put_posting p (later (suc left))) (none_behind state)
    go true low h = ap (put_posting p) (h (omega arith))
    go false high h = refl

pub in_turn : (docs term left from state : ℕ) → docs ≤ from + left → (posting_behind term from state).doc < docs
    → postings_from docs term left from state ≡ put_posting (posting_behind term from state) (postings_from docs term left ((posting_behind term from state).doc + 1) (next_state (next_state state)))
in_turn docs term zero from state enough low = absurd (omega arith)
in_turn docs term (suc left) from state enough low =
    let test : nat_lt (posting_behind term from state).doc docs ≡ true = grind (arith, nat_tests) in
    rw test refl ∙ ap (put_posting (posting_behind term from state)) (one_left_more docs term left ((posting_behind term from state).doc + 1) (next_state (next_state state)) (omega arith))
