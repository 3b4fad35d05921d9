-- The steps of the loops over terms and over their segments.
use Rattle.shared_lemmas.proofs.Common.{◌≡◌, ℕ, suc, ◌+◌, ◌<◌, ◌≤◌, min, List, [], ◌∷◌, ◌++◌, length, get_or, drop, sym, ap, ◌∙◌, arith, append_assoc, append-nil, sum_by, sum_by-cons, drop_all, drop_more}
use Rattle.session_engine.proofs.Below.{QueryTerm, SegmentData, TermData, segments_at, PlanHead}
use Rattle.session_engine.specs.Plans.{heads_at, heads_from}

abbrev pub no_segment : SegmentData
no_segment = record { impact = 0; docs = [] }

abbrev pub size : SegmentData → ℕ
size s = length s.docs

pub sum_step : {A : Type 0} (f : A → ℕ) (xs : List A) (i limit sum new count : ℕ) (d : A) → i < length xs → new ≡ min limit (sum + f (get_or xs i d))
    → min limit (sum + sum_by f (drop i xs)) ≡ min limit count → min limit (new + sum_by f (drop (i + 1) xs)) ≡ min limit count
sum_step f xs i limit sum new count d inside now is =
    let left : sum_by f (drop i xs) ≡ f (get_or xs i d) + sum_by f (drop (i + 1) xs) = ap (sum_by f) (drop_more xs i d inside) ∙ sum_by-cons f (get_or xs i d) (drop (i + 1) xs) in
    omega arith

pub counted_all : {A : Type 0} (f : A → ℕ) (xs : List A) (i sum limit count : ℕ) → length xs ≤ i → sum ≤ limit
    → min limit (sum + sum_by f (drop i xs)) ≡ min limit count → sum ≡ min limit count
counted_all f xs i sum limit count past low is = let none : sum_by f (drop i xs) ≡ 0 = ap (sum_by f) (drop_all i xs past) in omega arith

pub heads_step : (term_place i : ℕ) (segments : List SegmentData) (items all : List PlanHead) (impact count : ℕ) → i < length segments
    → impact ≡ (get_or segments i no_segment).impact → count ≡ length (get_or segments i no_segment).docs
    → items ++ heads_at term_place i (drop i segments) ≡ all
    → (items ++ record { term_place = term_place; segment = i; impact = impact; count = count } ∷ []) ++ heads_at term_place (i + 1) (drop (i + 1) segments) ≡ all
heads_step term_place i segments items all impact count inside impacts counts is =
    let head : PlanHead = record { term_place = term_place; segment = i; impact = impact; count = count } in
    let one : suc i ≡ i + 1 = omega arith in
    let left : heads_at term_place i (drop i segments) ≡ head ∷ heads_at term_place (i + 1) (drop (i + 1) segments)
    = ap (heads_at term_place i) (drop_more segments i no_segment inside)
    ∙ (λ k. record { term_place = term_place; segment = i; impact = sym impacts k; count = sym counts k } ∷ heads_at term_place (one k) (drop (i + 1) segments)) in
    append_assoc items (head ∷ []) (heads_at term_place (i + 1) (drop (i + 1) segments)) ∙ ap (λ (hs : List PlanHead). items ++ hs) (sym left) ∙ is

abbrev pub no_term : QueryTerm
no_term = record { term = 0; times = 0 }

pub terms_step : (i term_place : ℕ) (query : List QueryTerm) (terms : List TermData) (items new all : List PlanHead) → i < length query → term_place ≡ i
    → new ≡ items ++ heads_at term_place 0 (segments_at terms (get_or query i no_term).term) → items ++ heads_from i (drop i query) terms ≡ all
    → new ++ heads_from (i + 1) (drop (i + 1) query) terms ≡ all
terms_step i term_place query terms items new all inside same grown is =
    let named : QueryTerm = get_or query i no_term in
    let here : List PlanHead = heads_at i 0 (segments_at terms named.term) in
    let one : suc i ≡ i + 1 = omega arith in
    let left : heads_from i (drop i query) terms ≡ here ++ heads_from (i + 1) (drop (i + 1) query) terms
    = ap (λ (ns : List QueryTerm). heads_from i ns terms) (drop_more query i no_term inside) ∙ (λ k. here ++ heads_from (one k) (drop (i + 1) query) terms) in
    ap (λ (hs : List PlanHead). hs ++ heads_from (i + 1) (drop (i + 1) query) terms) (grown ∙ ap (λ n. items ++ heads_at n 0 (segments_at terms named.term)) same)
    ∙ append_assoc items here (heads_from (i + 1) (drop (i + 1) query) terms) ∙ ap (λ (hs : List PlanHead). items ++ hs) (sym left) ∙ is

pub heads_all : (term_place i : ℕ) (segments : List SegmentData) (items all : List PlanHead) → length segments ≤ i → items ++ heads_at term_place i (drop i segments) ≡ all → items ≡ all
heads_all term_place i segments items all past is = sym (append-nil items) ∙ ap (λ (ss : List SegmentData). items ++ heads_at term_place i ss) (sym (drop_all i segments past)) ∙ is

pub terms_all : (i : ℕ) (query : List QueryTerm) (terms : List TermData) (items all : List PlanHead) → length query ≤ i → items ++ heads_from i (drop i query) terms ≡ all → items ≡ all
terms_all i query terms items all past is = sym (append-nil items) ∙ ap (λ (ns : List QueryTerm). items ++ heads_from i ns terms) (sym (drop_all i query past)) ∙ is
