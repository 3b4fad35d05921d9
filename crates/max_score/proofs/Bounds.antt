-- Sums over lists, and the bounds of them.
use Rattle.shared_lemmas.proofs.Common.{◌^◌, ◌≡◌, ℕ, ◌+◌, ◌-◌, ◌<◌, ◌≤◌, List, [], ◌∷◌, length, take, drop, get_or, refl, sym, ap, ◌∙◌, arith, All, AllByRecursion, recursion_from_All}
use Rattle.shared_lemmas.proofs.Common.{sum_by-cons, sum_by-take-drop, sum_by_more, get_or-map-range_with_len, length-map-range_with_len, All-take, All-drop}
use Rattle.max_score.specs.declared.term_list.TermList.{TermList}
use Rattle.max_score.specs.Private.Lists.{AreBounded, most_of, score_in, scores_in, weight_in}

pub scores_length : (docs : ℕ) (lists : List TermList) → length (scores_in docs lists) ≡ docs
scores_length docs lists = length-map-range_with_len (score_in lists) 0 docs

pub score_at : (docs : ℕ) (lists : List TermList) (doc : ℕ) → doc < docs → get_or (scores_in docs lists) doc 0 ≡ score_in lists doc
score_at docs lists doc inside = get_or-map-range_with_len (score_in lists) 0 docs doc doc 0 (omega arith) (omega arith)

abbrev pub IsBelow : TermList → Type 0
IsBelow list = (doc : ℕ) → weight_in doc list ≤ list.greatest

at_most : (doc : ℕ) (lists : List TermList) → AllByRecursion IsBelow lists → score_in lists doc ≤ most_of lists
at_most doc [] all = omega arith
at_most doc (x ∷ xs) all =
    let s = sum_by-cons (weight_in doc) x xs in
    let t = sum_by-cons (λ (list : TermList). list.greatest) x xs in
    let here = all.0 doc in
    let rest = at_most doc xs all.1 in
    omega arith

-- lists add at most the sum of their greatest weights
pub front_at_most : (doc n : ℕ) (lists : List TermList) → All IsBelow lists → score_in (take n lists) doc ≤ most_of (take n lists)
front_at_most doc n lists all = at_most doc (take n lists) (recursion_from_All IsBelow (take n lists) (All-take IsBelow n lists all))

pub back_at_most : (doc n : ℕ) (lists : List TermList) → All IsBelow lists → score_in (drop n lists) doc ≤ most_of (drop n lists)
back_at_most doc n lists all = at_most doc (drop n lists) (recursion_from_All IsBelow (drop n lists) (All-drop IsBelow n lists all))

-- scores and greatest weights in front of a place and from it on
pub score_parts : (doc n : ℕ) (lists : List TermList) → score_in lists doc ≡ score_in (take n lists) doc + score_in (drop n lists) doc
score_parts doc n lists = sym (sum_by-take-drop (weight_in doc) lists n)

pub most_parts : (n : ℕ) (lists : List TermList) → most_of lists ≡ most_of (take n lists) + most_of (drop n lists)
most_parts n lists = sym (sum_by-take-drop (λ (list : TermList). list.greatest) lists n)

-- one list more of the front
pub score_more : (doc i : ℕ) (lists : List TermList) (none : TermList) → i < length lists → score_in (take (i + 1) lists) doc ≡ score_in (take i lists) doc + weight_in doc (get_or lists i none)
score_more doc i lists none inside = sum_by_more (weight_in doc) lists i none inside

-- one list more of the back
pub back_more : (doc i : ℕ) (lists : List TermList) (none : TermList) → i < length lists → score_in (drop i lists) doc ≡ weight_in doc (get_or lists i none) + score_in (drop (i + 1) lists) doc
back_more doc i lists none inside =
    let all = score_parts doc i lists in
    let also = score_parts doc (i + 1) lists in
    let more = score_more doc i lists none inside in
    omega arith

pub no_bound : (lists : List TermList) → most_of (take 0 lists) ≡ 0
no_bound lists = refl

-- the score is that of the lists from a place on, and what those before it add: no more than their bound
pub under : (doc left threshold score bound : ℕ) (lists : List TermList) (none : TermList) → AreBounded lists → 0 < left → left ≤ length lists → score ≡ score_in (drop left lists) doc
    → bound ≡ (get_or lists (left - 1) none).bound → score + bound ≤ threshold → score_in lists doc ≤ threshold
under doc left threshold score bound lists none bounded some within is told low =
    let at = bounded.bounds (left - 1) none (omega arith) in
    let e : left - 1 + 1 ≡ left = omega arith in
    let most : bound ≡ most_of (take left lists) = told ∙ at ∙ ap (λ n. most_of (take n lists)) e in
    let front = front_at_most doc left lists bounded.greatest in
    let parts = score_parts doc left lists in
    omega arith

-- a part of the score with the bound of the rest fits 32 bits
pub bound_fits : (doc left score bound : ℕ) (lists : List TermList) (none : TermList) → AreBounded lists → 0 < left → left ≤ length lists → score ≡ score_in (drop left lists) doc
    → bound ≡ (get_or lists (left - 1) none).bound → score + bound < 2 ^ 32
bound_fits doc left score bound lists none bounded some within is told =
    let at = bounded.bounds (left - 1) none (omega arith) in
    let e : left - 1 + 1 ≡ left = omega arith in
    let most : bound ≡ most_of (take left lists) = told ∙ at ∙ ap (λ n. most_of (take n lists)) e in
    let back = back_at_most doc left lists bounded.greatest in
    let parts = most_parts left lists in
    let fits = bounded.fits in
    omega arith

-- with the list in front of a part
pub next_sum : (doc left score weight : ℕ) (lists : List TermList) (none : TermList) → 0 < left → left ≤ length lists → score ≡ score_in (drop left lists) doc
    → weight ≡ weight_in doc (get_or lists (left - 1) none) → score + weight ≡ score_in (drop (left - 1) lists) doc
next_sum doc left score weight lists none some within is told =
    let more = back_more doc (left - 1) lists none (omega arith) in
    let e : left - 1 + 1 ≡ left = omega arith in
    let same : score_in (drop (left - 1 + 1) lists) doc ≡ score_in (drop left lists) doc = ap (λ n. score_in (drop n lists) doc) e in
    omega arith

pub sum_fits : (doc n : ℕ) (lists : List TermList) → AreBounded lists → score_in (drop n lists) doc < 2 ^ 32
sum_fits doc n lists bounded = let back = back_at_most doc n lists bounded.greatest in let parts = most_parts n lists in let fits = bounded.fits in omega arith
