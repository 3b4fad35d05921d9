-- The two words for adding a weight, and what is noted by an addition.
use Rattle.shared_lemmas.proofs.Common.{◌≡◌, ℕ, ◌+◌, ◌-◌, ◌^◌, ◌<◌, List, [], ◌∷◌, ◌++◌, length, get_or, set, sym, ap, ◌∙◌, subst, arith, length-set, get_or-set_same, All, IfSome, Option, All-cons, All-get_or, All-nil}
use Rattle.jass_base.specs.declared.answer.Hit.{Hit}
use Rattle.accumulator_pages.specs.Adding as pages
use Rattle.ranking_model.specs.Scores.{added, runner_up}
use Rattle.topk_heap.specs.Noting.{AreNoted, just_behind}
use Rattle.topk_heap.specs.Standing.{TopView, without_heap}
use Rattle.std.proofs.lemmas.List.{append-nil}

pub noted_after : (top : TopView) (last : Hit) (w : ℕ) (docs s s' p p' n n' : List ℕ) → AreNoted top last (pages.added w docs s) p (n ++ pages.raised w last docs s)
    → s' ≡ pages.added w docs s → p' ≡ p → n' ≡ n ++ pages.raised w last docs s → AreNoted top last s' p' n'
noted_after top last w docs s s' p p' n n' are is same notes = subst (λ (x : List ℕ). AreNoted top last x p' n') (sym is)
    (subst (λ (x : List ℕ). AreNoted top last (pages.added w docs s) x n') (sym same)
    (subst (λ (x : List ℕ). AreNoted top last (pages.added w docs s) p x) (sym notes) are))

-- what a heap is made of needn't be in it
pub noted_still : (top top' : TopView) (last : Hit) (scores places noted : List ℕ) → top'.k ≡ top.k → top'.room ≡ top.room
    → AreNoted (without_heap top) last scores places noted → AreNoted (without_heap top') last scores places noted
noted_still top top' last scores places noted k room are =
    subst (λ (t : TopView). AreNoted t last scores places noted) (λ i. record { k = (sym k) i; hits = []; room = (sym room) i }) are

-- ---- what a cut leaves

pub cut_now : (top top' : TopView) (scores places kept : List ℕ) (last : Hit) (o : Option Hit) → AreNoted top (just_behind (runner_up scores top.k)) scores places kept
    → top' ≡ top → o ≡ runner_up scores top.k → last ≡ just_behind o → AreNoted top' last scores places kept
cut_now top top' scores places kept last o are same next behind =
    subst (λ (t : TopView). AreNoted t last scores places kept) (sym same) (subst (λ (h : Hit). AreNoted top h scores places kept) (sym (behind ∙ ap just_behind next)) are)

pub next_inside : (scores : List ℕ) (k docs n : ℕ) (o : Option Hit) → IfSome (runner_up scores k) (λ (hit : Hit). hit.doc < length scores) → o ≡ runner_up scores k → length scores ≡ n → docs ≡ n
    → IfSome o (λ (hit : Hit). hit.doc < docs)
next_inside scores k docs n o inside next size same = subst (λ (r : Option Hit). IfSome r (λ (hit : Hit). hit.doc < docs)) (sym next)
    (subst (λ (m : ℕ). IfSome (runner_up scores k) (λ (hit : Hit). hit.doc < m)) (size ∙ sym same) inside)

pub inside_now : (docs s : List ℕ) (n : ℕ) → length s ≡ n → All (λ doc. doc < n) docs → All (λ doc. doc < length s) docs
inside_now docs s n size inside = subst (λ (m : ℕ). All (λ doc. doc < m) docs) (sym size) inside

-- of one document
pub one_inside : (doc n : ℕ) → doc < n → All (λ d. d < n) (doc ∷ [])
one_inside doc n inside = All-cons (λ d. d < n) doc [] inside (All-nil (λ d. d < n))

pub one_fits : (w doc : ℕ) (s s' : List ℕ) (n : ℕ) → s' ≡ s → length s ≡ n → doc < n → All (λ score. score < 2 ^ 32) (added w (doc ∷ []) s) → get_or s' doc 0 + w < 4294967296
one_fits w doc s s' n same size inside fits =
    let there : get_or (set s doc (get_or s doc 0 + w)) doc 0 ≡ get_or s doc 0 + w = get_or-set_same s doc (get_or s doc 0 + w) 0 (omega arith) in
    let most : get_or (set s doc (get_or s doc 0 + w)) doc 0 < 2 ^ 32 =
    All-get_or (λ score. score < 2 ^ 32) (set s doc (get_or s doc 0 + w)) doc 0 (let l = length-set s doc (get_or s doc 0 + w) in omega arith) fits in
    let old : get_or s' doc 0 ≡ get_or s doc 0 = ap (λ (xs : List ℕ). get_or xs doc 0) same in
    omega arith

pub one_noted : (w doc score : ℕ) (s n n' : List ℕ) (last : Hit) → score ≡ get_or s doc 0 + w → n' ≡ n ++ pages.crossed doc (score - w) score last → n' ≡ n ++ pages.raised w last (doc ∷ []) s
one_noted w doc score s n n' last rose notes =
    let before : score - w ≡ get_or s doc 0 = omega arith in
    notes ∙ ap (λ b. n ++ pages.crossed doc b score last) before ∙ ap (λ v. n ++ pages.crossed doc (get_or s doc 0) v last) rose
    ∙ ap (λ (xs : List ℕ). n ++ xs) (sym (append-nil (pages.crossed doc (get_or s doc 0) (get_or s doc 0 + w) last)))
