-- Rows and heap places, one item on.
use Rattle.shared_lemmas.proofs.Common.{◌≡◌, ℕ, suc, ◌+◌, ◌-◌, ◌<◌, List, ◌∷◌, length, get_or, set, drop, sym, ap, ◌∙◌, subst, arith, drop-cons, get_or_read, length-drop}
use Rattle.topk_heap.proofs.Below.{Hit, PoolView, LeavesPool, Pages, own_chain, own_view, pages_places, pages_scores, length-values}
use Rattle.topk_heap.specs.Places.{KeepsScores}
use Rattle.topk_heap.specs.Private.Rows.{with_score}
use Rattle.topk_heap.specs.Private.Settling.{with_places, without_places}

-- ---- heap places

pub without_next : (hits : List Hit) (i : ℕ) (d : Hit) (places new all : List ℕ) → i < length hits → new ≡ set places (get_or hits i d).doc 0
    → without_places (drop i hits) places ≡ all → without_places (drop (i + 1) hits) new ≡ all
without_next hits i d places new all inside is left =
    let one : i + 1 ≡ suc i = omega arith in
    ap (λ n. without_places (drop n hits) new) one ∙ ap (λ p. without_places (drop (suc i) hits) p) is
    ∙ ap (λ hs. without_places hs places) (sym (drop-cons hits i d inside)) ∙ left

pub with_next : (hits : List Hit) (i : ℕ) (d : Hit) (places new all : List ℕ) (place : ℕ) → i < length hits → place + i ≡ length hits → new ≡ set places (get_or hits i d).doc place
    → with_places (drop i hits) places ≡ all → with_places (drop (i + 1) hits) new ≡ all
with_next hits i d places new all place inside here is left =
    let one : i + 1 ≡ suc i = omega arith in
    let cut : drop i hits ≡ get_or hits i d ∷ drop (suc i) hits = drop-cons hits i d inside in
    let size : length (drop (suc i) hits) ≡ length hits - suc i = length-drop (suc i) hits in
    let count : place ≡ 1 + length (drop (suc i) hits) = omega (arith, here, size, inside) in
    ap (λ n. with_places (drop n hits) new) one ∙ ap (λ p. with_places (drop (suc i) hits) p) is
    ∙ ap (λ n. with_places (drop (suc i) hits) (set places (get_or hits i d).doc n)) count ∙ ap (λ hs. with_places hs places) (sym cut) ∙ left

-- ---- pages

pub docs_scored : (pages : Pages) (pool : PoolView) → length (pages_scores pages pool) ≡ pages.docs
docs_scored pages pool = length-values (λ x. x.scores) pages.docs (own_view pages pool)

pub docs_placed : (pages : Pages) (pool : PoolView) → length (pages_places pages pool) ≡ pages.docs
docs_placed pages pool = length-values (λ x. x.places) pages.docs (own_view pages pool)

pub keeps_again : (first second third : Pages) (one two three : PoolView) → ((a b c : PoolView) (chain : ℕ) → LeavesPool a b chain → LeavesPool b c chain → LeavesPool a c chain)
    → KeepsScores first second one two → KeepsScores second third two three → KeepsScores first third one three
keeps_again first second third one two three both f g = record {
  scores = g.scores ∙ f.scores;
  frames = g.frames ∙ f.frames;
  stands = g.stands;
  same = record { chain = g.same.chain ∙ f.same.chain; docs = g.same.docs ∙ f.same.docs; room = g.same.room ∙ f.same.room };
  leaves = both one two three (own_chain first) f.leaves (subst (λ (x : ℕ). LeavesPool two three x) f.same.chain g.leaves);
}

-- ---- a score

pub score_in_place : (xs : List Hit) (i score : ℕ) (hit : Hit) → i < length xs → hit ≡ get_or xs i hit → set xs i (record { doc = hit.doc; score = score }) ≡ with_score xs i score
score_in_place xs i score hit inside read =
    ap (λ (h : Hit). set xs i (record { doc = h.doc; score = score })) (get_or_read xs i hit inside read (record { doc = 0; score = 0 }))
