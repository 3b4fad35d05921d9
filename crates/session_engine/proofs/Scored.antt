-- Entries that are scored one by one.
use Rattle.shared_lemmas.proofs.Common.{◌≡◌, ℕ, ◌+◌, ◌-◌, drop, ◌<◌, ◌≤◌, ◌^◌, min, List, length, refl, sym, ap, ◌∙◌, subst, arith, All}
use Rattle.session_engine.proofs.Below.{PoolView, LeavesPool, chain_view, page_count, HasRoomFor, QueryPlan, PlanSegment, prefix_within, size_of_first, added, scores_after, Scores, AreScoresOf, ScoresStand, docs_of, own_chain, own_view, scores_of}
use Rattle.session_engine.specs.Standing.{ScoredTo}

-- the segments of a plan from one on up to another are scored, and their postings are counted
pub record Progress (from i need : ℕ) (plan : QueryPlan) (first : Scores) (old : PoolView) (now : Scores) (new : PoolView) (before steps postings : ℕ) : Type 0 where
  pub scored : ScoredTo i plan need now new
  pub same : AreScoresOf first now
  pub leaves : LeavesPool old new (own_chain first)
  pub counted : steps ≡ before + postings
  pub paid : size_of_first from plan.segments + postings ≡ size_of_first i plan.segments

pub started : (from need : ℕ) (plan : QueryPlan) (first : Scores) (old : PoolView) (steps : ℕ) → ScoredTo from plan need first old → LeavesPool old old (own_chain first) → Progress from from need plan first old first old steps steps 0
started from need plan first old steps scored leaves = record {
  scored = scored;
  same = record { chain = refl; docs = refl; k = refl; room = refl };
  leaves = leaves;
  counted = omega arith;
  paid = omega arith;
}

module _ {from i need : ℕ} {plan : QueryPlan} {first : Scores} {old : PoolView} {now : Scores} {new : PoolView} {before steps postings : ℕ}
    (progress : Progress from i need plan first old now new before steps postings) where
  pub fits_next : (weight : ℕ) (docs : List ℕ) → scores_after (i + 1) plan ≡ added weight docs (scores_after i plan) → All (λ score. score < 2 ^ 32) (scores_after (i + 1) plan)
      → All (λ score. score < 2 ^ 32) (added weight docs (scores_of now new))
  fits_next weight docs next all = subst (λ (l : List ℕ). All (λ score. score < 2 ^ 32) l) (next ∙ ap (added weight docs) (sym progress.scored.sums)) all

  pub room_next : (count names all : ℕ) → size_of_first (i + 1) plan.segments ≡ size_of_first i plan.segments + count → size_of_first (i + 1) plan.segments ≤ all → plan.docs ≡ names → need ≡ min (page_count names) all
      → HasRoomFor (own_view now new) (docs_of now) count
  room_next count names all next most docs needs =
      let pages : page_count (docs_of now) ≡ page_count names = ap page_count (progress.scored.docs ∙ docs) in
      let frames = progress.scored.frames in let promise = progress.scored.promise in
      omega arith

  pub fits_count : (count all : ℕ) → size_of_first (i + 1) plan.segments ≡ size_of_first i plan.segments + count → size_of_first (i + 1) plan.segments ≤ all → all < 2 ^ 32 → postings + count < 2 ^ 32
  fits_count count all next most small = let paid = progress.paid in omega arith

  pub next : (count weight : ℕ) (docs : List ℕ) (later : Scores) (pool : PoolView) (after : ℕ) → scores_after (i + 1) plan ≡ added weight docs (scores_after i plan)
      → size_of_first (i + 1) plan.segments ≡ size_of_first i plan.segments + count
      → scores_of later pool ≡ added weight docs (scores_of now new) → length (own_view later pool).frames ≤ length (own_view now new).frames + count → ScoresStand later pool → AreScoresOf now later
      → LeavesPool new pool (own_chain now) → after ≡ steps + count
      → ((a b c : PoolView) (chain : ℕ) → LeavesPool a b chain → LeavesPool b c chain → LeavesPool a c chain)
      → Progress from (i + 1) need plan first old later pool before after (postings + count)
  next count weight docs later pool after sums size scores frames stand same leaves counted both =
      let was = progress.scored in
      record {
        scored = record {
          stand = stand;
          docs = same.docs ∙ was.docs;
          sums = scores ∙ ap (added weight docs) was.sums ∙ sym sums;
          frames = let low = was.frames in omega arith;
          promise = ap (λ n. (chain_view pool n).promise) same.chain ∙ leaves.promise ∙ was.promise;
        };
        same = record { chain = same.chain ∙ progress.same.chain; docs = same.docs ∙ progress.same.docs; k = same.k ∙ progress.same.k; room = same.room ∙ progress.same.room };
        leaves = both old new pool (own_chain first) progress.leaves (subst (LeavesPool new pool) progress.same.chain leaves);
        counted = let before = progress.counted in omega arith;
        paid = let before = progress.paid in omega arith;
      }

-- settling leaves what is scored
pub after_settle : {n need : ℕ} {plan : QueryPlan} {s later : Scores} {pool after : PoolView} → ScoredTo n plan need s pool → ScoresStand later after → scores_of later after ≡ scores_of s pool
    → length (own_view later after).frames ≡ length (own_view s pool).frames → AreScoresOf s later → LeavesPool pool after (own_chain s) → ScoredTo n plan need later after
after_settle {after = after} was stand scores frames same leaves = record {
  stand = stand;
  docs = same.docs ∙ was.docs;
  sums = scores ∙ was.sums;
  frames = let low = was.frames in omega arith;
  promise = ap (λ c. (chain_view after c).promise) same.chain ∙ leaves.promise ∙ was.promise;
}

-- the prefix that more grants pay for
pub prefix_grown : (n granted more postings further : ℕ) (segments : List PlanSegment) → n ≡ prefix_within granted segments → granted ≤ more → postings ≡ size_of_first n segments → further ≡ prefix_within (more - postings) (drop n segments)
    → ((before budget n : ℕ) (segments : List PlanSegment) → n ≡ prefix_within before segments → before ≤ budget → prefix_within budget segments ≡ n + prefix_within (budget - size_of_first n segments) (drop n segments))
    → n + further ≡ prefix_within more segments
prefix_grown n granted more postings further segments is low paid found resumed =
    ap (λ k. n + k) (found ∙ ap (λ p. prefix_within (more - p) (drop n segments)) paid) ∙ sym (resumed granted more n segments is low)
