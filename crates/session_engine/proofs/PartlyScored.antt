-- Some documents have their weight, and others are left.
use Rattle.shared_lemmas.proofs.Common.{◌≡◌, ℕ, ◌+◌, ◌<◌, ◌≤◌, ◌^◌, List, [], ◌++◌, length, refl, sym, ap, ◌∙◌, subst, arith, append_assoc, append-nil, All, AllByRecursion, All-from_recursion, recursion_from_All}
use Rattle.std.proofs.Common.{length-append}
use Rattle.session_engine.proofs.Below.{PoolView, LeavesPool, chain_view, page_count, HasRoomFor, added, Scores, AreScoresOf, ScoresStand, docs_of, own_chain, own_view, scores_of}
use Rattle.shared_lemmas.proofs.Lists.{all_back, all_front}

-- all documents but the rest have their weight
pub record AreScoredBut (weight : ℕ) (docs rest : List ℕ) (first : Scores) (old : PoolView) (now : Scores) (new : PoolView) : Type 0 where
  pub done : List ℕ
  pub parts : done ++ rest ≡ docs
  pub stand : ScoresStand now new
  pub sums : scores_of now new ≡ added weight done (scores_of first old)
  pub frames : length (own_view now new).frames ≤ length (own_view first old).frames + length done
  pub same : AreScoresOf first now
  pub leaves : LeavesPool old new (own_chain first)

-- none of them has its weight
pub none_scored : (weight : ℕ) (docs rest : List ℕ) (first : Scores) (old : PoolView) → rest ≡ docs → ScoresStand first old → LeavesPool old old (own_chain first)
    → AreScoredBut weight docs rest first old first old
none_scored weight docs rest first old all stand leaves = record {
  done = [];
  parts = all;
  stand = stand;
  sums = refl;
  frames = omega arith;
  same = record { chain = refl; docs = refl; k = refl; room = refl };
  leaves = leaves;
}

-- a block of them, and what is left behind it
module _ {weight : ℕ} {docs rest : List ℕ} {first : Scores} {old : PoolView} {now : Scores} {new : PoolView}
    (part : AreScoredBut weight docs rest first old now new) (block later : List ℕ) (cut : rest ≡ block ++ later) where
  parted : (part.done ++ block) ++ later ≡ docs
  parted = append_assoc part.done block later ∙ ap (λ (l : List ℕ). part.done ++ l) (sym cut) ∙ part.parts

  pub more_scored : (next : Scores) (pool : PoolView)
      → ScoresStand next pool → scores_of next pool ≡ added weight block (scores_of now new) → length (own_view next pool).frames ≤ length (own_view now new).frames + length block
      → AreScoresOf now next → LeavesPool new pool (own_chain now)
      → ((weight : ℕ) (docs more scores : List ℕ) → added weight (docs ++ more) scores ≡ added weight more (added weight docs scores))
      → ((a b c : PoolView) (chain : ℕ) → LeavesPool a b chain → LeavesPool b c chain → LeavesPool a c chain)
      → AreScoredBut weight docs later first old next pool
  more_scored next pool stand sums frames same leaves parts both = record {
    done = part.done ++ block;
    parts = parted;
    stand = stand;
    sums = sums ∙ ap (added weight block) part.sums ∙ sym (parts weight part.done block (scores_of first old));
    frames = let low = part.frames in let length_of = length-append part.done block in omega arith;
    same = record { chain = same.chain ∙ part.same.chain; docs = same.docs ∙ part.same.docs; k = same.k ∙ part.same.k; room = same.room ∙ part.same.room };
    leaves = both old new pool (own_chain first) part.leaves (subst (LeavesPool new pool) part.same.chain leaves);
  }

  pub block_fits : All (λ score. score < 2 ^ 32) (added weight docs (scores_of first old))
      → ((weight : ℕ) (docs more scores : List ℕ) → added weight (docs ++ more) scores ≡ added weight more (added weight docs scores))
      → ((weight limit : ℕ) (docs more scores : List ℕ) → All (λ score. score < limit) (added weight (docs ++ more) scores) → All (λ score. score < limit) (added weight docs scores))
      → All (λ score. score < 2 ^ 32) (added weight block (scores_of now new))
  block_fits all parts less =
      subst (λ (l : List ℕ). All (λ score. score < 2 ^ 32) l) (parts weight part.done block (scores_of first old) ∙ ap (added weight block) (sym part.sums))
      (less weight (2 ^ 32) (part.done ++ block) later (scores_of first old)
      (subst (λ (l : List ℕ). All (λ score. score < 2 ^ 32) (added weight l (scores_of first old))) (sym parted) all))

  pub block_inside : All (λ doc. doc < docs_of first) docs → All (λ doc. doc < docs_of now) block
  block_inside all =
      let P : ℕ → Type 0 = λ doc. doc < docs_of first in
      subst (λ n. All (λ doc. doc < n) block) (sym part.same.docs)
      (All-from_recursion P block (all_back P part.done block (all_front P (part.done ++ block) later
      (subst (AllByRecursion P) (sym parted) (recursion_from_All P docs all)))))

  pub block_room : (count : ℕ) → count ≡ length docs → HasRoomFor (own_view first old) (docs_of first) count → HasRoomFor (own_view now new) (docs_of now) (length block)
  block_room count counts has =
      let pages : page_count (docs_of now) ≡ page_count (docs_of first) = ap page_count part.same.docs in
      let promise : (own_view now new).promise ≡ (own_view first old).promise = ap (λ n. (chain_view new n).promise) part.same.chain ∙ part.leaves.promise in
      let one = length-append (part.done ++ block) later in
      let two = length-append part.done block in
      let all = ap (λ (l : List ℕ). length l) parted in
      let low = part.frames in
      omega arith

-- all have their weight once none is left
pub all_scored : {weight : ℕ} {docs rest : List ℕ} {first : Scores} {old : PoolView} {now : Scores} {new : PoolView}
    → (part : AreScoredBut weight docs rest first old now new) → rest ≡ [] → part.done ≡ docs
all_scored part none = sym (append-nil part.done) ∙ ap (λ (l : List ℕ). part.done ++ l) (sym none) ∙ part.parts
