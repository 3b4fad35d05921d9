-- What calls on other chains leave of sessions.
use Rattle.shared_lemmas.proofs.Common.{◌≡◌, ◌≢◌, ◌≤◌, ℕ, List, [], ◌∷◌, length, sym, subst, ◌∙◌, ap, AllByRecursion}
use Rattle.session_engine.proofs.Below.{PoolView, ChainView, LeavesOthers, IndexData, size_of_first, Scores}
use Rattle.session_scores.specs.Scores as scores
use Rattle.session_engine.specs.Standing.{SessionStands, chain_of, plan_over}
use Rattle.session_engine.specs.declared.session.Session.{Session}

module _
    (stands : (s : Scores) (old new : PoolView) (chain : ℕ) → LeavesOthers old new chain → scores.own_chain s ≢ chain → scores.ScoresStand s old → scores.ScoresStand s new)
    (settled : (s : Scores) (old new : PoolView) (chain : ℕ) → LeavesOthers old new chain → scores.own_chain s ≢ chain → scores.IsSettled s old → scores.IsSettled s new)
    (view : (s : Scores) (old new : PoolView) (chain : ℕ) → LeavesOthers old new chain → scores.own_chain s ≢ chain → scores.own_view s new ≡ scores.own_view s old)
    (same : (s : Scores) (old new : PoolView) (chain : ℕ) → LeavesOthers old new chain → scores.own_chain s ≢ chain → scores.scores_of s new ≡ scores.scores_of s old)
  where
    pub stays : (s : Session) (index : IndexData) (old new : PoolView) (chain : ℕ) → LeavesOthers old new chain → chain_of s ≢ chain → SessionStands s index old → SessionStands s index new
    stays s index old new chain leaves other is = record {
      planned = is.planned;
      prefix = is.prefix;
      scored = record {
        stand = stands s.scores old new chain leaves other is.scored.stand;
        docs = is.scored.docs;
        sums = same s.scores old new chain leaves other ∙ is.scored.sums;
        frames = subst (λ (v : ChainView). length v.frames ≤ size_of_first s.scored (plan_over index s).segments) (sym (view s.scores old new chain leaves other)) is.scored.frames;
        promise = ap (λ (v : ChainView). v.promise) (view s.scores old new chain leaves other) ∙ is.scored.promise;
      };
      settled = settled s.scores old new chain leaves other is.settled;
      asked = is.asked;
      report = is.report;
    }

    pub all_stay : (sessions : List Session) (index : IndexData) (old new : PoolView) (chain : ℕ) → LeavesOthers old new chain → AllByRecursion (λ (s : Session). chain_of s ≢ chain) sessions
        → AllByRecursion (λ (s : Session). SessionStands s index old) sessions → AllByRecursion (λ (s : Session). SessionStands s index new) sessions
    all_stay [] index old new chain leaves others stand = tt
    all_stay (s ∷ ss) index old new chain leaves others stand = (stays s index old new chain leaves others.0 stand.0, all_stay ss index old new chain leaves others.1 stand.1)
