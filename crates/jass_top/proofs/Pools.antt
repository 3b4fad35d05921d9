-- A pool after a session was opened, used and closed.
use Rattle.shared_lemmas.proofs.Common.{◌≡◌, ℕ, ◌+◌, List, [], ◌∷◌, Option, Some, None, suc, zero, false, slice_set, refl, sym, subst, arith, IsSome, is_some, slice_index_or, list_all}
use Rattle.jass_top.proofs.Below.{ChainEntry, IsInUse, PoolView, spare_of, LeavesPool, chain_view, IndexData}
use Rattle.jass_top.specs.Private.SearchRuns.{IsReady}

free_again : (xs : List (Option ChainEntry)) (i : ℕ) → IsSome (slice_index_or xs i None) → list_all is_some (slice_set xs i None) ≡ false
free_again [] i used = cc
free_again (x ∷ xs) zero used = refl
free_again (None ∷ xs) (suc i) used = refl
free_again (Some x ∷ xs) (suc i) used = free_again xs i used

pub closed : (index : IndexData) (need : ℕ) (old opened used new : PoolView) (chain first : ℕ) → IsReady index old → spare_of opened + need ≡ spare_of old → LeavesPool opened used first
    → new.chains ≡ slice_set used.chains chain None → spare_of new ≡ spare_of used + (chain_view used chain).promise → IsInUse used chain → (chain_view used chain).promise ≡ need → IsReady index new
closed index need old opened used new chain first ready opens leaves chains spare in_use promise = record {
  number = subst (λ chains. list_all is_some chains ≡ false) (sym chains) (free_again used.chains chain in_use);
  frames = omega (arith, ready.frames, opens, leaves.spare, spare, promise);
}
