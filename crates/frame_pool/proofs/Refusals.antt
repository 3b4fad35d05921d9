-- When a promise is refused, by the leases.
use Rattle.shared_lemmas.proofs.Common.{◌≡◌, ℕ, ◌-◌, ◌<◌, ◌≤◌, true, false, cond, List, [], ◌∷◌, length, map, get_or, Option, Some, None, is_some, is_none, position, nat_lt, refl, sym, ap, ◌∙◌, inl, inr, ◌&&◌, arith, list_all, position_or_len, fails_before_first, list_all-from_AllPass}
use Rattle.shared_lemmas.proofs.Common.{AllPass-from_list_all, position-Some, lt-ltb, le-ltb, cases_Bool, nat_tests}
use Rattle.frame_pool.specs.declared.lease.Lease.{Lease}
use Rattle.frame_pool.specs.Frames.{Frame}
use Rattle.frame_pool.specs.declared.refusal.PoolRefusal.TheVariants.{Chains, Short}
use Rattle.frame_pool.specs.Pool.{PoolView, promised, spare_of, all_in_use, promise_refusal}
use Rattle.frame_pool.specs.Links.{chain_entry, link_of, view_of}
use Rattle.frame_pool.specs.Private.Kept.{PoolKept}
use Rattle.frame_pool.proofs.Views.{promised_view, frame_count}

entry_some : (next : ℕ → ℕ) (o : Option Lease) → is_some (chain_entry next o) ≡ is_some o
entry_some next None = refl
entry_some next (Some l) = refl

all-entries : (next : ℕ → ℕ) (leases : List (Option Lease)) → list_all is_some (map (chain_entry next) leases) ≡ list_all is_some leases
all-entries next [] = refl
all-entries next (x ∷ xs) = ap (λ b. b && list_all is_some (map (chain_entry next) xs)) (entry_some next x) ∙ ap (λ b. is_some x && b) (all-entries next xs)

pub all_in_use_is : (frames : List Frame) (leases : List (Option Lease)) (pool : PoolView) → view_of frames leases ≡ pool → all_in_use pool ≡ list_all is_some leases
all_in_use_is frames leases pool view = ap all_in_use (sym view) ∙ all-entries (link_of frames) leases

pub none_unused : (leases : List (Option Lease)) → position is_none leases ≡ None → list_all is_some leases ≡ true
none_unused leases none = elim (cases_Bool (nat_lt (position_or_len is_none leases) (length leases))) as (λ _. list_all is_some leases ≡ true) [
  | inl found ↦ absurd (some_none (position_or_len is_none leases) (sym (ap (λ b. cond b (Some (position_or_len is_none leases)) None) found) ∙ none))
  | inr past ↦ list_all-from_AllPass is_some leases (λ k d inside. some_there (get_or leases k d) (fails_before_first is_none leases k d (grind (arith, nat_tests))))
]
  where
    some_none : (k : ℕ) → Some k ≡ None → ⊥
    some_none k h = cc

    some_there : (o : Option Lease) → is_none o ≡ false → is_some o ≡ true
    some_there None h = cc
    some_there (Some l) h = refl

pub some_unused : (leases : List (Option Lease)) (i : ℕ) → position is_none leases ≡ Some i → (i < length leases) × (get_or leases i None ≡ None) × (list_all is_some leases ≡ false)
some_unused leases i found =
    let at = position-Some is_none leases i None found in
    let none : get_or leases i None ≡ None = none_there (get_or leases i None) at.1 in (
      at.0,
      none,
      elim (cases_Bool (list_all is_some leases)) as (λ _. list_all is_some leases ≡ false) [
        | inl all ↦ absurd (both (get_or leases i None) none (AllPass-from_list_all is_some leases all i None at.0))
        | inr some ↦ some
      ],
    )
  where
    none_there : (o : Option Lease) → is_none o ≡ true → o ≡ None
    none_there None h = refl
    none_there (Some l) h = cc

    both : (o : Option Lease) → o ≡ None → is_some o ≡ true → ⊥
    both None h k = cc
    both (Some l) h k = cc

pub spare_is : (frames : List Frame) (leases : List (Option Lease)) (free sum : ℕ) (pool : PoolView) → PoolKept frames leases free sum → view_of frames leases ≡ pool → spare_of pool ≡ length frames - sum
spare_is frames leases free sum pool kept view =
    let promises : promised pool ≡ sum = ap promised (sym view) ∙ promised_view (link_of frames) leases ∙ sym kept.lists.promised_is in
    ap (λ (n : ℕ). n - promised pool) (frame_count frames leases pool view) ∙ ap (λ (s : ℕ). length frames - s) promises

pub refused_chains : (pool : PoolView) (n k : ℕ) → all_in_use pool ≡ true → k ≡ length pool.chains → Some (Chains k) ≡ promise_refusal pool n
refused_chains pool n k all is = ap (λ (j : ℕ). Some (Chains j)) is
    ∙ sym (ap (λ b. cond b (Some (Chains (length pool.chains))) (cond (nat_lt (spare_of pool) n) (Some (Short n (spare_of pool))) None)) all)

pub refused_short : (pool : PoolView) (n s : ℕ) → all_in_use pool ≡ false → s ≡ spare_of pool → s < n → Some (Short n s) ≡ promise_refusal pool n
refused_short pool n s some is less =
    let test : nat_lt (spare_of pool) n ≡ true = lt-ltb (spare_of pool) n (omega arith) in
    ap (λ (j : ℕ). Some (Short n j)) is
    ∙ sym (ap (λ b. cond b (Some (Chains (length pool.chains))) (cond (nat_lt (spare_of pool) n) (Some (Short n (spare_of pool))) None)) some
    ∙ ap (λ b. cond b (Some (Short n (spare_of pool))) None) test)

pub not_refused : (pool : PoolView) (n : ℕ) → all_in_use pool ≡ false → n ≤ spare_of pool → None ≡ promise_refusal pool n
not_refused pool n some room =
    let test : nat_lt (spare_of pool) n ≡ false = le-ltb (spare_of pool) n room in
    sym (ap (λ b. cond b (Some (Chains (length pool.chains))) (cond (nat_lt (spare_of pool) n) (Some (Short n (spare_of pool))) None)) some
    ∙ ap (λ b. cond b (Some (Short n (spare_of pool))) None) test)
