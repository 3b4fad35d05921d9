-- A new pool.
use Rattle.shared_lemmas.proofs.Common.{◌≡◌, ◌≢◌, ℕ, suc, zero, ◌+◌, ◌-◌, ◌*◌, ◌<◌, ◌≤◌, List, [], ◌∷◌, length, map, get_or, replicate, Option, None, sum_by, refl, sym, ap, ◌∙◌, subst, arith, AllByRecursion, range_with_len, length-map, length-replicate, sum_by-replicate, length-map-range_with_len}
use Rattle.shared_lemmas.proofs.Common.{get_or-map-range_with_len}
use Rattle.shared_lemmas.proofs.Lists.{all_weaker}
use Rattle.frame_pool.specs.declared.lease.Lease.{Lease}
use Rattle.frame_pool.specs.Frames.{Frame}
use Rattle.frame_pool.specs.Pool.{ChainEntry, IsUnused}
use Rattle.frame_pool.specs.Links.{walk, blank, link_of, frame_content, chain_entry, view_of, free_frame}
use Rattle.frame_pool.specs.Private.Links.{page_of}
use Rattle.frame_pool.specs.Private.Kept.{Distinct, EachKept, PoolKept, IsSized, taken_by, promised_to}
use Rattle.shared_lemmas.proofs.Places.{same_there}

abbrev new_frames : ℕ → List Frame
new_frames n = map free_frame (range_with_len 1 n)

-- links that count up
rising : (next : ℕ → ℕ) (k a n : ℕ) → a + k ≤ n → ((x : ℕ) → x < n → next x ≡ x + 1)
    → AllByRecursion (λ x. (a ≤ x) × (x < n)) (walk next k a) × Distinct (walk next k a)
rising next zero a n fits up = (tt, tt)
rising next (suc k) a n fits up =
    let rest = rising next k (a + 1) n (omega arith) up in
    let is : next a ≡ a + 1 = up a (omega arith) in
    subst (λ (b : ℕ). AllByRecursion (λ x. (a ≤ x) × (x < n)) (a ∷ walk next k b) × Distinct (a ∷ walk next k b)) (sym is) (
      ((omega arith, omega arith), all_weaker (λ x. (a + 1 ≤ x) × (x < n)) (λ x. (a ≤ x) × (x < n)) (λ x h. (omega (arith, h.0), h.1)) (walk next k (a + 1)) rest.0),
      (all_weaker (λ x. (a + 1 ≤ x) × (x < n)) (λ x. x ≢ a) (λ x h e. absurd (omega (arith, h.0, e))) (walk next k (a + 1)) rest.0, rest.1),
    )

sized-map : (xs : List ℕ) (f : ℕ) → IsSized (get_or (map free_frame xs) f blank)
sized-map [] f = record { scores = length-replicate {A = ℕ} 256 0; places = length-replicate {A = ℕ} 256 0 }
sized-map (x ∷ xs) zero = record { scores = length-replicate {A = ℕ} 256 0; places = length-replicate {A = ℕ} 256 0 }
sized-map (x ∷ xs) (suc f) = sized-map xs f

no-entries : (next : ℕ → ℕ) (m : ℕ) → map (chain_entry next) (replicate m None) ≡ replicate m None
no-entries next zero = refl
no-entries next (suc m) = ap (λ (es : List (Option ChainEntry)). None ∷ es) (no-entries next m)

new-kept : (n m : ℕ) → n ≤ 1048576 → m ≤ 1024 → PoolKept (new_frames n) (replicate m None) 0 0
new-kept n m small few =
    let size : length (new_frames n) ≡ n = length-map-range_with_len free_frame 1 n in
    let taken : sum_by taken_by (replicate m None) ≡ m * 0 = sum_by-replicate taken_by m None in
    let promises : sum_by promised_to (replicate m None) ≡ m * 0 = sum_by-replicate promised_to m None in
    let up : (x : ℕ) → x < length (new_frames n) → link_of (new_frames n) x ≡ x + 1 =
    λ x inside. ap (λ (f : Frame). f.next) (get_or-map-range_with_len free_frame 1 n x (x + 1) blank (omega arith) (omega arith)) in
    let list = rising (link_of (new_frames n)) (length (new_frames n) - sum_by taken_by (replicate m None)) 0 (length (new_frames n)) (omega arith) up in
    record {
      lists = record {
        owner = λ _. 0;
        free_frames = record {
          owned = all_weaker (λ x. (0 ≤ x) × (x < length (new_frames n))) (λ x. (x < length (new_frames n)) × (0 ≡ 0)) (λ x h. (h.1, refl))
              (walk (link_of (new_frames n)) (length (new_frames n) - sum_by taken_by (replicate m None)) 0) list.0;
          once = list.1;
        };
        each = λ c. subst (λ (o : Option Lease). EachKept (length (new_frames n)) (link_of (new_frames n)) (page_of (new_frames n)) (λ _. 0) c o) (sym (same_there None m c)) tt;
        promised_is = omega arith;
        fits = omega arith;
        small = omega arith;
        few = omega (arith, length-replicate {A = Option Lease} m None);
      };
      sized = sized-map (range_with_len 1 n);
    }

pub new-pool : (n m : ℕ) (frames : List Frame) (leases : List (Option Lease)) → n ≤ 1048576 → m ≤ 1024 → frames ≡ map free_frame (range_with_len 1 n) → leases ≡ replicate m None
    → PoolKept frames leases 0 0
new-pool n m frames leases small few frames_is leases_is = subst (λ (fs : List Frame). PoolKept fs leases 0 0) (sym frames_is)
    (subst (λ (ls : List (Option Lease)). PoolKept (map free_frame (range_with_len 1 n)) ls 0 0) (sym leases_is) (new-kept n m small few))

pub new-unused : (n m : ℕ) (frames : List Frame) (leases : List (Option Lease)) → frames ≡ map free_frame (range_with_len 1 n) → leases ≡ replicate m None → IsUnused (view_of frames leases) n m
new-unused n m frames leases frames_is leases_is = record {
  frames = length-map frames frame_content ∙ ap (λ (fs : List Frame). length fs) frames_is ∙ length-map-range_with_len free_frame 1 n;
  chains = ap (λ (ls : List (Option Lease)). map (chain_entry (link_of frames)) ls) leases_is ∙ no-entries (link_of frames) m;
}
