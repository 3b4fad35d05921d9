-- What a walk says of the frames in it.
use Rattle.shared_lemmas.proofs.Common.{◌≡◌, ◌≢◌, ℕ, suc, zero, ◌+◌, ◌<◌, List, [], ◌∷◌, length, get_or, Option, Some, None, cond, eqb, slice_get, is_some, true, Contains, refl, sym, ap, ◌∙◌, subst, arith, AllByRecursion, ne_eqb, length-map}
use Rattle.std.proofs.Common.{unwrap_or}
use Rattle.std.proofs.lemmas.Bool.{eq-eqb}
use Rattle.frame_pool.specs.declared.lease.Lease.{Lease}
use Rattle.frame_pool.specs.Frames.{Frame}
use Rattle.frame_pool.specs.Pool.{PoolView, ChainEntry, IsInUse, HasFrame, chain_of, number_after}
use Rattle.shared_lemmas.proofs.Lists.{all_weaker}
use Rattle.frame_pool.specs.ChainView.{chain_view, held_frame}
use Rattle.frame_pool.specs.Links.{walk, link_of, view_of}
use Rattle.frame_pool.specs.Private.Links.{page_of}
use Rattle.frame_pool.specs.Private.Kept.{Ends, Distinct, LeaseKept, PoolKept}
use Rattle.frame_pool.proofs.Walks.{length-walk}
use Rattle.frame_pool.proofs.Leases.{lease_kept}
use Rattle.frame_pool.proofs.Views.{chain_of_is, lease_of}

-- an item of a list in which x isn't
apart_at : (x : ℕ) (xs : List ℕ) (j f : ℕ) → AllByRecursion (λ y. y ≢ x) xs → j < length xs → get_or xs j f ≡ f → x ≢ f
apart_at x [] j f h inside is = absurd (omega arith)
apart_at x (y ∷ ys) zero f h inside is = λ e. h.0 (is ∙ sym e)
apart_at x (y ∷ ys) (suc j) f h inside is = apart_at x ys j f h.1 (omega arith) is

-- the frame behind one of a walk
number-after-walk : (next : ℕ → ℕ) (k a last j f : ℕ) → Ends next k a last → Distinct (walk next k a) → AllByRecursion (λ x. x < 4294967295) (walk next k a)
    → j < length (walk next k a) → get_or (walk next k a) j f ≡ f → number_after (walk next k a) f ≡ cond (eqb (next f) 4294967295) None (Some (next f))
number-after-walk next zero a last j f ends once small inside is = absurd (omega arith)
number-after-walk next (suc zero) a last zero f ends once small inside is = ap (λ b. cond b None None) (eq-eqb a f is)
    ∙ sym (ap (λ b. cond b None (Some (next f))) (eq-eqb (next f) 4294967295 (ap next (sym is) ∙ ends.1)))
number-after-walk next (suc zero) a last (suc j) f ends once small inside is = absurd (omega arith)
number-after-walk next (suc (suc k)) a last zero f ends once small inside is =
    let behind : next a < 4294967295 = small.1.0 in
    ap (λ b. cond b (Some (next a)) (number_after (walk next (suc k) (next a)) f)) (eq-eqb a f is) ∙ ap (λ (x : ℕ). Some (next x)) is
    ∙ sym (ap (λ b. cond b None (Some (next f))) (ne_eqb (next f) 4294967295 (λ h. absurd (omega (arith, h, behind, ap next is)))))
number-after-walk next (suc (suc k)) a last (suc j) f ends once small inside is =
    let shorter : j < length (walk next (suc k) (next a)) = omega arith in
    ap (λ b. cond b (slice_get (walk next (suc k) (next a)) 0) (number_after (walk next (suc k) (next a)) f))
    (ne_eqb a f (apart_at a (walk next (suc k) (next a)) j f once.0 shorter is))
    ∙ number-after-walk next (suc k) (next a) last j f ends once.1 small.1 shorter is

-- a chain with a frame is in use
used : (frames : List Frame) (leases : List (Option Lease)) (pool : PoolView) → view_of frames leases ≡ pool → (c f : ℕ) → HasFrame pool c f → IsInUse pool c
used frames leases pool view c f has = by_entry (get_or pool.chains c None) has
  where
    by_entry : (o : Option ChainEntry) → Contains (unwrap_or o (record { promise = 0; frames = [] })).frames f → is_some o ≡ true
    by_entry None h = absurd (omega (arith, h.1))
    by_entry (Some e) h = refl

pub next-frame : (frames : List Frame) (leases : List (Option Lease)) (free sum : ℕ) (pool : PoolView) → PoolKept frames leases free sum → view_of frames leases ≡ pool
    → (c f : ℕ) → HasFrame pool c f → number_after (chain_of pool c).frames f ≡ cond (eqb (link_of frames f) 4294967295) None (Some (link_of frames f))
next-frame frames leases free sum pool kept view c f has =
    let found : (l : Lease) × (get_or leases c None ≡ Some l) = lease_of frames leases pool view c (used frames leases pool view c f has) in
    let l : Lease = found.0 in
    let next : ℕ → ℕ = link_of frames in
    let here : LeaseKept (length frames) next (page_of frames) kept.lists.owner c l = lease_kept (length frames) next (page_of frames) free leases sum c l kept.lists found.1 in
    let chain : chain_of pool c ≡ record { promise = l.promise; frames = walk next l.taken l.first } = chain_of_is frames leases pool view c l found.1 in
    let has' : Contains (walk next l.taken l.first) f = subst (λ (e : ChainEntry). Contains e.frames f) chain has in
    let small : AllByRecursion (λ x. x < 4294967295) (walk next l.taken l.first) =
    all_weaker (λ x. (x < length frames) × (kept.lists.owner x ≡ c + 1)) (λ x. x < 4294967295) (λ x h. omega (arith, h.0, kept.lists.small)) (walk next l.taken l.first) here.belong.owned in
    ap (λ (e : ChainEntry). number_after e.frames f) chain
    ∙ number-after-walk next l.taken l.first l.last has'.0 f here.ends here.belong.once small has'.1 has'.2

pub taken-count : (frames : List Frame) (leases : List (Option Lease)) (pool : PoolView) → view_of frames leases ≡ pool → (c : ℕ) (l : Lease) → get_or leases c None ≡ Some l
    → l.taken ≡ length (chain_view pool c).frames
taken-count frames leases pool view c l is =
    sym (length-map (chain_of pool c).frames (held_frame pool) ∙ ap (λ (e : ChainEntry). length e.frames) (chain_of_is frames leases pool view c l is) ∙ length-walk (link_of frames) l.taken l.first)

pub first-frame : (frames : List Frame) (leases : List (Option Lease)) (pool : PoolView) → view_of frames leases ≡ pool → (c : ℕ) (l : Lease) → get_or leases c None ≡ Some l
    → slice_get (chain_of pool c).frames 0 ≡ cond (eqb l.taken 0) None (Some l.first)
first-frame frames leases pool view c l is =
    ap (λ (e : ChainEntry). slice_get e.frames 0) (chain_of_is frames leases pool view c l is) ∙ by_count (link_of frames) l.taken l.first
  where
    by_count : (next : ℕ → ℕ) (k a : ℕ) → slice_get (walk next k a) 0 ≡ cond (eqb k 0) None (Some a)
    by_count next zero a = refl
    by_count next (suc k) a = sym (ap (λ b. cond b None (Some a)) (ne_eqb (suc k) 0 (λ h. absurd (omega arith))))
