-- A slot of a frame is set, and all its scores are lent.
use Rattle.shared_lemmas.proofs.Common.{◌≡◌, ℕ, ◌<◌, List, length, get_or, set, Option, refl, sym, ap, ◌∙◌, subst, arith, map-set}
use Rattle.frame_pool.specs.declared.lease.Lease.{Lease}
use Rattle.frame_pool.specs.Frames.{Frame}
use Rattle.frame_pool.specs.Private.Tables.{frame_at, rescored}
use Rattle.frame_pool.specs.Pool.{PoolView, ChainEntry, FrameContent, content_of, with_frame_scores, with_scores}
use Rattle.frame_pool.specs.ChainView.{IsTaken}
use Rattle.frame_pool.specs.Links.{blank, frame_content, view_of}
use Rattle.frame_pool.specs.Private.Kept.{PoolKept}
use Rattle.frame_pool.proofs.Views.{taken_range, content_is, content_seen, frame_count, content-kept, content-chains}
use Rattle.frame_pool.proofs.ChainViews.{Writes}
use Rattle.frame_pool.proofs.Rows.{length-slots_of}

pub writes : (frames frames' : List Frame) (leases : List (Option Lease)) (free sum : ℕ) (pool : PoolView) → PoolKept frames leases free sum → view_of frames leases ≡ pool
    → (i : ℕ) (new : Frame) → IsTaken pool i → frames' ≡ set frames i new → new.next ≡ (get_or frames i blank).next → new.page ≡ (get_or frames i blank).page
    → Writes pool (view_of frames' leases) i (frame_content new)
writes frames frames' leases free sum pool kept view i new taken is next page =
    let inside : i < length frames = taken_range frames leases free sum pool kept view i taken in
    subst (λ (fs : List Frame). Writes pool (view_of fs leases) i (frame_content new)) (sym is) (record {
      chains = content-chains frames leases i new next ∙ ap (λ (p : PoolView). p.chains) view;
      frames = map-set frame_content frames i new ∙ ap (λ (p : PoolView). set p.frames i (frame_content new)) view;
      exists = omega (arith, frame_count frames leases pool view);
      page = page ∙ sym (ap (λ (c : FrameContent). c.page) (content_seen frames leases pool view i));
    })

pub written-kept : (frames frames' : List Frame) (leases : List (Option Lease)) (free sum : ℕ) → PoolKept frames leases free sum
    → (i : ℕ) (new : Frame) → frames' ≡ set frames i new → new.next ≡ (get_or frames i blank).next → new.page ≡ (get_or frames i blank).page
    → length new.scores ≡ length (get_or frames i blank).scores → length new.places ≡ length (get_or frames i blank).places → PoolKept frames' leases free sum
written-kept frames frames' leases free sum kept i new is next page scores places = subst (λ (fs : List Frame). PoolKept fs leases free sum) (sym is)
    (content-kept frames leases free sum i new kept next page (record { scores = scores ∙ (kept.sized i).scores; places = places ∙ (kept.sized i).places }))

-- ---- the frame has the scores that a list makes

pub lent-kept : (frames : List Frame) (leases : List (Option Lease)) (free sum : ℕ) → PoolKept frames leases free sum → (i : ℕ) (slots : List ℕ)
    → PoolKept (set frames i (rescored (frame_at frames i) slots)) leases free sum
lent-kept frames leases free sum kept i slots =
    content-kept frames leases free sum i (rescored (frame_at frames i) slots) kept refl refl (record { scores = length-slots_of slots; places = (kept.sized i).places })

pub lent-view : (frames : List Frame) (leases : List (Option Lease)) (pool : PoolView) → view_of frames leases ≡ pool → (i : ℕ) (slots : List ℕ)
    → view_of (set frames i (rescored (frame_at frames i) slots)) leases ≡ with_frame_scores pool i slots
lent-view frames leases pool view i slots =
    let new : Frame = rescored (frame_at frames i) slots in
    let was : PoolView = view_of frames leases in
    ap (λ (fs : List FrameContent). seen fs (view_of (set frames i new) leases).chains) (map-set frame_content frames i new)
    ∙ ap (λ (cs : List (Option ChainEntry)). seen (set was.frames i (frame_content new)) cs) (content-chains frames leases i new refl)
    ∙ ap (λ (x : FrameContent). seen (set was.frames i (with_scores x slots)) was.chains) (sym (content_is frames leases i))
    ∙ ap (λ (p : PoolView). with_frame_scores p i slots) view
  where
    seen : List FrameContent → List (Option ChainEntry) → PoolView
    seen frames chains = record { frames = frames; chains = chains }

pub lent-writes : (pool : PoolView) (i : ℕ) (slots : List ℕ) → i < length pool.frames → Writes pool (with_frame_scores pool i slots) i (with_scores (content_of pool i) slots)
lent-writes pool i slots exists = record { chains = refl; frames = refl; exists = exists; page = refl }
