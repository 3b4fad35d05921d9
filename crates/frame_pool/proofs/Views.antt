-- What a pool's fields say of its view.
use Rattle.shared_lemmas.proofs.Common.{◌≡◌, ◌≢◌, ℕ, suc, zero, ◌+◌, ◌<◌, ◌≤◌, List, [], ◌∷◌, length, map, get_or, set, Option, Some, None, sum_by, IsSome, AllPairs, refl, sym, ap, ◌∙◌, subst, arith, length-set, AllByRecursion, length-map, get_or_read, sum_by-cons, All-from_recursion, All-contains}
use Rattle.shared_lemmas.proofs.Common.{fun_ext}
use Rattle.std.proofs.Common.{unwrap_or, map-id}
use Rattle.frame_pool.specs.declared.lease.Lease.{Lease}
use Rattle.frame_pool.specs.Frames.{Frame}
use Rattle.frame_pool.specs.Pool.{PoolView, ChainEntry, FrameContent, content_of, chain_of, IsInUse, HasFrame, promise_of}
use Rattle.frame_pool.specs.ChainView.{IsTaken}
use Rattle.frame_pool.specs.Sound.{IsSound}
use Rattle.frame_pool.specs.Links.{walk, blank, link_of, frame_content, chain_entry, view_of}
use Rattle.frame_pool.specs.Private.Links.{page_of}
use Rattle.frame_pool.specs.Private.Kept.{Distinct, EachKept, Kept, PoolKept, taken_by, promised_to, IsSized}
use Rattle.shared_lemmas.proofs.Lists.{all_weaker}
use Rattle.frame_pool.proofs.Walks.{length-walk, walk-same, not_in}
use Rattle.frame_pool.proofs.Pages.{of_page, by_page}
use Rattle.frame_pool.proofs.Leases.{in_range, lease_kept, within_promise}

pub at-map : {A B : Type 0} (f : A → B) (xs : List A) (i : ℕ) (d : A) → get_or (map f xs) i (f d) ≡ f (get_or xs i d)
at-map f [] i d = refl
at-map f (x ∷ xs) zero d = refl
at-map f (x ∷ xs) (suc i) d = at-map f xs i d

pub entry_is : (frames : List Frame) (leases : List (Option Lease)) (c : ℕ) → get_or (view_of frames leases).chains c None ≡ chain_entry (link_of frames) (get_or leases c None)
entry_is frames leases c = at-map (chain_entry (link_of frames)) leases c None

pub content_is : (frames : List Frame) (leases : List (Option Lease)) (f : ℕ) → content_of (view_of frames leases) f ≡ frame_content (get_or frames f blank)
content_is frames leases f = at-map frame_content frames f blank

-- the chain of a lease
pub chain_is : (frames : List Frame) (leases : List (Option Lease)) (pool : PoolView) → view_of frames leases ≡ pool → (c : ℕ) (l : Lease) → get_or leases c None ≡ Some l
    → get_or pool.chains c None ≡ Some (record { promise = l.promise; frames = walk (link_of frames) l.taken l.first })
chain_is frames leases pool view c l is =
    ap (λ (p : PoolView). get_or p.chains c None) (sym view) ∙ entry_is frames leases c ∙ ap (chain_entry (link_of frames)) is

pub chain_of_is : (frames : List Frame) (leases : List (Option Lease)) (pool : PoolView) → view_of frames leases ≡ pool → (c : ℕ) (l : Lease) → get_or leases c None ≡ Some l
    → chain_of pool c ≡ record { promise = l.promise; frames = walk (link_of frames) l.taken l.first }
chain_of_is frames leases pool view c l is =
    ap (λ (e : Option ChainEntry). unwrap_or e (record { promise = 0; frames = [] })) (chain_is frames leases pool view c l is)

some_lease : (next : ℕ → ℕ) (o : Option Lease) → IsSome (chain_entry next o) → (l : Lease) × (o ≡ Some l)
some_lease next None h = cc
some_lease next (Some l) h = (l, refl)

-- a chain number in use has a lease
pub lease_of : (frames : List Frame) (leases : List (Option Lease)) (pool : PoolView) → view_of frames leases ≡ pool → (c : ℕ) → IsInUse pool c → (l : Lease) × (get_or leases c None ≡ Some l)
lease_of frames leases pool view c used = some_lease (link_of frames) (get_or leases c None)
    (subst (λ (e : Option ChainEntry). IsSome e) (ap (λ (p : PoolView). get_or p.chains c None) (sym view) ∙ entry_is frames leases c) used)

pub in_use_range : (frames : List Frame) (leases : List (Option Lease)) (pool : PoolView) → view_of frames leases ≡ pool → (c : ℕ) → IsInUse pool c → c < length leases
in_use_range frames leases pool view c used = let l = lease_of frames leases pool view c used in in_range leases c l.0 l.1

-- the lease that was read
pub lease_read : (leases : List (Option Lease)) (i : ℕ) (r : Option Lease) (l : Lease) → i < length leases → r ≡ get_or leases i r → r ≡ Some l → get_or leases i None ≡ Some l
lease_read leases i r l inside read is = sym (get_or_read leases i r inside read None) ∙ is

-- a fact of the frames of a chain, from its lease if it has one
by_lease : (P : List ℕ → Type 0) (next : ℕ → ℕ) (o : Option Lease) → P [] → ((l : Lease) → o ≡ Some l → P (walk next l.taken l.first))
    → P (unwrap_or (chain_entry next o) (record { promise = 0; frames = [] })).frames
by_lease P next None none some = none
by_lease P next (Some l) none some = some l refl

pub of_chain : (P : List ℕ → Type 0) (frames : List Frame) (leases : List (Option Lease)) (c : ℕ) → P []
    → ((l : Lease) → get_or leases c None ≡ Some l → P (walk (link_of frames) l.taken l.first)) → P (chain_of (view_of frames leases) c).frames
of_chain P frames leases c none some =
    subst (λ (e : Option ChainEntry). P (unwrap_or e (record { promise = 0; frames = [] })).frames) (sym (entry_is frames leases c))
    (by_lease P (link_of frames) (get_or leases c None) none some)

-- the frames of a chain are owned by it
pub owned_frames : (frames : List Frame) (leases : List (Option Lease)) (free sum : ℕ) (kept : PoolKept frames leases free sum) (c : ℕ)
    → AllByRecursion (λ f. (f < length frames) × (kept.lists.owner f ≡ c + 1)) (chain_of (view_of frames leases) c).frames
owned_frames frames leases free sum kept c = of_chain (λ fs. AllByRecursion (λ f. (f < length frames) × (kept.lists.owner f ≡ c + 1)) fs) frames leases c tt
    (λ l is. (lease_kept (length frames) (link_of frames) (page_of frames) free leases sum c l kept.lists is).belong.owned)

pub owned_frame : (frames : List Frame) (leases : List (Option Lease)) (free sum : ℕ) (kept : PoolKept frames leases free sum) (c f : ℕ)
    → HasFrame (view_of frames leases) c f → (f < length frames) × (kept.lists.owner f ≡ c + 1)
owned_frame frames leases free sum kept c f has =
    let P : ℕ → Type 0 = λ x. (x < length frames) × (kept.lists.owner x ≡ c + 1) in
    All-contains P (chain_of (view_of frames leases) c).frames f (All-from_recursion P (chain_of (view_of frames leases) c).frames (owned_frames frames leases free sum kept c)) has

pub taken_range : (frames : List Frame) (leases : List (Option Lease)) (free sum : ℕ) (pool : PoolView) → PoolKept frames leases free sum → view_of frames leases ≡ pool
    → (f : ℕ) → IsTaken pool f → f < length frames
taken_range frames leases free sum pool kept view f taken =
    let own : HasFrame pool taken.0 f = (of_page pool taken.0 taken.1 f taken.2).0 in
    let has : HasFrame (view_of frames leases) taken.0 f = subst (λ (p : PoolView). HasFrame p taken.0 f) (sym view) own in
    (owned_frame frames leases free sum kept taken.0 f has).0

-- numbers that differ, by their places
pub distinct_pairs : {X : Type 0} (g : X → ℕ) (xs : List X) → Distinct (map g xs) → AllPairs (λ a b. g a ≢ g b) xs
distinct_pairs g [] h i j d lt inside = absurd (omega arith)
distinct_pairs g (x ∷ xs) h i zero d lt inside = absurd (omega arith)
distinct_pairs g (x ∷ xs) h zero (suc j) d lt inside = λ e. apart_at g x xs j d h.0 (omega arith) (sym e)
  where
    apart_at : {X : Type 0} (g : X → ℕ) (x : X) (xs : List X) (j : ℕ) (d : X) → AllByRecursion (λ y. y ≢ g x) (map g xs) → j < length xs → g (get_or xs j d) ≢ g x
    apart_at g x [] j d h inside = absurd (omega arith)
    apart_at g x (y ∷ ys) zero d h inside = h.0
    apart_at g x (y ∷ ys) (suc j) d h inside = apart_at g x ys j d h.1 (omega arith)
distinct_pairs g (x ∷ xs) h (suc i) (suc j) d lt inside = distinct_pairs g xs h.1 i j d (omega arith) (omega arith)

-- the pages of a chain's frames, as the pool's view has them
pages_seen : (frames : List Frame) (leases : List (Option Lease)) (fs : List ℕ) → map (λ f. (content_of (view_of frames leases) f).page) fs ≡ map (page_of frames) fs
pages_seen frames leases [] = refl
pages_seen frames leases (f ∷ fs) =
    ap (λ (p : ℕ). p ∷ map (λ f. (content_of (view_of frames leases) f).page) fs) (ap (λ (x : FrameContent). x.page) (content_is frames leases f))
    ∙ ap (λ (ps : List ℕ). page_of frames f ∷ ps) (pages_seen frames leases fs)

promise_same : (next : ℕ → ℕ) (o : Option Lease) → promise_of (chain_entry next o) ≡ promised_to o
promise_same next None = refl
promise_same next (Some l) = refl

pub promised_view : (next : ℕ → ℕ) (leases : List (Option Lease)) → sum_by promise_of (map (chain_entry next) leases) ≡ sum_by promised_to leases
promised_view next [] = refl
promised_view next (x ∷ xs) =
    omega (arith, sum_by-cons promise_of (chain_entry next x) (map (chain_entry next) xs), sum_by-cons promised_to x xs, promise_same next x, promised_view next xs)

within_entry : (next : ℕ → ℕ) (o : Option Lease) → taken_by o ≤ promised_to o
    → length (unwrap_or (chain_entry next o) (record { promise = 0; frames = [] })).frames ≤ (unwrap_or (chain_entry next o) (record { promise = 0; frames = [] })).promise
within_entry next None h = omega arith
within_entry next (Some l) h = omega (arith, length-walk next l.taken l.first)

pages_apart : (frames : List Frame) (leases : List (Option Lease)) (free sum : ℕ) → PoolKept frames leases free sum
    → (c : ℕ) → AllPairs (λ a b. (content_of (view_of frames leases) a).page ≢ (content_of (view_of frames leases) b).page) (chain_of (view_of frames leases) c).frames
pages_apart frames leases free sum kept c = distinct_pairs (λ f. (content_of (view_of frames leases) f).page) (chain_of (view_of frames leases) c).frames
    (subst (λ (ps : List ℕ). Distinct ps) (sym (pages_seen frames leases (chain_of (view_of frames leases) c).frames))
    (of_chain (λ fs. Distinct (map (page_of frames) fs)) frames leases c tt (λ l is. (lease_kept (length frames) (link_of frames) (page_of frames) free leases sum c l kept.lists is).pages)))

pub sound_view : (frames : List Frame) (leases : List (Option Lease)) (free sum : ℕ) → PoolKept frames leases free sum → IsSound (view_of frames leases)
sound_view frames leases free sum kept = record {
  exists = λ c f has. subst (λ n. f < n) (sym (length-map frames frame_content)) (owned_frame frames leases free sum kept c f has).0;
  one_chain = λ c d f has also. omega (arith, (owned_frame frames leases free sum kept c f has).1, (owned_frame frames leases free sum kept d f also).1);
  once = λ c. distinct_pairs (λ x. x) (chain_of (view_of frames leases) c).frames
      (subst (λ (xs : List ℕ). Distinct xs) (sym (map-id (chain_of (view_of frames leases) c).frames))
      (of_chain Distinct frames leases c tt (λ l is. (lease_kept (length frames) (link_of frames) (page_of frames) free leases sum c l kept.lists is).belong.once)));
  within_promise = λ c. subst (λ (e : Option ChainEntry). length (unwrap_or e (record { promise = 0; frames = [] })).frames ≤ (unwrap_or e (record { promise = 0; frames = [] })).promise)
      (sym (entry_is frames leases c))
      (within_entry (link_of frames) (get_or leases c None) (within_promise (length frames) (link_of frames) (page_of frames) kept.lists.owner c (get_or leases c None) (kept.lists.each c)));
  promises_fit = omega (arith, promised_view (link_of frames) leases, kept.lists.promised_is, kept.lists.fits, length-map frames frame_content);
  pages_differ = pages_apart frames leases free sum kept;
  found = λ c f has. by_page (view_of frames leases) c (pages_apart frames leases free sum kept c) f has;
  score_slots = λ f. ap (λ (x : FrameContent). length x.scores) (content_is frames leases f) ∙ (kept.sized f).scores;
  place_slots = λ f. ap (λ (x : FrameContent). length x.places) (content_is frames leases f) ∙ (kept.sized f).places;
}

pub sound_pool : (frames : List Frame) (leases : List (Option Lease)) (free sum : ℕ) (pool : PoolView) → PoolKept frames leases free sum → view_of frames leases ≡ pool → IsSound pool
sound_pool frames leases free sum pool kept view = subst IsSound view (sound_view frames leases free sum kept)

-- a lease written, with links that agree on the other chains
pub entries-set : (next next' : ℕ → ℕ) (leases : List (Option Lease)) (c : ℕ) (new : Option Lease) (entry : Option ChainEntry) → chain_entry next' new ≡ entry
    → ((d : ℕ) → d ≢ c → chain_entry next' (get_or leases d None) ≡ chain_entry next (get_or leases d None))
    → map (chain_entry next') (set leases c new) ≡ set (map (chain_entry next) leases) c entry
entries-set next next' [] c new entry is others = refl
entries-set next next' (x ∷ xs) zero new entry is others = ap (λ (e : Option ChainEntry). e ∷ map (chain_entry next') xs) is
    ∙ ap (λ (es : List (Option ChainEntry)). entry ∷ es) (entries-same next next' xs (λ d. others (suc d) (λ h. absurd (omega (arith, h)))))
  where
    entries-same : (next next' : ℕ → ℕ) (leases : List (Option Lease)) → ((d : ℕ) → chain_entry next' (get_or leases d None) ≡ chain_entry next (get_or leases d None))
        → map (chain_entry next') leases ≡ map (chain_entry next) leases
    entries-same next next' [] same = refl
    entries-same next next' (x ∷ xs) same = ap (λ (e : Option ChainEntry). e ∷ map (chain_entry next') xs) (same 0)
        ∙ ap (λ (es : List (Option ChainEntry)). chain_entry next x ∷ es) (entries-same next next' xs (λ d. same (suc d)))
entries-set next next' (x ∷ xs) (suc c) new entry is others =
    ap (λ (e : Option ChainEntry). e ∷ map (chain_entry next') (set xs c new)) (others 0 (λ h. absurd (omega (arith, h))))
    ∙ ap (λ (es : List (Option ChainEntry)). chain_entry next x ∷ es) (entries-set next next' xs c new entry is (λ d ne. others (suc d) (λ h. ne (omega (arith, h)))))

-- a lease under links that agree on its frames
pub entry-agrees : (n : ℕ) (next next' page owner : ℕ → ℕ) (d f : ℕ) (o : Option Lease) → EachKept n next page owner d o → owner f ≢ d + 1
    → ((x : ℕ) → x ≢ f → next' x ≡ next x) → chain_entry next' o ≡ chain_entry next o
entry-agrees n next next' page owner d f None kept ne same = refl
entry-agrees n next next' page owner d f (Some l) kept ne same = ap (λ (xs : List ℕ). Some (record { promise = l.promise; frames = xs }))
    (walk-same next next' l.taken l.first
    (all_weaker (λ x. x ≢ f) (λ x. next' x ≡ next x) same (walk next l.taken l.first) (not_in n owner (d + 1) (walk next l.taken l.first) f kept.belong.owned ne)))

-- a field of the frames after a write
pub field-set : (g : Frame → ℕ) (frames : List Frame) (i : ℕ) (new : Frame) → g new ≡ g (get_or frames i blank) → (x : ℕ) → g (get_or (set frames i new) x blank) ≡ g (get_or frames x blank)
field-set g [] i new is x = refl
field-set g (y ∷ ys) zero new is zero = is
field-set g (y ∷ ys) zero new is (suc x) = refl
field-set g (y ∷ ys) (suc i) new is zero = refl
field-set g (y ∷ ys) (suc i) new is (suc x) = field-set g ys i new is x

-- each frame after a write
pub sized-set : (frames : List Frame) (i : ℕ) (new : Frame) → IsSized new → ((f : ℕ) → IsSized (get_or frames f blank)) → (f : ℕ) → IsSized (get_or (set frames i new) f blank)
sized-set [] i new sized all f = all f
sized-set (y ∷ ys) zero new sized all zero = sized
sized-set (y ∷ ys) zero new sized all (suc f) = all (suc f)
sized-set (y ∷ ys) (suc i) new sized all zero = all 0
sized-set (y ∷ ys) (suc i) new sized all (suc f) = sized-set ys i new sized (λ g. all (suc g)) f

-- the same links and pages keep the same lists
pub content-kept : (frames : List Frame) (leases : List (Option Lease)) (free sum i : ℕ) (new : Frame) → PoolKept frames leases free sum
    → new.next ≡ (get_or frames i blank).next → new.page ≡ (get_or frames i blank).page → IsSized new → PoolKept (set frames i new) leases free sum
content-kept frames leases free sum i new kept next_is page_is sized =
    let links : link_of (set frames i new) ≡ link_of frames = fun_ext (field-set (λ f. f.next) frames i new next_is) in
    let pages : page_of (set frames i new) ≡ page_of frames = fun_ext (field-set (λ f. f.page) frames i new page_is) in
    record {
      lists = subst (λ (n : ℕ). Kept n (link_of (set frames i new)) (page_of (set frames i new)) free leases sum) (sym (length-set frames i new))
          (subst (λ (next : ℕ → ℕ). Kept (length frames) next (page_of (set frames i new)) free leases sum) (sym links)
          (subst (λ (page : ℕ → ℕ). Kept (length frames) (link_of frames) page free leases sum) (sym pages) kept.lists));
      sized = sized-set frames i new sized kept.sized;
    }

pub content-chains : (frames : List Frame) (leases : List (Option Lease)) (i : ℕ) (new : Frame) → new.next ≡ (get_or frames i blank).next
    → (view_of (set frames i new) leases).chains ≡ (view_of frames leases).chains
content-chains frames leases i new next_is = ap (λ (next : ℕ → ℕ). map (chain_entry next) leases) (fun_ext (field-set (λ f. f.next) frames i new next_is))

-- ---- frames that were read

pub frame_count : (frames : List Frame) (leases : List (Option Lease)) (pool : PoolView) → view_of frames leases ≡ pool → length pool.frames ≡ length frames
frame_count frames leases pool view = ap (λ (p : PoolView). length p.frames) (sym view) ∙ length-map frames frame_content

pub lease_count : (frames : List Frame) (leases : List (Option Lease)) (pool : PoolView) → view_of frames leases ≡ pool → length pool.chains ≡ length leases
lease_count frames leases pool view = ap (λ (p : PoolView). length p.chains) (sym view) ∙ length-map leases (chain_entry (link_of frames))

pub content_seen : (frames : List Frame) (leases : List (Option Lease)) (pool : PoolView) → view_of frames leases ≡ pool → (i : ℕ) → content_of pool i ≡ frame_content (get_or frames i blank)
content_seen frames leases pool view i = ap (λ (p : PoolView). content_of p i) (sym view) ∙ content_is frames leases i
