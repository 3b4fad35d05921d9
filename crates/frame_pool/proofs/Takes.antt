-- A frame is taken, a promise is made, a chain is given back: what the pool's fields keep, and what its view shows.
use Rattle.shared_lemmas.proofs.Common.{◌≡◌, ◌≢◌, ℕ, suc, zero, ◌+◌, ◌-◌, ◌<◌, ◌≤◌, ◌==◌, Bool, List, [], ◌∷◌, length, map, get_or, set, replicate, Option, Some, None, sum_by, cond, IsSome, is_some, refl, sym, ap, ◌∙◌, subst, inl, inr, arith, length-set, get_or-set_same, get_or-set_other}
use Rattle.shared_lemmas.proofs.Common.{AllByRecursion, length-map, map-set, length-replicate, sum_by-set, eqb_tells, fun_ext}
use Rattle.std.proofs.Common.{unwrap_or, option_map, find}
use Rattle.std.proofs.lemmas.Bool.{eq-eqb}
use Rattle.frame_pool.specs.declared.lease.Lease.{Lease}
use Rattle.frame_pool.specs.Frames.{Frame}
use Rattle.frame_pool.specs.Pool.{PoolView, ChainEntry, FrameContent, cleared, content_of, chain_of, IsInUse, HasFrame, IsFree, promise_of, promised, spare_of, with_first, Promises}
use Rattle.frame_pool.specs.Sound.{IsSound}
use Rattle.frame_pool.specs.ChainView.{HasPage, number_with_page, frame_with_page, ChainView, HeldFrame, chain_view, held_frame, LacksPage, with_first_held, view_values, LeavesOthers, LeavesPool}
use Rattle.frame_pool.specs.Links.{walk, blank, link_of, frame_content, chain_entry, view_of}
use Rattle.frame_pool.specs.Private.Links.{page_of}
use Rattle.frame_pool.specs.Private.Leases.{grown, relinked, relinked_first}
use Rattle.frame_pool.specs.Private.Kept.{Ends, Belong, LeaseKept, Kept, PoolKept, taken_by}
use Rattle.frame_pool.proofs.Walks.{length-walk, at_end}
use Rattle.frame_pool.proofs.Leases.{in_range, lease_kept, some_free, free_at}
use Rattle.frame_pool.proofs.Changes.{took-kept, promised-kept, released-kept, released_none-kept, grown-walk}
use Rattle.frame_pool.proofs.Pages.{held_by, none_found}
use Rattle.frame_pool.proofs.Views.{entry_is, content_is, chain_of_is, owned_frame, entries-set, entry-agrees, field-set, sized-set, frame_count, lease_count, lease_read, in_use_range}
use Rattle.frame_pool.proofs.ChainViews.{keeps-chain, leaves-others, took-view, took-values}

-- ---- sums of promises

promise_at : (o : Option ChainEntry) → promise_of o ≡ (unwrap_or o (record { promise = 0; frames = [] })).promise
promise_at None = refl
promise_at (Some e) = refl

-- the promises after one of them is written
promised-set : (old new : PoolView) (c : ℕ) (entry : Option ChainEntry) → new.chains ≡ set old.chains c entry → c < length old.chains
    → promised new + (chain_of old c).promise ≡ promised old + promise_of entry
promised-set old new c entry chains inside =
    subst (λ (es : List (Option ChainEntry)). sum_by promise_of es + (chain_of old c).promise ≡ promised old + promise_of entry) (sym chains)
    (subst (λ (p : ℕ). sum_by promise_of (set old.chains c entry) + p ≡ promised old + promise_of entry) (promise_at (get_or old.chains c None))
    (sum_by-set promise_of old.chains c entry None inside))

-- ---- a frame is taken

-- what a call that takes frame f for a page of chain c does
pub record Takes (old new : PoolView) (c f page : ℕ) : Type 0 where
  pub free : IsFree old f
  pub frames : new.frames ≡ set old.frames f (cleared page)
  pub chains : new.chains ≡ set old.chains c (Some (with_first (chain_of old c) f))
  pub inside : c < length old.chains

pub takes-spare : (old new : PoolView) (c f page : ℕ) → Takes old new c f page → spare_of new ≡ spare_of old
takes-spare old new c f page t =
    omega (arith, promised-set old new c (Some (with_first (chain_of old c) f)) t.chains t.inside, ap (λ (fs : List FrameContent). length fs) t.frames, length-set old.frames f (cleared page))

pub takes-in_use : (old new : PoolView) (c f page : ℕ) → Takes old new c f page → IsInUse new c
takes-in_use old new c f page t = subst (λ (es : List (Option ChainEntry)). IsSome (get_or es c None)) (sym t.chains)
    (subst (λ (e : Option ChainEntry). IsSome e) (sym (get_or-set_same old.chains c (Some (with_first (chain_of old c) f)) None t.inside)) refl)

-- a page that isn't found is that of no frame
lacks-all : (content : ℕ → FrameContent) (page' : ℕ → ℕ) (p : ℕ) (fs : List ℕ) → ((g : ℕ) → (content g).page ≡ page' g)
    → find (λ h. h.content.page == p) (map (held_by content) fs) ≡ None → AllByRecursion (λ g. page' g ≢ p) fs
lacks-all content page' p [] same none = tt
lacks-all content page' p (g ∷ fs) same none =
    let rest : Option HeldFrame = find (λ h. h.content.page == p) (map (held_by content) fs) in
    elim (eqb_tells (content g).page p) as (λ _. AllByRecursion (λ g. page' g ≢ p) (g ∷ fs)) [
      | inl here ↦
          let found : Some (held_by content g) ≡ None = sym (ap (λ b. cond b (Some (held_by content g)) rest) here.0) ∙ none in
          cc
      | inr other ↦ ((λ e. other.1 (same g ∙ e)), lacks-all content page' p fs same (sym (ap (λ b. cond b (Some (held_by content g)) rest) other.0) ∙ none))
    ]

-- the fields after frame `free` was taken for chain c
pub took-pool : (frames : List Frame) (leases : List (Option Lease)) (free sum : ℕ) (pool : PoolView) → PoolKept frames leases free sum → view_of frames leases ≡ pool
    → (c page : ℕ) (l l' : Lease) (after : ℕ) (frames' : List Frame) → get_or leases c None ≡ Some l → length (chain_view pool c).frames < (chain_view pool c).promise → LacksPage (chain_view pool c) page
    → after ≡ (get_or frames free blank).next → frames' ≡ set frames free (record { scores = replicate 256 0; places = replicate 256 0; page = page; next = l.first }) → l' ≡ grown l free
    → PoolKept frames' (set leases c (Some l')) after sum × Takes pool (view_of frames' (set leases c (Some l'))) c free page × (free < length frames)
took-pool frames leases free sum pool kept view c page l l' after frames' is room lacks after_is frames_are grown_is =
    let n : ℕ = length frames in
    let next : ℕ → ℕ = link_of frames in
    let owner : ℕ → ℕ = kept.lists.owner in
    let chain : chain_of pool c ≡ record { promise = l.promise; frames = walk next l.taken l.first } = chain_of_is frames leases pool view c l is in
    let room' : l.taken < l.promise =
    omega (arith, room, length-map (chain_of pool c).frames (held_frame pool), ap (λ (e : ChainEntry). length e.frames) chain, ap (λ (e : ChainEntry). e.promise) chain, length-walk next l.taken l.first) in
    let here : LeaseKept n next (page_of frames) owner c l = lease_kept n next (page_of frames) free leases sum c l kept.lists is in
    let some : sum_by taken_by leases < n = some_free n next (page_of frames) free leases sum c l kept.lists is room' in
    let m : ℕ = n - sum_by taken_by leases - 1 in
    let front : Belong n owner 0 (free ∷ walk next m (next free)) = free_at n next (page_of frames) free m leases sum kept.lists (omega arith) in
    let exists : free < n = front.owned.0.0 in
    let none : owner free ≡ 0 = front.owned.0.1 in
    let inside : c < length leases = in_range leases c l is in
    let written : Frame = record { scores = replicate 256 0; places = replicate 256 0; page = page; next = l.first } in
    let same_link : (x : ℕ) → x ≢ free → link_of (set frames free written) x ≡ next x = λ x ne. ap (λ (f : Frame). f.next) (get_or-set_other frames free x written blank ne) in
    let link : link_of (set frames free written) free ≡ l.first = ap (λ (f : Frame). f.next) (get_or-set_same frames free written blank exists) in
    let same_page : (x : ℕ) → x ≢ free → page_of (set frames free written) x ≡ page_of frames x = λ x ne. ap (λ (f : Frame). f.page) (get_or-set_other frames free x written blank ne) in
    let page_is : page_of (set frames free written) free ≡ page = ap (λ (f : Frame). f.page) (get_or-set_same frames free written blank exists) in
    let new_page : AllByRecursion (λ g. page_of frames g ≢ page) (walk next l.taken l.first) =
    subst (λ (e : ChainEntry). AllByRecursion (λ g. page_of frames g ≢ page) e.frames) chain
    (lacks-all (content_of pool) (page_of frames) page (chain_of pool c).frames
    (λ g. ap (λ (p : PoolView). (content_of p g).page) (sym view) ∙ ap (λ (x : FrameContent). x.page) (content_is frames leases g)) (none_found (frame_with_page (chain_view pool c) page) lacks)) in
    let lists : Kept n (link_of (set frames free written)) (page_of (set frames free written)) (next free) (set leases c (Some (grown l free))) sum =
    took-kept n next (link_of (set frames free written)) (page_of frames) (page_of (set frames free written)) free page leases sum c l kept.lists is room' new_page same_link link same_page page_is in
    let pool_kept : PoolKept (set frames free written) (set leases c (Some (grown l free))) after sum = record {
      lists = subst (λ (k : ℕ). Kept k (link_of (set frames free written)) (page_of (set frames free written)) after (set leases c (Some (grown l free))) sum) (sym (length-set frames free written))
          (subst (λ (f : ℕ). Kept n (link_of (set frames free written)) (page_of (set frames free written)) f (set leases c (Some (grown l free))) sum) (sym after_is) lists);
      sized = sized-set frames free written (record { scores = length-replicate {A = ℕ} 256 0; places = length-replicate {A = ℕ} 256 0 }) kept.sized;
    } in
    let entry : chain_entry (link_of (set frames free written)) (Some (grown l free)) ≡ Some (with_first (chain_of pool c) free) =
    ap (λ (xs : List ℕ). Some (let e : ChainEntry = record { promise = l.promise; frames = xs } in e))
    (grown-walk n next (link_of (set frames free written)) owner c free l here.belong none same_link link)
    ∙ ap (λ (e : ChainEntry). Some (with_first e free)) (sym chain) in
    let takes : Takes pool (view_of (set frames free written) (set leases c (Some (grown l free)))) c free page = record {
      free = record {
        exists = omega (arith, frame_count frames leases pool view);
        in_no_chain = λ d has. absurd (omega (arith, none, (owned_frame frames leases free sum kept d free (subst (λ (p : PoolView). HasFrame p d free) (sym view) has)).1));
      };
      frames = map-set frame_content frames free written ∙ ap (λ (p : PoolView). set p.frames free (cleared page)) view;
      chains = entries-set next (link_of (set frames free written)) leases c (Some (grown l free)) (Some (with_first (chain_of pool c) free)) entry
          (λ d ne. entry-agrees n next (link_of (set frames free written)) (page_of frames) owner d free (get_or leases d None) (kept.lists.each d)
          (λ h. absurd (omega (arith, h, none))) same_link) ∙ ap (λ (p : PoolView). set p.chains c (Some (with_first (chain_of pool c) free))) view;
      inside = omega (arith, lease_count frames leases pool view);
    } in (
      subst (λ (fs : List Frame). PoolKept fs (set leases c (Some l')) after sum) (sym frames_are)
          (subst (λ (x : Lease). PoolKept (set frames free written) (set leases c (Some x)) after sum) (sym grown_is) pool_kept),
      subst (λ (fs : List Frame). Takes pool (view_of fs (set leases c (Some l'))) c free page) (sym frames_are)
          (subst (λ (x : Lease). Takes pool (view_of (set frames free written) (set leases c (Some x))) c free page) (sym grown_is) takes),
      exists,
    )

-- the lease of a chain that was read by its number
pub lease_there : (frames : List Frame) (leases : List (Option Lease)) (pool : PoolView) → view_of frames leases ≡ pool → (i c : ℕ) (r : Option Lease) (l : Lease) → i ≡ c → IsInUse pool c
    → r ≡ get_or leases i r → r ≡ Some l → get_or leases c None ≡ Some l
lease_there frames leases pool view i c r l same used read is =
    lease_read leases c r l (in_use_range frames leases pool view c used) (read ∙ ap (λ (j : ℕ). get_or leases j r) same) is

-- a chain with room for a frame
pub took-room : (frames : List Frame) (leases : List (Option Lease)) (free sum : ℕ) (pool : PoolView) → PoolKept frames leases free sum → view_of frames leases ≡ pool
    → (i c : ℕ) (r : Option Lease) (l : Lease) → i ≡ c → IsInUse pool c → r ≡ get_or leases i r → r ≡ Some l
    → length (chain_view pool c).frames < (chain_view pool c).promise → (free < length frames) × (l.taken < l.promise)
took-room frames leases free sum pool kept view i c r l same used read is room =
    let at : get_or leases c None ≡ Some l = lease_there frames leases pool view i c r l same used read is in
    let chain : chain_of pool c ≡ record { promise = l.promise; frames = walk (link_of frames) l.taken l.first } = chain_of_is frames leases pool view c l at in
    let room' : l.taken < l.promise =
    omega (arith, room, length-map (chain_of pool c).frames (held_frame pool), ap (λ (e : ChainEntry). length e.frames) chain, ap (λ (e : ChainEntry). e.promise) chain, length-walk (link_of frames) l.taken l.first) in
    let some : sum_by taken_by leases < length frames = some_free (length frames) (link_of frames) (page_of frames) free leases sum c l kept.lists at room' in
    ((free_at (length frames) (link_of frames) (page_of frames) free (length frames - sum_by taken_by leases - 1) leases sum kept.lists (omega arith)).owned.0.0, room')

pub took-at : (frames : List Frame) (leases : List (Option Lease)) (free sum : ℕ) (pool : PoolView) → PoolKept frames leases free sum → view_of frames leases ≡ pool
    → (i c page : ℕ) (r : Option Lease) (l l' : Lease) (after : ℕ) (frames' : List Frame) → i ≡ c → IsInUse pool c → r ≡ get_or leases i r → r ≡ Some l
    → length (chain_view pool c).frames < (chain_view pool c).promise → LacksPage (chain_view pool c) page
    → after ≡ (get_or frames free blank).next → frames' ≡ set frames free (record { scores = replicate 256 0; places = replicate 256 0; page = page; next = l.first }) → l' ≡ grown l free
    → PoolKept frames' (set leases i (Some l')) after sum × Takes pool (view_of frames' (set leases i (Some l'))) c free page
took-at frames leases free sum pool kept view i c page r l l' after frames' same used lease_is is room lacks after_is frames_are grown_is =
    let at : get_or leases c None ≡ Some l = lease_there frames leases pool view i c r l same used lease_is is in
    let took = took-pool frames leases free sum pool kept view c page l l' after frames' at room lacks after_is frames_are grown_is in
    subst (λ (j : ℕ). PoolKept frames' (set leases j (Some l')) after sum × Takes pool (view_of frames' (set leases j (Some l'))) c free page) (sym same) (took.0, took.1)

pub takes-view : (old new : PoolView) (c f page : ℕ) → Takes old new c f page → chain_view new c ≡ with_first_held (chain_view old c) f (cleared page)
takes-view old new c f page t = took-view old new c f page t.chains t.inside t.frames t.free.exists (t.free.in_no_chain c)

pub takes-has : (old new : PoolView) (c f page : ℕ) → Takes old new c f page → HasPage (chain_view new c) page f
takes-has old new c f page t = ap (λ (v : ChainView). number_with_page v page) (takes-view old new c f page t)
    ∙ ap (λ b. option_map (λ (h : HeldFrame). h.number) (cond b (Some (let h : HeldFrame = record { number = f; content = cleared page } in h)) (frame_with_page (chain_view old c) page)))
    (eq-eqb page page refl)

pub takes-others : (old new : PoolView) (c f page : ℕ) → Takes old new c f page → LeavesOthers old new c
takes-others old new c f page t = leaves-others old new c f (Some (with_first (chain_of old c) f)) (cleared page) t.chains t.frames (λ d _. t.free.in_no_chain d)

-- a chain in use with another entry is still in use
same_uses : (xs : List (Option ChainEntry)) (c : ℕ) (e : ChainEntry) → IsSome (get_or xs c None) → map is_some (set xs c (Some e)) ≡ map is_some xs
same_uses [] c e used = refl
same_uses (x ∷ xs) zero e used = ap (λ (b : Bool). b ∷ map is_some xs) (sym used)
same_uses (x ∷ xs) (suc c) e used = ap (λ (bs : List Bool). is_some x ∷ bs) (same_uses xs c e used)

pub takes-leaves : (old new : PoolView) (c f page : ℕ) → Takes old new c f page → IsInUse old c → LeavesPool old new c
takes-leaves old new c f page t used = record {
  others = takes-others old new c f page t;
  frames = ap (λ (fs : List FrameContent). length fs) t.frames ∙ length-set old.frames f (cleared page);
  in_use = ap (λ (es : List (Option ChainEntry)). map is_some es) t.chains ∙ same_uses old.chains c (with_first (chain_of old c) f) used;
  spare = takes-spare old new c f page t;
  promise = ap (λ (v : ChainView). v.promise) (takes-view old new c f page t);
}

pub takes-values : (values : FrameContent → List ℕ) (old new : PoolView) (c f page : ℕ) → Takes old new c f page → ((i : ℕ) → get_or (values (cleared page)) i 0 ≡ 0) → LacksPage (chain_view old c) page
    → (docs : ℕ) → view_values values docs (chain_view new c) ≡ view_values values docs (chain_view old c)
takes-values values old new c f page t zeros lacks docs = ap (view_values values docs) (takes-view old new c f page t)
    ∙ took-values values docs (chain_view old c) f (cleared page) zeros lacks

-- ---- a promise is made

pub promised-pool : (frames : List Frame) (leases : List (Option Lease)) (free sum : ℕ) (pool : PoolView) → PoolKept frames leases free sum → view_of frames leases ≡ pool
    → (c more : ℕ) (l : Lease) → c < length leases → get_or leases c None ≡ None → sum + more ≤ length frames
    → l ≡ record { promise = more; taken = 0; first = 4294967295; last = 4294967295 }
    → PoolKept frames (set leases c (Some l)) free (sum + more) × Promises pool (view_of frames (set leases c (Some l))) c more
promised-pool frames leases free sum pool kept view c more l inside is room l_is =
    let new : Lease = record { promise = more; taken = 0; first = 4294967295; last = 4294967295 } in
    let next : ℕ → ℕ = link_of frames in
    let pool_kept : PoolKept frames (set leases c (Some new)) free (sum + more) = record {
      lists = promised-kept (length frames) next (page_of frames) free leases sum c more kept.lists inside is room;
      sized = kept.sized;
    } in
    let promises : Promises pool (view_of frames (set leases c (Some new))) c more = record {
      was_unused = ap (λ (p : PoolView). get_or p.chains c None) (sym view) ∙ entry_is frames leases c ∙ ap (chain_entry next) is;
      exists = omega (arith, lease_count frames leases pool view);
      chains = entries-set next next leases c (Some new) (Some (record { promise = more; frames = [] })) refl (λ d ne. refl)
          ∙ ap (λ (p : PoolView). set p.chains c (Some (let e : ChainEntry = record { promise = more; frames = [] } in e))) view;
      frames = ap (λ (p : PoolView). p.frames) view;
    } in (
      subst (λ (x : Lease). PoolKept frames (set leases c (Some x)) free (sum + more)) (sym l_is) pool_kept,
      subst (λ (x : Lease). Promises pool (view_of frames (set leases c (Some x))) c more) (sym l_is) promises,
    )

promises-chain : (old new : PoolView) (c n : ℕ) → Promises old new c n → get_or new.chains c None ≡ Some (record { promise = n; frames = [] })
promises-chain old new c n p =
    ap (λ (es : List (Option ChainEntry)). get_or es c None) p.chains ∙ get_or-set_same old.chains c (Some (let e : ChainEntry = record { promise = n; frames = [] } in e)) None p.exists

pub promises-in_use : (old new : PoolView) (c n : ℕ) → Promises old new c n → IsInUse new c
promises-in_use old new c n p = subst (λ (e : Option ChainEntry). IsSome e) (sym (promises-chain old new c n p)) refl

abbrev seen : PoolView → ChainEntry → ChainView
seen pool e = record { promise = e.promise; frames = map (held_frame pool) e.frames }

pub promises-view : (old new : PoolView) (c n : ℕ) → Promises old new c n → chain_view new c ≡ record { promise = n; frames = [] }
promises-view old new c n p = ap (λ (e : Option ChainEntry). seen new (unwrap_or e (record { promise = 0; frames = [] }))) (promises-chain old new c n p)

pub promises-others : (old new : PoolView) (c n : ℕ) → Promises old new c n → LeavesOthers old new c
promises-others old new c n p d ne = keeps-chain old new d
    (ap (λ (es : List (Option ChainEntry)). get_or es d None) p.chains ∙ get_or-set_other old.chains c d (Some (let e : ChainEntry = record { promise = n; frames = [] } in e)) None ne)
    (λ g has. ap (λ (xs : List FrameContent). get_or xs g (cleared 0)) p.frames)

pub promises-spare : (old new : PoolView) (c n : ℕ) → Promises old new c n → n ≤ spare_of old → spare_of new + n ≡ spare_of old
promises-spare old new c n p room =
    let none : (chain_of old c).promise ≡ 0 = ap (λ (e : Option ChainEntry). (unwrap_or e (record { promise = 0; frames = [] })).promise) p.was_unused in
    omega (arith, promised-set old new c (Some (let e : ChainEntry = record { promise = n; frames = [] } in e)) p.chains p.exists, none, room, ap (λ (fs : List FrameContent). length fs) p.frames)

-- ---- a chain is given back

-- what a call that ends chain c does
pub record Gives (old new : PoolView) (c : ℕ) : Type 0 where
  pub frames : new.frames ≡ old.frames
  pub chains : new.chains ≡ set old.chains c None
  pub inside : c < length old.chains

pub gives-others : (old new : PoolView) (c : ℕ) → Gives old new c → LeavesOthers old new c
gives-others old new c g d ne = keeps-chain old new d
    (ap (λ (es : List (Option ChainEntry)). get_or es d None) g.chains ∙ get_or-set_other old.chains c d None None ne)
    (λ f has. ap (λ (xs : List FrameContent). get_or xs f (cleared 0)) g.frames)

pub gives-spare : (old new : PoolView) (c : ℕ) → Gives old new c → IsSound old → spare_of new ≡ spare_of old + (chain_view old c).promise
gives-spare old new c g sound =
    omega (arith, promised-set old new c None g.chains g.inside, sound.promises_fit, ap (λ (fs : List FrameContent). length fs) g.frames)

-- the content of the frames is left by a write of a link
content-same : (frames : List Frame) (i : ℕ) (new : Frame) → frame_content new ≡ frame_content (get_or frames i blank) → map frame_content (set frames i new) ≡ map frame_content frames
content-same [] i new is = refl
content-same (f ∷ fs) zero new is = ap (λ (x : FrameContent). x ∷ map frame_content fs) is
content-same (f ∷ fs) (suc i) new is = ap (λ (xs : List FrameContent). frame_content f ∷ xs) (content-same fs i new is)

-- the last frame of a lease that has one
pub last_owned : (frames : List Frame) (leases : List (Option Lease)) (free sum : ℕ) (kept : PoolKept frames leases free sum) (c : ℕ) (l : Lease) → get_or leases c None ≡ Some l
    → 0 < l.taken → (l.last < length frames) × (kept.lists.owner l.last ≡ c + 1)
last_owned frames leases free sum kept c l is some =
    let here : LeaseKept (length frames) (link_of frames) (page_of frames) kept.lists.owner c l = lease_kept (length frames) (link_of frames) (page_of frames) free leases sum c l kept.lists is in
    let k : ℕ = l.taken - 1 in
    let taken : l.taken ≡ suc k = omega arith in
    at_end (λ x. (x < length frames) × (kept.lists.owner x ≡ c + 1)) (link_of frames) k l.first l.last
    (subst (λ j. Ends (link_of frames) j l.first l.last) taken here.ends)
    (subst (λ j. AllByRecursion (λ x. (x < length frames) × (kept.lists.owner x ≡ c + 1)) (walk (link_of frames) j l.first)) taken here.belong.owned)

-- the last frame of a lease, linked to the free list
abbrev linked : List Frame → Lease → ℕ → Frame
linked frames l free = record (get_or frames l.last blank) { next = free }

gave-some : (frames : List Frame) (leases : List (Option Lease)) (free sum : ℕ) (pool : PoolView) → PoolKept frames leases free sum → view_of frames leases ≡ pool
    → (c : ℕ) (l : Lease) → get_or leases c None ≡ Some l → l.taken ≢ 0
    → PoolKept (set frames l.last (linked frames l free)) (set leases c None) l.first (sum - l.promise) × Gives pool (view_of (set frames l.last (linked frames l free)) (set leases c None)) c
gave-some frames leases free sum pool kept view c l is some =
    let n : ℕ = length frames in
    let next : ℕ → ℕ = link_of frames in
    let new : Frame = linked frames l free in
    let next' : ℕ → ℕ = link_of (set frames l.last new) in
    let last : (l.last < n) × (kept.lists.owner l.last ≡ c + 1) = last_owned frames leases free sum kept c l is (omega arith) in
    let same_link : (x : ℕ) → x ≢ l.last → next' x ≡ next x = λ x ne. ap (λ (f : Frame). f.next) (get_or-set_other frames l.last x new blank ne) in
    let link : next' l.last ≡ free = ap (λ (f : Frame). f.next) (get_or-set_same frames l.last new blank last.0) in
    let pages : page_of (set frames l.last new) ≡ page_of frames = fun_ext (field-set (λ f. f.page) frames l.last new refl) in
    let inside : c < length leases = in_range leases c l is in (
      record {
        lists = subst (λ (m : ℕ). Kept m next' (page_of (set frames l.last new)) l.first (set leases c None) (sum - l.promise)) (sym (length-set frames l.last new))
            (subst (λ (page : ℕ → ℕ). Kept n next' page l.first (set leases c None) (sum - l.promise)) (sym pages)
            (released-kept n next next' (page_of frames) free leases sum c (l.taken - 1) l kept.lists is (omega arith) same_link link));
        sized = sized-set frames l.last new (record { scores = (kept.sized l.last).scores; places = (kept.sized l.last).places }) kept.sized;
      },
      record {
        frames = content-same frames l.last new refl ∙ ap (λ (p : PoolView). p.frames) view;
        chains = entries-set next next' leases c None None refl
            (λ d ne. entry-agrees n next next' (page_of frames) kept.lists.owner d l.last (get_or leases d None) (kept.lists.each d) (λ h. ne (omega (arith, h, last.1))) same_link)
            ∙ ap (λ (p : PoolView). set p.chains c None) view;
        inside = omega (arith, lease_count frames leases pool view);
      },
    )

pub gave-pool : (frames : List Frame) (leases : List (Option Lease)) (free sum : ℕ) (pool : PoolView) → PoolKept frames leases free sum → view_of frames leases ≡ pool
    → (c : ℕ) (l : Lease) → get_or leases c None ≡ Some l
    → PoolKept (relinked frames l free) (set leases c None) (relinked_first l free) (sum - l.promise) × Gives pool (view_of (relinked frames l free) (set leases c None)) c
gave-pool frames leases free sum pool kept view c l is =
    let next : ℕ → ℕ = link_of frames in
    let inside : c < length leases = in_range leases c l is in
    elim (eqb_tells l.taken 0) as (λ _. PoolKept (relinked frames l free) (set leases c None) (relinked_first l free) (sum - l.promise)
    × Gives pool (view_of (relinked frames l free) (set leases c None)) c) [
      | inl none ↦ subst (λ (b : Bool). PoolKept (cond b frames (set frames l.last (linked frames l free))) (set leases c None) (cond b free l.first) (sum - l.promise)
          × Gives pool (view_of (cond b frames (set frames l.last (linked frames l free))) (set leases c None)) c) (sym none.0) (
            record { lists = released_none-kept (length frames) next (page_of frames) free leases sum c l kept.lists is none.1; sized = kept.sized },
            record {
              frames = ap (λ (p : PoolView). p.frames) view;
              chains = entries-set next next leases c None None refl (λ d ne. refl) ∙ ap (λ (p : PoolView). set p.chains c None) view;
              inside = omega (arith, lease_count frames leases pool view);
            },
          )
      | inr some ↦ subst (λ (b : Bool). PoolKept (cond b frames (set frames l.last (linked frames l free))) (set leases c None) (cond b free l.first) (sum - l.promise)
          × Gives pool (view_of (cond b frames (set frames l.last (linked frames l free))) (set leases c None)) c) (sym some.0)
          (gave-some frames leases free sum pool kept view c l is some.1)
    ]

pub gave-at : (frames : List Frame) (leases : List (Option Lease)) (free sum : ℕ) (pool : PoolView) → PoolKept frames leases free sum → view_of frames leases ≡ pool
    → (i c : ℕ) (r : Option Lease) (l : Lease) (frames' : List Frame) (free' : ℕ) → i ≡ c → IsInUse pool c → r ≡ get_or leases i r → r ≡ Some l
    → frames' ≡ relinked frames l free → free' ≡ relinked_first l free
    → PoolKept frames' (set leases i None) free' (sum - l.promise) × Gives pool (view_of frames' (set leases i None)) c
gave-at frames leases free sum pool kept view i c r l frames' free' same used lease_is is frames_is free_is =
    let at : get_or leases c None ≡ Some l = lease_there frames leases pool view i c r l same used lease_is is in
    let gave = gave-pool frames leases free sum pool kept view c l at in
    subst (λ (j : ℕ). PoolKept frames' (set leases j None) free' (sum - l.promise) × Gives pool (view_of frames' (set leases j None)) c) (sym same)
    (subst (λ (fs : List Frame). PoolKept fs (set leases c None) free' (sum - l.promise) × Gives pool (view_of fs (set leases c None)) c) (sym frames_is)
    (subst (λ (f : ℕ). PoolKept (relinked frames l free) (set leases c None) f (sum - l.promise) × Gives pool (view_of (relinked frames l free) (set leases c None)) c) (sym free_is) gave))
