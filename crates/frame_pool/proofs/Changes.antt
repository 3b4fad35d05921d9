-- A pool keeps its lists through each of its changes.
use Rattle.shared_lemmas.proofs.Common.{◌≡◌, ◌≢◌, ℕ, suc, ◌+◌, ◌-◌, ◌<◌, ◌≤◌, List, ◌∷◌, ◌++◌, length, map, get_or, set, Option, Some, None, sum_by, cond, eqb, refl, sym, ap, ◌∙◌, subst, arith, add-one, length-set, AllByRecursion, sum_by-set, ne_eqb}
use Rattle.std.proofs.lemmas.Bool.{eq-eqb}
use Rattle.shared_lemmas.proofs.Lists.{all_weaker, all_append, all_map}
use Rattle.frame_pool.specs.declared.lease.Lease.{Lease}
use Rattle.frame_pool.specs.Links.{walk}
use Rattle.frame_pool.specs.Private.Leases.{grown}
use Rattle.frame_pool.specs.Private.Kept.{Ends, Distinct, Belong, LeaseKept, EachKept, Kept, taken_by, promised_to}
use Rattle.frame_pool.proofs.Walks.{map-agree, walk-same, ends-same, not_in, belong-same, grown-ends, walk-spliced, distinct-append, at_end}
use Rattle.frame_pool.proofs.Leases.{changed, changed-same, changed-other, in_range, each-other, lease_kept, some_free, free_at, each-set, all_taken_fit}

-- ---- a frame is taken

-- the chain has the new frame in front of those that it had
pub grown-walk : (n : ℕ) (next next' owner : ℕ → ℕ) (c free : ℕ) (l : Lease) → Belong n owner (c + 1) (walk next l.taken l.first) → owner free ≡ 0
    → ((x : ℕ) → x ≢ free → next' x ≡ next x) → next' free ≡ l.first → walk next' (l.taken + 1) free ≡ free ∷ walk next l.taken l.first
grown-walk n next next' owner c free l belong none same_link link =
    let apart = not_in n owner (c + 1) (walk next l.taken l.first) free belong.owned (λ h. absurd (omega (arith, h, none))) in
    let agree : AllByRecursion (λ x. next' x ≡ next x) (walk next l.taken l.first) = all_weaker (λ x. x ≢ free) (λ x. next' x ≡ next x) same_link (walk next l.taken l.first) apart in
    ap (λ j. walk next' j free) (add-one l.taken) ∙ ap (λ (xs : List ℕ). free ∷ xs) (ap (walk next' l.taken) link ∙ walk-same next next' l.taken l.first agree)

pub grown-kept : (n : ℕ) (next next' page page' owner : ℕ → ℕ) (c free at : ℕ) (l : Lease) → LeaseKept n next page owner c l → free < n → owner free ≡ 0
    → l.taken < l.promise → ((x : ℕ) → x ≢ free → next' x ≡ next x) → next' free ≡ l.first → ((x : ℕ) → x ≢ free → page' x ≡ page x) → page' free ≡ at
    → AllByRecursion (λ x. page x ≢ at) (walk next l.taken l.first) → LeaseKept n next' page' (changed owner free (c + 1)) c (grown l free)
grown-kept n next next' page page' owner c free at l k inside none room same_link link same_page page_is new =
    let frames : List ℕ = walk next l.taken l.first in
    let apart : AllByRecursion (λ x. x ≢ free) frames = not_in n owner (c + 1) frames free k.belong.owned (λ h. absurd (omega (arith, h, none))) in
    let agree : AllByRecursion (λ x. next' x ≡ next x) frames = all_weaker (λ x. x ≢ free) (λ x. next' x ≡ next x) same_link frames apart in
    let agree_page : AllByRecursion (λ x. page' x ≡ page x) frames = all_weaker (λ x. x ≢ free) (λ x. page' x ≡ page x) same_page frames apart in
    let is : walk next' (l.taken + 1) free ≡ free ∷ frames = grown-walk n next next' owner c free l k.belong none same_link link in
    let owners : AllByRecursion (λ x. owner x ≡ c + 1 → changed owner free (c + 1) x ≡ c + 1) frames =
    all_weaker (λ x. x ≢ free) (λ x. owner x ≡ c + 1 → changed owner free (c + 1) x ≡ c + 1) (λ x ne h. changed-other owner free (c + 1) x ne ∙ h) frames apart in
    let rest : Belong n (changed owner free (c + 1)) (c + 1) frames = belong-same n owner (changed owner free (c + 1)) (c + 1) (c + 1) frames owners k.belong in
    let pages_is : map page' (free ∷ frames) ≡ at ∷ map page frames =
    ap (λ (p : ℕ). p ∷ map page' frames) page_is ∙ ap (λ (ps : List ℕ). at ∷ ps) (map-agree page page' frames agree_page) in
    record {
      belong = subst (λ (xs : List ℕ). Belong n (changed owner free (c + 1)) (c + 1) xs) (sym is) (record {
        owned = ((inside, changed-same owner free (c + 1)), rest.owned);
        once = (apart, rest.once);
      });
      ends = subst (λ j. Ends next' j free (cond (eqb l.taken 0) free l.last)) (sym (add-one l.taken))
          (grown-ends next' l.taken l.first free l.last link (ends-same next next' l.taken l.first l.last agree k.ends));
      within = omega arith;
      pages = subst (λ (xs : List ℕ). Distinct (map page' xs)) (sym is) (subst (λ (ps : List ℕ). Distinct ps) (sym pages_is) (all_map (λ p. p ≢ at) page frames new, k.pages));
    }

sum-set : (f : Option Lease → ℕ) (leases : List (Option Lease)) (c : ℕ) (old new : Option Lease) → c < length leases → get_or leases c None ≡ old
    → sum_by f (set leases c new) + f old ≡ sum_by f leases + f new
sum-set f leases c old new inside is = subst (λ (o : Option Lease). sum_by f (set leases c new) + f o ≡ sum_by f leases + f new) is (sum_by-set f leases c new None inside)

pub took-kept : (n : ℕ) (next next' page page' : ℕ → ℕ) (free at : ℕ) (leases : List (Option Lease)) (promised c : ℕ) (l : Lease) → Kept n next page free leases promised
    → get_or leases c None ≡ Some l → l.taken < l.promise → AllByRecursion (λ x. page x ≢ at) (walk next l.taken l.first)
    → ((x : ℕ) → x ≢ free → next' x ≡ next x) → next' free ≡ l.first → ((x : ℕ) → x ≢ free → page' x ≡ page x) → page' free ≡ at
    → Kept n next' page' (next free) (set leases c (Some (grown l free))) promised
took-kept n next next' page page' free at leases promised c l kept is room new same_link link same_page page_is =
    let owner : ℕ → ℕ = kept.owner in
    let here : LeaseKept n next page owner c l = lease_kept n next page free leases promised c l kept is in
    let some : sum_by taken_by leases < n = some_free n next page free leases promised c l kept is room in
    let m : ℕ = n - sum_by taken_by leases - 1 in
    let fuel : n - sum_by taken_by leases ≡ suc m = omega arith in
    let front : Belong n owner 0 (free ∷ walk next m (next free)) = free_at n next page free m leases promised kept fuel in
    let rest : List ℕ = walk next m (next free) in
    let none : owner free ≡ 0 = front.owned.0.1 in
    let inside : c < length leases = in_range leases c l is in
    let taken : sum_by taken_by (set leases c (Some (grown l free))) + l.taken ≡ sum_by taken_by leases + (l.taken + 1) =
    sum-set taken_by leases c (Some l) (Some (grown l free)) inside is in
    let promises : sum_by promised_to (set leases c (Some (grown l free))) + l.promise ≡ sum_by promised_to leases + l.promise =
    sum-set promised_to leases c (Some l) (Some (grown l free)) inside is in
    let fuel' : n - sum_by taken_by (set leases c (Some (grown l free))) ≡ m = omega arith in
    let agree : AllByRecursion (λ x. next' x ≡ next x) rest = all_weaker (λ x. x ≢ free) (λ x. next' x ≡ next x) same_link rest front.once.0 in
    let owners : AllByRecursion (λ x. owner x ≡ 0 → changed owner free (c + 1) x ≡ 0) rest =
    all_weaker (λ x. x ≢ free) (λ x. owner x ≡ 0 → changed owner free (c + 1) x ≡ 0) (λ x ne h. changed-other owner free (c + 1) x ne ∙ h) rest front.once.0 in
    record {
      owner = changed owner free (c + 1);
      free_frames = subst (λ j. Belong n (changed owner free (c + 1)) 0 (walk next' j (next free))) (sym fuel')
          (subst (λ (xs : List ℕ). Belong n (changed owner free (c + 1)) 0 xs) (sym (walk-same next next' m (next free) agree))
          (belong-same n owner (changed owner free (c + 1)) 0 0 rest owners (record { owned = front.owned.1; once = front.once.1 })));
      each = each-set (λ d o. EachKept n next' page' (changed owner free (c + 1)) d o) leases c (Some (grown l free)) inside
          (grown-kept n next next' page page' owner c free at l here front.owned.0.0 none room same_link link same_page page_is new)
          (λ d ne. each-other n next next' page page' owner (changed owner free (c + 1)) d free (get_or leases d None) (kept.each d)
          (λ h. absurd (omega (arith, h, none))) same_link same_page
          (λ x h. changed-other owner free (c + 1) x (λ e. absurd (omega (arith, h, none, ap owner e))) ∙ h));
      promised_is = omega (arith, kept.promised_is);
      fits = kept.fits;
      small = kept.small;
      few = omega (arith, kept.few, length-set leases c (Some (grown l free)));
    }

-- ---- a promise is made

pub promised-kept : (n : ℕ) (next page : ℕ → ℕ) (free : ℕ) (leases : List (Option Lease)) (promised c more : ℕ) → Kept n next page free leases promised
    → c < length leases → get_or leases c None ≡ None → promised + more ≤ n
    → Kept n next page free (set leases c (Some (record { promise = more; taken = 0; first = 4294967295; last = 4294967295 }))) (promised + more)
promised-kept n next page free leases promised c more kept inside is room =
    let lease : Lease = record { promise = more; taken = 0; first = 4294967295; last = 4294967295 } in
    let taken : sum_by taken_by (set leases c (Some lease)) + 0 ≡ sum_by taken_by leases + 0 = sum-set taken_by leases c None (Some lease) inside is in
    let promises : sum_by promised_to (set leases c (Some lease)) + 0 ≡ sum_by promised_to leases + more = sum-set promised_to leases c None (Some lease) inside is in
    let same : sum_by taken_by (set leases c (Some lease)) ≡ sum_by taken_by leases = omega arith in
    record {
      owner = kept.owner;
      free_frames = subst (λ (j : ℕ). Belong n kept.owner 0 (walk next (n - j) free)) (sym same) kept.free_frames;
      each = each-set (λ d o. EachKept n next page kept.owner d o) leases c (Some lease) inside
          (record { belong = record { owned = tt; once = tt }; ends = refl; within = omega arith; pages = tt }) (λ d ne. kept.each d);
      promised_is = omega (arith, kept.promised_is);
      fits = room;
      small = kept.small;
      few = omega (arith, kept.few, length-set leases c (Some lease));
    }

-- ---- a chain is given back

-- the owners with all frames of one owner free
abbrev pub freed : (ℕ → ℕ) → ℕ → ℕ → ℕ
freed owner o x = cond (eqb (owner x) o) 0 (owner x)

pub freed-same : (owner : ℕ → ℕ) (o x : ℕ) → owner x ≡ o → freed owner o x ≡ 0
freed-same owner o x is = ap (λ b. cond b 0 (owner x)) (eq-eqb (owner x) o is)

pub freed-other : (owner : ℕ → ℕ) (o x : ℕ) → owner x ≢ o → freed owner o x ≡ owner x
freed-other owner o x ne = ap (λ b. cond b 0 (owner x)) (ne_eqb (owner x) o ne)

pub released_none-kept : (n : ℕ) (next page : ℕ → ℕ) (free : ℕ) (leases : List (Option Lease)) (promised c : ℕ) (l : Lease) → Kept n next page free leases promised
    → get_or leases c None ≡ Some l → l.taken ≡ 0 → Kept n next page free (set leases c None) (promised - l.promise)
released_none-kept n next page free leases promised c l kept is none =
    let inside : c < length leases = in_range leases c l is in
    let taken : sum_by taken_by (set leases c None) + l.taken ≡ sum_by taken_by leases + 0 = sum-set taken_by leases c (Some l) None inside is in
    let promises : sum_by promised_to (set leases c None) + l.promise ≡ sum_by promised_to leases + 0 = sum-set promised_to leases c (Some l) None inside is in
    let same : sum_by taken_by (set leases c None) ≡ sum_by taken_by leases = omega arith in
    record {
      owner = kept.owner;
      free_frames = subst (λ (j : ℕ). Belong n kept.owner 0 (walk next (n - j) free)) (sym same) kept.free_frames;
      each = each-set (λ d o. EachKept n next page kept.owner d o) leases c None inside tt (λ d ne. kept.each d);
      promised_is = omega (arith, kept.promised_is);
      fits = omega (arith, kept.fits);
      small = kept.small;
      few = omega (arith, kept.few, length-set leases c None);
    }

-- the lists of two owners have no frame in common
pub owned_apart : (n : ℕ) (owner : ℕ → ℕ) (o p : ℕ) (xs ys : List ℕ) → o ≢ p → AllByRecursion (λ x. (x < n) × (owner x ≡ o)) xs → AllByRecursion (λ x. (x < n) × (owner x ≡ p)) ys
    → AllByRecursion (λ x. AllByRecursion (λ y. y ≢ x) ys) xs
owned_apart n owner o p xs ys ne h k =
    all_weaker (λ x. (x < n) × (owner x ≡ o)) (λ x. AllByRecursion (λ y. y ≢ x) ys) (λ x q. not_in n owner p ys x k (λ e. ne (sym q.1 ∙ e))) xs h

pub released-kept : (n : ℕ) (next next' page : ℕ → ℕ) (free : ℕ) (leases : List (Option Lease)) (promised c k : ℕ) (l : Lease) → Kept n next page free leases promised
    → get_or leases c None ≡ Some l → l.taken ≡ suc k → ((x : ℕ) → x ≢ l.last → next' x ≡ next x) → next' l.last ≡ free
    → Kept n next' page l.first (set leases c None) (promised - l.promise)
released-kept n next next' page free leases promised c k l kept is some same_link link =
    let owner : ℕ → ℕ = kept.owner in
    let here : LeaseKept n next page owner c l = lease_kept n next page free leases promised c l kept is in
    let inside : c < length leases = in_range leases c l is in
    let taken : sum_by taken_by (set leases c None) + l.taken ≡ sum_by taken_by leases + 0 = sum-set taken_by leases c (Some l) None inside is in
    let promises : sum_by promised_to (set leases c None) + l.promise ≡ sum_by promised_to leases + 0 = sum-set promised_to leases c (Some l) None inside is in
    let m : ℕ = n - sum_by taken_by leases in
    let fit : sum_by taken_by leases ≤ n = all_taken_fit n next page free leases promised kept in
    let fuel' : n - sum_by taken_by (set leases c None) ≡ suc k + m = omega arith in
    let frames : List ℕ = walk next (suc k) l.first in
    let belong : Belong n owner (c + 1) frames = subst (λ j. Belong n owner (c + 1) (walk next j l.first)) some here.belong in
    let ends : Ends next (suc k) l.first l.last = subst (λ j. Ends next j l.first l.last) some here.ends in
    let last_is : (l.last < n) × (owner l.last ≡ c + 1) = at_end (λ x. (x < n) × (owner x ≡ c + 1)) next k l.first l.last ends belong.owned in
    let old_free : List ℕ = walk next m free in
    let apart : AllByRecursion (λ x. x ≢ l.last) old_free = not_in n owner 0 old_free l.last kept.free_frames.owned (λ h. absurd (omega (arith, h, last_is.1))) in
    let agree : AllByRecursion (λ x. next' x ≡ next x) old_free = all_weaker (λ x. x ≢ l.last) (λ x. next' x ≡ next x) same_link old_free apart in
    let spliced : walk next' (suc k + m) l.first ≡ frames ++ old_free =
    walk-spliced next next' k m (suc k + m) l.first l.last free refl ends belong.once same_link link
    ∙ ap (λ (ys : List ℕ). frames ++ ys) (walk-same next next' m free agree) in
    let owner' : ℕ → ℕ = freed owner (c + 1) in
    let back : Belong n owner' 0 frames =
    belong-same n owner owner' (c + 1) 0 frames (all_weaker (λ x. (x < n) × (owner x ≡ c + 1)) (λ x. owner x ≡ c + 1 → owner' x ≡ 0) (λ x _ h. freed-same owner (c + 1) x h) frames belong.owned) belong in
    let stay : Belong n owner' 0 old_free = belong-same n owner owner' 0 0 old_free
    (all_weaker (λ x. (x < n) × (owner x ≡ 0)) (λ x. owner x ≡ 0 → owner' x ≡ 0) (λ x _ h. freed-other owner (c + 1) x (λ e. absurd (omega (arith, e, h))) ∙ h) old_free kept.free_frames.owned)
    kept.free_frames in
    record {
      owner = owner';
      free_frames = subst (λ j. Belong n owner' 0 (walk next' j l.first)) (sym fuel') (subst (λ (xs : List ℕ). Belong n owner' 0 xs) (sym spliced) (record {
        owned = all_append (λ x. (x < n) × (owner' x ≡ 0)) frames old_free back.owned stay.owned;
        once = distinct-append frames old_free back.once stay.once
            (owned_apart n owner (c + 1) 0 frames old_free (λ h. absurd (omega arith)) belong.owned kept.free_frames.owned);
      }));
      each = each-set (λ d o. EachKept n next' page owner' d o) leases c None inside tt
          (λ d ne. each-other n next next' page page owner owner' d l.last (get_or leases d None) (kept.each d)
          (λ h. ne (omega (arith, h, last_is.1))) same_link (λ x _. refl) (λ x h. freed-other owner (c + 1) x (λ e. ne (omega (arith, e, h))) ∙ h));
      promised_is = omega (arith, kept.promised_is);
      fits = omega (arith, kept.fits);
      small = kept.small;
      few = omega (arith, kept.few, length-set leases c None);
    }
