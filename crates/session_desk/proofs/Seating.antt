-- The sessions of a desk as one of them changes, goes, or joins the others.
use Rattle.shared_lemmas.proofs.Common.{◌≡◌, ◌≢◌, ℕ, zero, suc, ◌+◌, ◌<◌, Bool, cond, List, [], ◌∷◌, ◌++◌, length, map, get_or, Option, Some, None, refl, sym, ap, subst, ◌∙◌, arith, length-append, length-map, map-append, sum_by-append, sum_by-cons, sum_by-set, IsSome, count_by, is_some, sum_by}
use Rattle.shared_lemmas.proofs.Common.{AllByRecursion}
use Rattle.std.proofs.lemmas.Bool.{true≢false}
use Rattle.std.proofs.lemmas.List.{length-set}
use Rattle.std.specs.List.{slice_set, slice_index_or}
use Rattle.shared_lemmas.proofs.Lists.{all_append, all_back, all_front, all_weaker}
use Rattle.session_desk.proofs.Below.{Query, IndexData, LeavesOthers, LeavesPool, chain_view, ChainEntry, IsInUse, PoolView, Promises, spare_of, need_of, IsSessionOf, SessionStands, chain_of, terms_of, Session}
use Rattle.session_desk.specs.State.{OpenSession, needs}
use Rattle.session_desk.specs.Standing.{sessions_data, session_data}
use Rattle.session_desk.specs.Private.Standing.{AreApart, Differ, SessionsStand, name_of}
use Rattle.session_desk.proofs.Placing.{HasOtherName}

abbrev pub HasOtherChain : ℕ → Session → Type 0
HasOtherChain chain s = chain_of s ≢ chain

abbrev pub Stands : IndexData → PoolView → Session → Type 0
Stands index pool s = SessionStands s index pool

-- a call on another chain leaves sessions
abbrev pub OthersStay : Type 0
OthersStay = (sessions : List Session) (index : IndexData) (old new : PoolView) (chain : ℕ) → LeavesOthers old new chain
    → AllByRecursion (HasOtherChain chain) sessions → AllByRecursion (Stands index old) sessions → AllByRecursion (Stands index new) sessions

-- ---- apart

turned : (s t : Session) → AreApart s t → AreApart t s
turned s t apart = record { names = (λ e. apart.names (sym e)); chains = (λ e. apart.chains (sym e)) }

-- all others are apart from one
apart_before : (front : List Session) (s : Session) (back : List Session) → Differ (front ++ s ∷ back) → AllByRecursion (AreApart s) front
apart_before [] s back differ = tt
apart_before (t ∷ front) s back differ = (turned t s (all_back (AreApart t) front (s ∷ back) differ.0).0, apart_before front s back differ.1)

differ_back : (front back : List Session) → Differ (front ++ back) → Differ back
differ_back [] back differ = differ
differ_back (t ∷ front) back differ = differ_back front back differ.1

apart_behind : (front : List Session) (s : Session) (back : List Session) → Differ (front ++ s ∷ back) → AllByRecursion (AreApart s) back
apart_behind front s back differ = (differ_back front (s ∷ back) differ).0

other_chains : (s : Session) (sessions : List Session) → AllByRecursion (AreApart s) sessions → AllByRecursion (HasOtherChain (chain_of s)) sessions
other_chains s sessions apart = all_weaker (AreApart s) (HasOtherChain (chain_of s)) (λ t h. h.chains) sessions apart

other_names : (s : Session) (name : List ℕ) (sessions : List Session) → name_of s ≡ name → AllByRecursion (AreApart s) sessions → AllByRecursion (HasOtherName name) sessions
other_names s name sessions named apart = all_weaker (AreApart s) (HasOtherName name) (λ t h e. h.names (e ∙ sym named)) sessions apart

pub names_before : (front : List Session) (s : Session) (back : List Session) (name : List ℕ) → name_of s ≡ name → Differ (front ++ s ∷ back) → AllByRecursion (HasOtherName name) front
names_before front s back name named differ = other_names s name front named (apart_before front s back differ)

pub names_behind : (front : List Session) (s : Session) (back : List Session) (name : List ℕ) → name_of s ≡ name → Differ (front ++ s ∷ back) → AllByRecursion (HasOtherName name) back
names_behind front s back name named differ = other_names s name back named (apart_behind front s back differ)

-- a session takes the place of one with the same name and chain
apart_same : (s t : Session) (sessions : List Session) → name_of t ≡ name_of s → chain_of t ≡ chain_of s → AllByRecursion (AreApart s) sessions → AllByRecursion (AreApart t) sessions
apart_same s t sessions named chain apart =
    all_weaker (AreApart s) (AreApart t) (λ u h. record { names = (λ e. h.names (e ∙ named)); chains = (λ e. h.chains (e ∙ chain)) }) sessions apart

differ_changed : (front : List Session) (s t : Session) (back : List Session) → name_of t ≡ name_of s → chain_of t ≡ chain_of s → Differ (front ++ s ∷ back) → Differ (front ++ t ∷ back)
differ_changed [] s t back named chain differ = (apart_same s t back named chain differ.0, differ.1)
differ_changed (u ∷ front) s t back named chain differ =
    let here = all_back (AreApart u) front (s ∷ back) differ.0 in (
      all_append (AreApart u) front (t ∷ back) (all_front (AreApart u) front (s ∷ back) differ.0)
          (record { names = (λ e. here.0.names (sym named ∙ e)); chains = (λ e. here.0.chains (sym chain ∙ e)) }, here.1),
      differ_changed front s t back named chain differ.1,
    )

differ_gone : (front : List Session) (s : Session) (back : List Session) → Differ (front ++ s ∷ back) → Differ (front ++ back)
differ_gone [] s back differ = differ.1
differ_gone (u ∷ front) s back differ =
    (all_append (AreApart u) front back (all_front (AreApart u) front (s ∷ back) differ.0) (all_back (AreApart u) front (s ∷ back) differ.0).1, differ_gone front s back differ.1)

differ_joined : (sessions : List Session) (s : Session) → AllByRecursion (AreApart s) sessions → Differ sessions → Differ (sessions ++ s ∷ [])
differ_joined [] s apart differ = (tt, tt)
differ_joined (t ∷ sessions) s apart differ =
    (all_append (AreApart t) sessions (s ∷ []) differ.0 (turned s t apart.0, tt), differ_joined sessions s apart.1 differ.1)

-- ---- standing

others_stay : OthersStay → (index : IndexData) (old new : PoolView) (s : Session) (sessions : List Session) → LeavesOthers old new (chain_of s)
    → AllByRecursion (AreApart s) sessions → AllByRecursion (Stands index old) sessions → AllByRecursion (Stands index new) sessions
others_stay stay index old new s sessions leaves apart stand = stay sessions index old new (chain_of s) leaves (other_chains s sessions apart) stand

-- ---- frames and chains

needs_parted : (index : IndexData) (front : List Session) (s : Session) (back : List Session)
    → needs index (sessions_data (front ++ s ∷ back)) ≡ needs index (sessions_data front) + need_of index (terms_of s) + needs index (sessions_data back)
needs_parted index front s back =
    let f = λ (e : OpenSession). need_of index e.query.terms in
    omega (
      arith,
      ap (sum_by f) (map-append session_data front (s ∷ back)),
      sum_by-append f (sessions_data front) (session_data s ∷ sessions_data back),
      sum_by-cons f (session_data s) (sessions_data back),
    )

needs_joined : (index : IndexData) (front back : List Session) → needs index (sessions_data (front ++ back)) ≡ needs index (sessions_data front) + needs index (sessions_data back)
needs_joined index front back =
    let f = λ (e : OpenSession). need_of index e.query.terms in
    ap (sum_by f) (map-append session_data front back) ∙ sum_by-append f (sessions_data front) (sessions_data back)

abbrev one_where_used : Option ChainEntry → ℕ
one_where_used entry = cond (is_some entry) 1 0

abbrev truths : List Bool → ℕ
truths bs = count_by (λ (b : Bool). b) bs

uses_seen : (entries : List (Option ChainEntry)) → count_by is_some entries ≡ truths (map is_some entries)
uses_seen [] = refl
uses_seen (e ∷ entries) =
    sum_by-cons one_where_used e entries ∙ ap (λ n. one_where_used e + n) (uses_seen entries) ∙ sym (sum_by-cons (λ (b : Bool). cond b 1 0) (is_some e) (map is_some entries))

same_length : (front : List Session) (s t : Session) (back : List Session) → length (front ++ t ∷ back) ≡ length (front ++ s ∷ back)
same_length front s t back = length-append front (t ∷ back) ∙ sym (length-append front (s ∷ back))

-- ---- a session changes

pub still_stand : OthersStay → (index : IndexData) (old new : PoolView) (front : List Session) (s t : Session) (back : List Session) → SessionsStand index old (front ++ s ∷ back)
    → LeavesPool old new (chain_of s) → IsSessionOf s t → SessionStands t index new → SessionsStand index new (front ++ t ∷ back)
still_stand stay index old new front s t back stand leaves same stands =
    let differ = stand.differ in
    let named : name_of t ≡ name_of s = ap (λ q. q.id) same.query in
    let front_stand = all_front (Stands index old) front (s ∷ back) stand.each in
    let back_stand = (all_back (Stands index old) front (s ∷ back) stand.each).1 in
    record {
      each = all_append (Stands index new) front (t ∷ back) (others_stay stay index old new s front leaves.others (apart_before front s back differ) front_stand)
          (stands, others_stay stay index old new s back leaves.others (apart_behind front s back differ) back_stand);
      differ = differ_changed front s t back named same.chain differ;
      few = omega (arith, stand.few, same_length front s t back);
      numbers = sym (length-map new.chains is_some) ∙ ap length leaves.in_use ∙ length-map old.chains is_some ∙ stand.numbers;
      in_use = uses_seen new.chains ∙ ap truths leaves.in_use ∙ sym (uses_seen old.chains) ∙ stand.in_use ∙ sym (same_length front s t back);
      spare = omega (
        arith,
        stand.spare,
        leaves.spare,
        leaves.frames,
        needs_parted index front s back,
        needs_parted index front t back,
        ap (λ (q : Query). need_of index q.terms) same.query,
      );
    }

-- the chain of a session is in use, once
used_inside : (entries : List (Option ChainEntry)) (chain : ℕ) → IsSome (slice_index_or entries chain None) → chain < length entries
used_inside [] chain used = cc
used_inside (e ∷ entries) zero used = omega arith
used_inside (e ∷ entries) (suc chain) used = omega (arith, used_inside entries chain used)

used_once : (entries : List (Option ChainEntry)) (chain : ℕ) → IsSome (slice_index_or entries chain None) → one_where_used (get_or entries chain None) ≡ 1
used_once entries chain used = ap (λ (b : Bool). cond b 1 0) used

-- ---- a session goes

pub others_stand : OthersStay → (index : IndexData) (old new : PoolView) (front : List Session) (s : Session) (back : List Session) → SessionsStand index old (front ++ s ∷ back)
    → IsInUse old (chain_of s) → (chain_view old (chain_of s)).promise ≡ need_of index (terms_of s)
    → new.frames ≡ old.frames → new.chains ≡ slice_set old.chains (chain_of s) None → LeavesOthers old new (chain_of s) → spare_of new ≡ spare_of old + (chain_view old (chain_of s)).promise
    → SessionsStand index new (front ++ back)
others_stand stay index old new front s back stand in_use promise frames chains others spare =
    let differ = stand.differ in
    let some : chain_of s < length old.chains = used_inside old.chains (chain_of s) in_use in
    record {
      each = all_append (Stands index new) front back (others_stay stay index old new s front others (apart_before front s back differ) (all_front (Stands index old) front (s ∷ back) stand.each))
          (others_stay stay index old new s back others (apart_behind front s back differ) (all_back (Stands index old) front (s ∷ back) stand.each).1);
      differ = differ_gone front s back differ;
      few = omega (arith, stand.few, length-append front back, length-append front (s ∷ back));
      numbers = ap length chains ∙ length-set old.chains (chain_of s) None ∙ stand.numbers;
      in_use = omega (
        arith,
        ap (count_by is_some) chains,
        sum_by-set one_where_used old.chains (chain_of s) None None some,
        used_once old.chains (chain_of s) in_use,
        stand.in_use,
        length-append front back,
        length-append front (s ∷ back),
      );
      spare = omega (arith, spare, promise, stand.spare, ap length frames, needs_parted index front s back, needs_joined index front back);
    }

-- sessions with chains in use are apart from one whose chain was in no use
apart_from : (old : PoolView) (s : Session) (sessions : List Session) → slice_index_or old.chains (chain_of s) None ≡ None → AllByRecursion (HasOtherName (name_of s)) sessions
    → AllByRecursion (λ (t : Session). IsInUse old (chain_of t)) sessions → AllByRecursion (AreApart s) sessions
apart_from old s [] unused names used = tt
apart_from old s (t ∷ sessions) unused names used = (
  record { names = names.0; chains = (λ e. true≢false (sym used.0 ∙ ap (λ n. is_some (slice_index_or old.chains n None)) e ∙ ap is_some unused)) },
  apart_from old s sessions unused names.1 used.1,
)

-- ---- a session joins

pub all_stand : OthersStay → (index : IndexData) (old new : PoolView) (sessions : List Session) (s : Session) → SessionsStand index old sessions → length sessions < 64
    → AllByRecursion (HasOtherName (name_of s)) sessions → AllByRecursion (λ (t : Session). IsInUse old (chain_of t)) sessions
    → SessionStands s index new → Promises old new (chain_of s) (need_of index (terms_of s)) → LeavesOthers old new (chain_of s)
    → spare_of new + need_of index (terms_of s) ≡ spare_of old → SessionsStand index new (sessions ++ s ∷ [])
all_stand stay index old new sessions s stand few names used stands promises others spare =
    let apart = apart_from old s sessions promises.was_unused names used in
    record {
      each = all_append (Stands index new) sessions (s ∷ []) (others_stay stay index old new s sessions others apart stand.each) (stands, tt);
      differ = differ_joined sessions s apart stand.differ;
      few = omega (arith, few, length-append sessions (s ∷ []));
      numbers = ap length promises.chains ∙ length-set old.chains (chain_of s) _ ∙ stand.numbers;
      in_use = omega (
        arith,
        ap (count_by is_some) promises.chains,
        sum_by-set one_where_used old.chains (chain_of s) (Some (record { promise = need_of index (terms_of s); frames = [] })) None promises.exists,
        ap one_where_used promises.was_unused,
        stand.in_use,
        length-append sessions (s ∷ []),
      );
      spare = omega (arith, spare, stand.spare, ap length promises.frames, needs_joined index sessions (s ∷ []), sum_by-cons (λ (e : OpenSession). need_of index e.query.terms) (session_data s) []);
    }

-- ---- the last session goes, and then the others

abbrev pub HasChain : PoolView → Session → Type 0
HasChain pool s = IsInUse pool (chain_of s)

-- the sessions have chains in use, which differ
pub record HaveChains (pool : PoolView) (sessions : List Session) : Type 0 where
  pub used : AllByRecursion (HasChain pool) sessions
  pub differ : Differ sessions

still_used : (old new : PoolView) (s : Session) (sessions : List Session) → LeavesOthers old new (chain_of s) → AllByRecursion (AreApart s) sessions → AllByRecursion (HasChain old) sessions → AllByRecursion (HasChain new) sessions
still_used old new s [] leaves apart used = tt
still_used old new s (t ∷ sessions) leaves apart used = ((leaves (chain_of t) apart.0.chains).in_use.1 used.0, still_used old new s sessions leaves apart.1 used.1)

differ_front : (front back : List Session) → Differ (front ++ back) → Differ front
differ_front [] back differ = tt
differ_front (t ∷ front) back differ = (all_front (AreApart t) front back differ.0, differ_front front back differ.1)

pub front_used : (old new : PoolView) (sessions front : List Session) (s : Session) → sessions ≡ front ++ s ∷ [] → LeavesOthers old new (chain_of s) → HaveChains old sessions → HaveChains new front
front_used old new sessions front s is leaves have =
    let differ = subst Differ is have.differ in
    record {
      used = still_used old new s front leaves (apart_before front s [] differ) (all_front (HasChain old) front (s ∷ []) (subst (AllByRecursion (HasChain old)) is have.used));
      differ = differ_front front (s ∷ []) differ;
    }
