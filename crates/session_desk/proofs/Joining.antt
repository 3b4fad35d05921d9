-- A session joins the others of a desk.
use Rattle.shared_lemmas.proofs.Common.{◌≡◌, ℕ, ◌+◌, ◌-◌, ◌<◌, ◌≤◌, Bool, true, false, cond, List, [], ◌∷◌, ◌++◌, length, map, Option, Some, None, Result, Ok, Err, refl, sym, ap, subst, ◌∙◌, arith, leb-true, leb-false, ltb-true, map-append, sum_by-cons, count_by, is_some, nat_le, nat_lt}
use Rattle.shared_lemmas.proofs.Common.{AllByRecursion, find, list_all}
use Rattle.std.proofs.lemmas.Bool.{true≢false}
use Rattle.session_desk.proofs.Below.{IndexData, ChainEntry, PoolView, spare_of, texts_of, Plain, QueryFault, QueryRefusal, QueryWhy, Mention, named_of, unknown_of, first_broken, unless, Fails, at_line, plain_mention, blank_runs, HasFreeNumber, need_of, Session}
use Rattle.query_reader.specs.declared.refusal.QueryFault.TheVariants as faults
use Rattle.query_reader.specs.Queries as reader
use Rattle.query_reader.specs.Reading.{read_mentions}
use Rattle.query_reader.specs.Texts.{mentions_of, plain_mentions}
use Rattle.session_desk.specs.declared.refusal.DeskRefusal.{DeskRefusal}
use Rattle.session_desk.specs.declared.refusal.DeskRefusal.TheVariants.{DeskFull, NameInUse, PoolFull}
use Rattle.session_desk.specs.State.{DeskState, OpenSession, is_named, session_named, spare_frames}
use Rattle.session_desk.specs.Private.Opening.{Opens, refuses}
use Rattle.session_desk.specs.Replies.{fitting, opened_line, opened_reply, opening, query_refusal, room_refusal, unless_refused, with_opened}
use Rattle.session_desk.specs.Standing.{sessions_data, session_data}
use Rattle.session_desk.specs.Private.Standing.{Differ, SessionsStand}
use Rattle.session_desk.specs.Private.Places.{FindsName}
use Rattle.session_desk.proofs.Placing.{HasOtherName}
use Rattle.session_desk.proofs.Seating.{names_before}
use Rattle.session_desk.proofs.Showing.{found_there}
use Rattle.session_desk.specs.declared.desk_limits.TheConstants.{MOST_SESSIONS}

-- ---- a number is free

all_counted : (entries : List (Option ChainEntry)) → list_all is_some entries ≡ true → length entries ≤ count_by is_some entries
all_counted [] all = omega arith
all_counted (None ∷ entries) all = absurd (true≢false (sym all))
all_counted (Some e ∷ entries) all = omega (arith, sum_by-cons (λ (o : Option ChainEntry). cond (is_some o) 1 0) (Some e) entries, all_counted entries all)

pub number_free : (index : IndexData) (pool : PoolView) (sessions : List Session) → SessionsStand index pool sessions → length sessions < 64 → HasFreeNumber pool
number_free index pool sessions stand few = here (list_all is_some pool.chains) refl
  where
    here : (b : Bool) → list_all is_some pool.chains ≡ b → b ≡ false
    here true all = absurd (omega (arith, all_counted pool.chains all, stand.numbers, stand.in_use, few))
    here false all = refl

-- ---- there are frames

pub spare_seen : (index : IndexData) (pool : PoolView) (sessions : List Session) → SessionsStand index pool sessions
    → spare_frames index (record { sessions = sessions_data sessions; frames = length pool.frames }) ≡ spare_of pool
spare_seen index pool sessions stand = omega (arith, stand.spare)

abbrev pub session_for : reader.QueryData → ℕ → OpenSession
session_for query k = record { query = record { id = query.id; terms = query.terms; unknown = query.unknown }; k = k; granted = 0 }

fits_then : (index : IndexData) (state : DeskState) (k : ℕ) (query : reader.QueryData) → need_of index query.terms ≤ spare_frames index state → fitting index state k (Ok query) ≡ Ok (session_for query k)
fits_then index state k query room =
    ap (λ (b : Bool). cond b (let r : Result OpenSession DeskRefusal = Err (PoolFull (need_of index query.terms) (spare_frames index state)) in r) (Ok (session_for query k))) (here (nat_lt (spare_frames index state) (need_of index query.terms)) refl)
  where
    here : (b : Bool) → nat_lt (spare_frames index state) (need_of index query.terms) ≡ b → b ≡ false
    here true less = absurd (omega (arith, room, ltb-true (spare_frames index state) (need_of index query.terms) less))
    here false less = refl

pub opened_so : (index : IndexData) (state : DeskState) (k before after : ℕ) (query : reader.QueryData) → spare_frames index state ≡ before → after + need_of index query.terms ≡ before
    → opened_reply index (fitting index state k (Ok query)) ≡ opened_line query.id (before - after) query.unknown
opened_so index state k before after query spare paid = ap (opened_reply index) (fits_then index state k query (omega (arith, spare, paid)))
    ∙ ap (λ (n : ℕ). opened_line query.id n query.unknown) (let is : need_of index query.terms ≡ before - after = omega (arith, paid) in is)

pub joined_shows : (index : IndexData) (sessions : List Session) (s : Session) (k frames count before after : ℕ) (query : reader.QueryData)
    → (let state : DeskState = record { sessions = sessions_data sessions; frames = count } in spare_frames index state ≡ before) → after + need_of index query.terms ≡ before
    → session_data s ≡ session_for query k → frames ≡ count → (let new : DeskState = record { sessions = sessions_data (sessions ++ s ∷ []); frames = frames } in new)
    ≡ with_opened (record { sessions = sessions_data sessions; frames = count }) (fitting index (record { sessions = sessions_data sessions; frames = count }) k (Ok query))
joined_shows index sessions s k frames count before after query spare paid is same =
    (λ i. record { sessions = (map-append session_data sessions (s ∷ []) ∙ ap (λ e. sessions_data sessions ++ e ∷ []) is) i; frames = same i })
    ∙ ap (with_opened (record { sessions = sessions_data sessions; frames = count })) (sym (fits_then index (record { sessions = sessions_data sessions; frames = count }) k query (omega (arith, spare, paid))))

-- ---- what is judged before

pub taken_there : (sessions : List Session) (name : List ℕ) (place : Option ℕ) → FindsName sessions name place → is_some place ≡ true → Differ sessions → is_some (find (is_named name) (sessions_data sessions)) ≡ true
taken_there sessions name (Some place) at some differ =
    ap is_some (ap (λ ss. find (is_named name) (sessions_data ss)) at.parts ∙ found_there name at.front at.session at.back (names_before at.front at.session at.back name at.named (subst Differ at.parts differ)) at.named)
taken_there sessions name None at some differ = absurd (true≢false (sym some))

pub free_there : (sessions : List Session) (name : List ℕ) (place : Option ℕ) → FindsName sessions name place → is_some place ≡ false → AllByRecursion (HasOtherName name) sessions
free_there sessions name (Some place) at none = absurd (true≢false none)
free_there sessions name None others none = others

abbrev judges : Bool → Bool → Option DeskRefusal
judges taken full = cond taken (Some NameInUse) (cond full (Some DeskFull) None)

pub name_taken : (state : DeskState) (name : List ℕ) → is_some (session_named name state) ≡ true → room_refusal name state ≡ Some NameInUse
name_taken state name taken = ap (λ (b : Bool). judges b (nat_le MOST_SESSIONS (length state.sessions))) taken

pub desk_full : (state : DeskState) (name : List ℕ) → session_named name state ≡ None → 64 ≤ length state.sessions → room_refusal name state ≡ Some DeskFull
desk_full state name free many = ap (λ (b : Bool). judges b (nat_le MOST_SESSIONS (length state.sessions))) (ap is_some free) ∙ ap (judges false) (here (nat_le MOST_SESSIONS (length state.sessions)) refl)
  where
    here : (b : Bool) → nat_le MOST_SESSIONS (length state.sessions) ≡ b → b ≡ true
    here true e = refl
    here false e = absurd (omega (arith, many, leb-false 64 (length state.sessions) e))

pub room_there : (state : DeskState) (name : List ℕ) → session_named name state ≡ None → length state.sessions < 64 → room_refusal name state ≡ None
room_there state name free few = ap (λ (b : Bool). judges b (nat_le MOST_SESSIONS (length state.sessions))) (ap is_some free) ∙ ap (judges false) (here (nat_le MOST_SESSIONS (length state.sessions)) refl)
  where
    here : (b : Bool) → nat_le MOST_SESSIONS (length state.sessions) ≡ b → b ≡ false
    here true e = absurd (omega (arith, few, leb-true 64 (length state.sessions) e))
    here false e = refl

pub refused_first : (index : IndexData) (state : DeskState) (name : List ℕ) (k : ℕ) (words : List (List ℕ)) (refusal : DeskRefusal) → room_refusal name state ≡ Some refusal → opening index state name k words ≡ Err refusal
unfolding opening
refused_first index state name k words refusal is = ap (λ o. unless_refused o (fitting index state k (read_mentions (texts_of index.terms) name (map plain_mention words)))) is

pub then_fits : (index : IndexData) (state : DeskState) (name : List ℕ) (k : ℕ) (words : List (List ℕ)) → room_refusal name state ≡ None
    → opening index state name k words ≡ fitting index state k (read_mentions (texts_of index.terms) name (map plain_mention words))
unfolding opening
then_fits index state name k words is = ap (λ o. unless_refused o (fitting index state k (read_mentions (texts_of index.terms) name (map plain_mention words)))) is

-- ---- mentions

pub plain_so : (text : List ℕ) → mentions_of Plain text ≡ map plain_mention (blank_runs text)
unfolding mentions_of plain_mentions
plain_so text = refl

pub read_so : (read : Result reader.QueryData QueryWhy) (query : reader.QueryData) → at_line 1 read ≡ Ok query → read ≡ Ok query
read_so (Ok x) query is = cc
read_so (Err why) query is = cc

pub read_name : (terms : List (List ℕ)) (name : List ℕ) (mentions : List Mention) (query : reader.QueryData) → read_mentions terms name mentions ≡ Ok query → query.id ≡ name
unfolding read_mentions
read_name terms name mentions query is = here (first_broken terms [] mentions) is
  where
    here : (o : Option QueryWhy) → unless o (let q : reader.QueryData = record { id = name; terms = named_of terms mentions; unknown = unknown_of terms mentions } in q) ≡ Ok query → query.id ≡ name
    here (Some why) e = cc
    here None e = let same : (let q : reader.QueryData = record { id = name; terms = named_of terms mentions; unknown = unknown_of terms mentions } in q) ≡ query = cc in sym (ap (λ (q : reader.QueryData). q.id) same)

pub refused_so : (index : IndexData) (name : List ℕ) (state : DeskState) (k : ℕ) (read : Result reader.QueryData QueryWhy) (found : Result OpenSession DeskRefusal) (fault : QueryFault)
    → found ≡ fitting index state k read → Fails fault (at_line 1 read) → Opens index found name state state (Err (refuses fault))
refused_so index name state k (Ok query) found (faults.Refused refusal) is fails = cc
refused_so index name state k (Err why) found (faults.Refused refusal) is fails =
    let whole : (let r : QueryRefusal = record { line = 1; why = why } in r) ≡ refusal = cc in
    (is ∙ ap (λ (r : QueryRefusal). Err (query_refusal r.why)) whole, refl)
refused_so index name state k read found faults.NoMemory is fails = refl
