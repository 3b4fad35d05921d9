-- What was opened, and that it is found.
use Rattle.shared_lemmas.proofs.Common.{◌≡◌, ℕ, Bool, true, false, cond, List, [], ◌∷◌, ◌++◌, map, Option, Some, None, Result, Ok, Err, refl, sym, ap, ◌∙◌, bytes_eq-Decides, is_some, nat_le, nat_lt, length, find}
use Rattle.session_desk.proofs.Below.{IndexData, texts_of, QueryWhy, read_mentions, plain_mention, need_of}
use Rattle.query_reader.specs.Queries as reader
use Rattle.session_desk.specs.declared.refusal.DeskRefusal.{DeskRefusal}
use Rattle.session_desk.specs.declared.refusal.DeskRefusal.TheVariants.{DeskFull, NameInUse, PoolFull}
use Rattle.session_desk.specs.Lines.{DeskCommand, Open, read_desk_line}
use Rattle.session_desk.specs.Replies.{after_of, desk_after, fitting, opening, room_refusal, unless_refused, with_opened}
use Rattle.session_desk.specs.State.{DeskState, OpenSession, is_named, session_named, spare_frames}
use Rattle.session_desk.proofs.Joining.{session_for, read_name}
use Rattle.session_desk.specs.declared.desk_limits.TheConstants.{MOST_SESSIONS}

-- the mentions that a session was opened for
pub record OpenedFor (index : IndexData) (state : DeskState) (name : List ℕ) (k : ℕ) (words : List (List ℕ)) (session : OpenSession) : Type 0 where
  pub query : reader.QueryData
  pub read : read_mentions (texts_of index.terms) name (map plain_mention words) ≡ Ok query
  pub is : session ≡ session_for query k
  pub free : session_named name state ≡ None

fitted : (index : IndexData) (state : DeskState) (k : ℕ) (read : Result reader.QueryData QueryWhy) (session : OpenSession) → fitting index state k read ≡ Ok session → (query : reader.QueryData) × (read ≡ Ok query) × (session ≡ session_for query k)
fitted index state k (Err why) session is = cc
fitted index state k (Ok query) session is = (query, refl, here (nat_lt (spare_frames index state) (need_of index query.terms)) is)
  where
    here : (b : Bool) → cond b (let r : Result OpenSession DeskRefusal = Err (PoolFull (need_of index query.terms) (spare_frames index state)) in r) (Ok (session_for query k)) ≡ Ok session → session ≡ session_for query k
    here true e = cc
    here false e = let same : session_for query k ≡ session = cc in sym same

unrefused : (first : Option DeskRefusal) (found : Result OpenSession DeskRefusal) (session : OpenSession) → unless_refused first found ≡ Ok session → (first ≡ None) × (found ≡ Ok session)
unrefused None found session is = (refl, is)
unrefused (Some refusal) found session is = cc

unnamed : (name : List ℕ) (state : DeskState) → room_refusal name state ≡ None → session_named name state ≡ None
unnamed name state none = here (session_named name state) refl
  where
    here : (o : Option OpenSession) → session_named name state ≡ o → o ≡ None
    here None is = refl
    here (Some e) is =
        let refused : (let r : Option DeskRefusal = Some NameInUse in r) ≡ None
        = ap (λ (b : Bool). cond b (Some NameInUse) (cond (nat_le MOST_SESSIONS (length state.sessions)) (Some DeskFull) None)) (sym (ap is_some is)) ∙ none in
        cc

pub opened_for : (index : IndexData) (state : DeskState) (name : List ℕ) (k : ℕ) (words : List (List ℕ)) (session : OpenSession) → opening index state name k words ≡ Ok session → OpenedFor index state name k words session
unfolding opening
opened_for index state name k words session is =
    let passed = unrefused (room_refusal name state) (fitting index state k (read_mentions (texts_of index.terms) name (map plain_mention words))) session is in
    let fits = fitted index state k (read_mentions (texts_of index.terms) name (map plain_mention words)) session passed.1 in
    record { query = fits.0; read = fits.1; is = fits.2; free = unnamed name state passed.0 }

pub named_for : (index : IndexData) (state : DeskState) (name : List ℕ) (k : ℕ) (words : List (List ℕ)) (session : OpenSession) → OpenedFor index state name k words session → session.query.id ≡ name
named_for index state name k words session opened = ap (λ (e : OpenSession). e.query.id) opened.is ∙ read_name (texts_of index.terms) name (map plain_mention words) opened.query opened.read

found_last : (name : List ℕ) (sessions : List OpenSession) (session : OpenSession) → find (is_named name) sessions ≡ None → is_named name session ≡ true → find (is_named name) (sessions ++ session ∷ []) ≡ Some session
found_last name [] session none named = ap (λ (b : Bool). cond b (Some session) None) named
found_last name (e ∷ sessions) session none named = here (is_named name e) refl (λ h. found_last name sessions session h named)
  where
    here : (b : Bool) → is_named name e ≡ b → (find (is_named name) sessions ≡ None → find (is_named name) (sessions ++ session ∷ []) ≡ Some session) → find (is_named name) ((e ∷ sessions) ++ session ∷ []) ≡ Some session
    here true is later =
        let some : (let o : Option OpenSession = Some e in o) ≡ None = ap (λ (b : Bool). cond b (Some e) (find (is_named name) sessions)) (sym is) ∙ none in
        cc
    here false is later =
        ap (λ (b : Bool). cond b (Some e) (find (is_named name) (sessions ++ session ∷ []))) is ∙ later (ap (λ (b : Bool). cond b (Some e) (find (is_named name) sessions)) (sym is) ∙ none)

pub found_opened : (index : IndexData) (state : DeskState) (line name : List ℕ) (k : ℕ) (words : List (List ℕ)) (session : OpenSession) → read_desk_line line ≡ Some (Open name k words) → opening index state name k words ≡ Ok session
    → session_named name (desk_after index state line) ≡ Some session
unfolding desk_after
found_opened index state line name k words session read is =
    let opened = opened_for index state name k words session is in let named = named_for index state name k words session opened in
    ap (λ (o : Option DeskCommand). session_named name (after_of index state o)) read ∙ ap (λ r. session_named name (with_opened state r)) is
    ∙ found_last name state.sessions session opened.free ((bytes_eq-Decides session.query.id name).1 named)

pub opened_alike : (index : IndexData) (first second : DeskState) (name : List ℕ) (k : ℕ) (words others : List (List ℕ)) (session other : OpenSession) → map plain_mention words ≡ map plain_mention others
    → opening index first name k words ≡ Ok session → opening index second name k others ≡ Ok other → session ≡ other
opened_alike index first second name k words others session other mentions a b =
    let one = opened_for index first name k words session a in let two = opened_for index second name k others other b in
    let read : (let r : Result reader.QueryData QueryWhy = Ok one.query in r) ≡ Ok two.query = sym one.read ∙ ap (read_mentions (texts_of index.terms) name) mentions ∙ two.read in
    let same : one.query ≡ two.query = cc in
    one.is ∙ ap (λ q. session_for q k) same ∙ sym two.is

pub none_granted : (index : IndexData) (state : DeskState) (name : List ℕ) (k : ℕ) (words : List (List ℕ)) (session : OpenSession) → opening index state name k words ≡ Ok session → session.granted ≡ 0
none_granted index state name k words session is = ap (λ (e : OpenSession). e.granted) (opened_for index state name k words session is).is
