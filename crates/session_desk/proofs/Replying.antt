-- What is gathered for a session is the reply.
use Rattle.shared_lemmas.proofs.Common.{◌≡◌, ℕ, Bool, true, false, cond, List, [], ◌∷◌, Option, Some, None, refl, sym, ap, ◌∙◌, bytes_eq-Decides, find, option_map}
use Rattle.session_desk.proofs.Below.{Hit, report_line, IndexData}
use Rattle.session_desk.specs.declared.told.Told.{Told}
use Rattle.session_desk.specs.Replies.{answer_lines, answer_text, reply_of, report_text, session_answer}
use Rattle.session_desk.specs.State.{DeskState, OpenSession, is_named, session_named}
use Rattle.session_desk.specs.Private.Reporting.{told_of}

-- a session that was found has the name
pub name_of_found : (name : List ℕ) (sessions : List OpenSession) (session : OpenSession) → find (is_named name) sessions ≡ Some session → session.query.id ≡ name
name_of_found name [] session is = cc
name_of_found name (e ∷ sessions) session is = here (is_named name e) refl (name_of_found name sessions session)
  where
    here : (b : Bool) → is_named name e ≡ b → (find (is_named name) sessions ≡ Some session → session.query.id ≡ name) → session.query.id ≡ name
    here true so later =
        let found : (let o : Option OpenSession = Some e in o) ≡ Some session = ap (λ (b : Bool). cond b (Some e) (find (is_named name) sessions)) (sym so) ∙ is in
        let same : e ≡ session = cc in
        ap (λ (x : OpenSession). x.query.id) (sym same) ∙ (bytes_eq-Decides e.query.id name).0 so
    here false so later = later (ap (λ (b : Bool). cond b (Some e) (find (is_named name) sessions)) (sym so) ∙ is)

-- what is told of a session that was found, perhaps changed, is its report line
pub reply_told : (index : IndexData) (name : List ℕ) (state : DeskState) (change : OpenSession → OpenSession) → ((session : OpenSession) → (change session).query.id ≡ session.query.id) → (told : Told)
    → Some told ≡ option_map (λ (session : OpenSession). told_of index (change session)) (session_named name state)
    → report_line name told.report told.unknown ≡ reply_of (λ session. report_text index (change session)) (session_named name state)
reply_told index name state change keeps told is = here (session_named name state) refl is
  where
    here : (o : Option OpenSession) → session_named name state ≡ o → Some told ≡ option_map (λ (session : OpenSession). told_of index (change session)) o
        → report_line name told.report told.unknown ≡ reply_of (λ session. report_text index (change session)) o
    here None found e = cc
    here (Some session) found e =
        let same : told ≡ told_of index (change session) = cc in
        let named : name ≡ (change session).query.id = sym (keeps session ∙ name_of_found name state.sessions session found) in
        ap (λ (t : Told). report_line name t.report t.unknown) same ∙ ap (λ n. report_line n (told_of index (change session)).report (told_of index (change session)).unknown) named

-- the answer of a session that was found
pub reply_answered : (index : IndexData) (name : List ℕ) (state : DeskState) (session : OpenSession) (hits : List Hit) → Some session ≡ session_named name state → hits ≡ session_answer index session
    → answer_lines index.names name hits ≡ reply_of (answer_text index) (session_named name state)
reply_answered index name state session hits found is = ap (answer_lines index.names name) is
    ∙ ap (λ n. answer_lines index.names n (session_answer index session)) (sym (name_of_found name state.sessions session (sym found)))
    ∙ ap (reply_of (answer_text index)) found
