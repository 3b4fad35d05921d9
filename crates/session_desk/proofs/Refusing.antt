-- A refused line changes nothing.
use Rattle.shared_lemmas.proofs.Common.{◌≡◌, ℕ, Bool, true, false, not, cond, List, [], ◌∷◌, Option, Some, None, Result, Ok, Err, refl, sym, ap, ◌∙◌, find, option_map_or, result_err}
use Rattle.index_model.specs.Index.{IndexData}
use Rattle.session_desk.specs.declared.refusal.DeskRefusal.{DeskRefusal}
use Rattle.session_desk.specs.declared.refusal.DeskRefusal.TheVariants.{BadLine, UnknownSession}
use Rattle.session_desk.specs.Lines.{DeskCommand, Open, Grant, Top, Why, Close, End, read_desk_line}
use Rattle.session_desk.specs.Replies.{after_of, desk_after, desk_refusal, desk_reply, desk_steps, newly_scored, opened_reply, opening, refusal_line, refusal_of, reply_of, reply_to, steps_of, unknown_refusal, with_opened}
use Rattle.session_desk.specs.State.{DeskState, OpenSession, is_named, session_named, with_named, without_named}

-- ---- no session has the name

none_found : {P : Type 0} (name : List ℕ) (e : OpenSession) (sessions : List OpenSession) → find (is_named name) (e ∷ sessions) ≡ None → (is_named name e ≡ false → find (is_named name) sessions ≡ None → P) → P
none_found {P} name e sessions none next = here (is_named name e) refl
  where
    here : (b : Bool) → is_named name e ≡ b → P
    here true is =
        let some : (let o : Option OpenSession = Some e in o) ≡ None = ap (λ (b : Bool). cond b (Some e) (find (is_named name) sessions)) (sym is) ∙ none in
        cc
    here false is = next is (ap (λ (b : Bool). cond b (Some e) (find (is_named name) sessions)) (sym is) ∙ none)

pub with_none : (name : List ℕ) (change : OpenSession → OpenSession) (sessions : List OpenSession) → find (is_named name) sessions ≡ None → with_named name change sessions ≡ sessions
with_none name change [] none = refl
with_none name change (e ∷ sessions) none = none_found name e sessions none (λ is rest. ap (λ (b : Bool). cond b (change e) e ∷ with_named name change sessions) is ∙ ap (λ es. e ∷ es) (with_none name change sessions rest))

pub without_none : (name : List ℕ) (sessions : List OpenSession) → find (is_named name) sessions ≡ None → without_named name sessions ≡ sessions
without_none name [] none = refl
without_none name (e ∷ sessions) none =
    none_found name e sessions none (λ is rest. ap (λ (b : Bool). cond (not b) (e ∷ without_named name sessions) (without_named name sessions)) is ∙ ap (λ es. e ∷ es) (without_none name sessions rest))

-- ---- refusals

opening_refused : (found : Result OpenSession DeskRefusal) (refusal : DeskRefusal) → result_err found ≡ Some refusal → found ≡ Err refusal
opening_refused (Ok session) refusal is = cc
opening_refused (Err other) refusal is = let same : other ≡ refusal = cc in ap (λ r. Err r) same

unknown : (found : Option OpenSession) (refusal : DeskRefusal) → unknown_refusal found ≡ Some refusal → (found ≡ None) × (UnknownSession ≡ refusal)
unknown (Some session) refusal is = cc
unknown None refusal is = (refl, cc)

unknown_reply : (text : OpenSession → List ℕ) (found : Option OpenSession) (refusal : DeskRefusal) → unknown_refusal found ≡ Some refusal → reply_of text found ≡ refusal_line refusal
unknown_reply text found refusal is = let no = unknown found refusal is in ap (reply_of text) no.0 ∙ ap refusal_line no.1

command_replied : (index : IndexData) (state : DeskState) (command : Option DeskCommand) (refusal : DeskRefusal) → refusal_of index state command ≡ Some refusal → reply_to index state command ≡ refusal_line refusal
command_replied index state None refusal is = let same : BadLine ≡ refusal = cc in ap refusal_line same
command_replied index state (Some (Open name k words)) refusal is = ap (opened_reply index) (opening_refused (opening index state name k words) refusal is)
command_replied index state (Some (Grant name budget)) refusal is = unknown_reply _ (session_named name state) refusal is
command_replied index state (Some (Top name)) refusal is = unknown_reply _ (session_named name state) refusal is
command_replied index state (Some (Why name)) refusal is = unknown_reply _ (session_named name state) refusal is
command_replied index state (Some (Close name)) refusal is = unknown_reply _ (session_named name state) refusal is
command_replied index state (Some End) refusal is = cc

command_left : (index : IndexData) (state : DeskState) (command : Option DeskCommand) (refusal : DeskRefusal) → refusal_of index state command ≡ Some refusal → after_of index state command ≡ state
command_left index state None refusal is = refl
command_left index state (Some (Open name k words)) refusal is = ap (with_opened state) (opening_refused (opening index state name k words) refusal is)
command_left index state (Some (Grant name budget)) refusal is = ap (λ es. record state { sessions = es }) (with_none name _ state.sessions (unknown (session_named name state) refusal is).0)
command_left index state (Some (Top name)) refusal is = refl
command_left index state (Some (Why name)) refusal is = refl
command_left index state (Some (Close name)) refusal is = ap (λ es. record state { sessions = es }) (without_none name state.sessions (unknown (session_named name state) refusal is).0)
command_left index state (Some End) refusal is = refl

command_unpaid : (index : IndexData) (state : DeskState) (command : Option DeskCommand) (refusal : DeskRefusal) → refusal_of index state command ≡ Some refusal → steps_of index state command ≡ 0
command_unpaid index state None refusal is = refl
command_unpaid index state (Some (Grant name budget)) refusal is = ap (λ (o : Option OpenSession). option_map_or (newly_scored index budget) o 0) (unknown (session_named name state) refusal is).0
command_unpaid index state (Some other) refusal is = refl

pub line_replied : (index : IndexData) (state : DeskState) (line : List ℕ) (refusal : DeskRefusal) → desk_refusal index state line ≡ Some refusal → desk_reply index state line ≡ refusal_line refusal
unfolding desk_refusal desk_reply
line_replied index state line refusal is = command_replied index state (read_desk_line line) refusal is

pub line_left : (index : IndexData) (state : DeskState) (line : List ℕ) (refusal : DeskRefusal) → desk_refusal index state line ≡ Some refusal → desk_after index state line ≡ state
unfolding desk_refusal desk_after
line_left index state line refusal is = command_left index state (read_desk_line line) refusal is

pub line_unpaid : (index : IndexData) (state : DeskState) (line : List ℕ) (refusal : DeskRefusal) → desk_refusal index state line ≡ Some refusal → desk_steps index state line ≡ 0
unfolding desk_refusal desk_steps
line_unpaid index state line refusal is = command_unpaid index state (read_desk_line line) refusal is
