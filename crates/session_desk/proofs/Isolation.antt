-- A reply reads the session that its line names, and no other line changes it.
use Rattle.shared_lemmas.proofs.Common.{◌≡◌, ℕ, Bool, true, false, not, cond, List, [], ◌∷◌, ◌++◌, Option, Some, None, Result, Ok, Err, refl, sym, ap, ◌∙◌, bytes_eq-Decides, bytes_eq, is_some, find}
use Rattle.std.proofs.lemmas.Bool.{true≢false}
use Rattle.session_desk.proofs.Below.{Budget, IndexData}
use Rattle.shared_lemmas.proofs.Texts.{bytes_same}
use Rattle.session_desk.specs.declared.refusal.DeskRefusal.{DeskRefusal}
use Rattle.session_desk.specs.declared.refusal.DeskRefusal.TheVariants.{NameInUse}
use Rattle.session_desk.specs.Alone.{alone, command_closes, command_names, does_close, does_name, own_lines, own_replies}
use Rattle.session_desk.specs.Lines.{DeskCommand, Open, Grant, Top, Why, Close, End, is_end, read_desk_line}
use Rattle.session_desk.specs.Replies.{after_of, desk_after, desk_reply, opened_reply, opening, reply_of, reply_to, with_opened}
use Rattle.session_desk.specs.State.{DeskState, OpenSession, granted_more, is_named, session_named, with_named, without_named}
use Rattle.session_desk.specs.Turns.{replies_from}
use Rattle.session_desk.proofs.Joining.{name_taken, refused_first}
use Rattle.session_desk.proofs.Replying.{name_of_found}

-- ---- finding

-- a session of another name is none of this one
another : (name other : List ℕ) (e : OpenSession) → bytes_eq other name ≡ false → is_named other e ≡ true → is_named name e ≡ false
another name other e differ is = here (is_named name e) refl
  where
    here : (b : Bool) → is_named name e ≡ b → b ≡ false
    here false so = refl
    here true so = absurd (true≢false (sym ((bytes_eq-Decides other name).1 (sym (bytes_same e.query.id other is) ∙ bytes_same e.query.id name so)) ∙ differ))

found_changed : (name other : List ℕ) (budget : Budget) (sessions : List OpenSession) → bytes_eq other name ≡ false
    → find (is_named name) (with_named other (granted_more budget) sessions) ≡ find (is_named name) sessions
found_changed name other budget [] differ = refl
found_changed name other budget (e ∷ sessions) differ = here (is_named other e) refl (found_changed name other budget sessions differ)
  where
    here : (b : Bool) → is_named other e ≡ b → find (is_named name) (with_named other (granted_more budget) sessions) ≡ find (is_named name) sessions
        → cond (is_named name (cond b (granted_more budget e) e)) (Some (cond b (granted_more budget e) e)) (find (is_named name) (with_named other (granted_more budget) sessions))
        ≡ cond (is_named name e) (Some e) (find (is_named name) sessions)
    here true is later =
        let no : is_named name e ≡ false = another name other e differ is in
        ap (λ (b : Bool). cond b (Some (granted_more budget e)) (find (is_named name) (with_named other (granted_more budget) sessions))) no ∙ later ∙ sym (ap (λ (b : Bool). cond b (Some e) (find (is_named name) sessions)) no)
    here false is later = ap (λ (o : Option OpenSession). cond (is_named name e) (Some e) o) later

found_without : (name other : List ℕ) (sessions : List OpenSession) → bytes_eq other name ≡ false → find (is_named name) (without_named other sessions) ≡ find (is_named name) sessions
found_without name other [] differ = refl
found_without name other (e ∷ sessions) differ = here (is_named other e) refl (found_without name other sessions differ)
  where
    here : (b : Bool) → is_named other e ≡ b → find (is_named name) (without_named other sessions) ≡ find (is_named name) sessions
        → find (is_named name) (cond (not b) (e ∷ without_named other sessions) (without_named other sessions)) ≡ find (is_named name) (e ∷ sessions)
    here true is later = later ∙ sym (ap (λ (b : Bool). cond b (Some e) (find (is_named name) sessions)) (another name other e differ is))
    here false is later = ap (λ (o : Option OpenSession). cond (is_named name e) (Some e) o) later

found_granted : (name : List ℕ) (budget : Budget) (sessions : List OpenSession) (session : OpenSession) → find (is_named name) sessions ≡ Some session
    → find (is_named name) (with_named name (granted_more budget) sessions) ≡ Some (granted_more budget session)
found_granted name budget [] session found = cc
found_granted name budget (e ∷ sessions) session found = here (is_named name e) refl (found_granted name budget sessions session)
  where
    here : (b : Bool) → is_named name e ≡ b
        → (find (is_named name) sessions ≡ Some session → find (is_named name) (with_named name (granted_more budget) sessions) ≡ Some (granted_more budget session))
        → cond (is_named name (cond b (granted_more budget e) e)) (Some (cond b (granted_more budget e) e)) (find (is_named name) (with_named name (granted_more budget) sessions)) ≡ Some (granted_more budget session)
    here true is later =
        let so : (let o : Option OpenSession = Some e in o) ≡ Some session = ap (λ (b : Bool). cond b (Some e) (find (is_named name) sessions)) (sym is) ∙ found in
        let same : e ≡ session = cc in
        ap (λ (b : Bool). cond b (Some (granted_more budget e)) (find (is_named name) (with_named name (granted_more budget) sessions))) is ∙ ap (λ x. Some (granted_more budget x)) same
    here false is later = ap (λ (b : Bool). cond b (Some e) (find (is_named name) (with_named name (granted_more budget) sessions))) is
        ∙ later (ap (λ (b : Bool). cond b (Some e) (find (is_named name) sessions)) (sym is) ∙ found)

pub found_joined : (name : List ℕ) (sessions : List OpenSession) (other session : OpenSession) → find (is_named name) sessions ≡ Some session → find (is_named name) (sessions ++ other ∷ []) ≡ Some session
found_joined name [] other session found = cc
found_joined name (e ∷ sessions) other session found = here (is_named name e) refl (found_joined name sessions other session)
  where
    here : (b : Bool) → is_named name e ≡ b → (find (is_named name) sessions ≡ Some session → find (is_named name) (sessions ++ other ∷ []) ≡ Some session)
        → find (is_named name) ((e ∷ sessions) ++ other ∷ []) ≡ Some session
    here true is later =
        ap (λ (b : Bool). cond b (Some e) (find (is_named name) (sessions ++ other ∷ []))) is ∙ ap (λ (b : Bool). cond b (Some e) (find (is_named name) sessions)) (sym is) ∙ found
    here false is later =
        ap (λ (b : Bool). cond b (Some e) (find (is_named name) (sessions ++ other ∷ []))) is ∙ later (ap (λ (b : Bool). cond b (Some e) (find (is_named name) sessions)) (sym is) ∙ found)

-- ---- commands that name another session, or none

pub other_command : (index : IndexData) (name : List ℕ) (state : DeskState) (session : OpenSession) (command : Option DeskCommand) → command_names name command ≡ false
    → session_named name state ≡ Some session → session_named name (after_of index state command) ≡ Some session
other_command index name state session None other found = found
other_command index name state session (Some (Open n k words)) other found = here (opening index state n k words)
  where
    here : (r : Result OpenSession DeskRefusal) → session_named name (with_opened state r) ≡ Some session
    here (Ok e) = found_joined name state.sessions e session found
    here (Err refusal) = found
other_command index name state session (Some (Grant n budget)) other found = found_changed name n budget state.sessions other ∙ found
other_command index name state session (Some (Top n)) other found = found
other_command index name state session (Some (Why n)) other found = found
other_command index name state session (Some (Close n)) other found = found_without name n state.sessions other ∙ found
other_command index name state session (Some End) other found = found

-- ---- commands that name the session

-- the session after one of them
abbrev pub after_command : OpenSession → Option DeskCommand → OpenSession
after_command session (Some (Grant n budget)) = granted_more budget session
after_command session (Some other) = session
after_command session None = session

taken : (name n : List ℕ) (state : DeskState) (session : OpenSession) → bytes_eq n name ≡ true → session_named name state ≡ Some session → session_named n state ≡ Some session
taken name n state session same found = ap (λ m. session_named m state) (bytes_same n name same) ∙ found

refused : (index : IndexData) (n : List ℕ) (k : ℕ) (words : List (List ℕ)) (state : DeskState) (session : OpenSession) → session_named n state ≡ Some session → opening index state n k words ≡ Err NameInUse
refused index n k words state session found = refused_first index state n k words NameInUse (name_taken state n (ap is_some found))

pub same_reply : (index : IndexData) (name : List ℕ) (first second : DeskState) (session : OpenSession) (command : Option DeskCommand) → command_names name command ≡ true
    → session_named name first ≡ Some session → session_named name second ≡ Some session → reply_to index first command ≡ reply_to index second command
same_reply index name first second session None names a b = absurd (true≢false (sym names))
same_reply index name first second session (Some (Open n k words)) names a b =
    ap (opened_reply index) (refused index n k words first session (taken name n first session names a) ∙ sym (refused index n k words second session (taken name n second session names b)))
same_reply index name first second session (Some (Grant n budget)) names a b = ap (reply_of _) (taken name n first session names a ∙ sym (taken name n second session names b))
same_reply index name first second session (Some (Top n)) names a b = ap (reply_of _) (taken name n first session names a ∙ sym (taken name n second session names b))
same_reply index name first second session (Some (Why n)) names a b = ap (reply_of _) (taken name n first session names a ∙ sym (taken name n second session names b))
same_reply index name first second session (Some (Close n)) names a b = ap (reply_of _) (taken name n first session names a ∙ sym (taken name n second session names b))
same_reply index name first second session (Some End) names a b = absurd (true≢false (sym names))

pub own_command : (index : IndexData) (name : List ℕ) (state : DeskState) (session : OpenSession) (command : Option DeskCommand) → command_names name command ≡ true → command_closes name command ≡ false
    → session_named name state ≡ Some session → session_named name (after_of index state command) ≡ Some (after_command session command)
own_command index name state session None names stays found = absurd (true≢false (sym names))
own_command index name state session (Some (Open n k words)) names stays found = ap (λ r. session_named name (with_opened state r)) (refused index n k words state session (taken name n state session names found)) ∙ found
own_command index name state session (Some (Grant n budget)) names stays found =
    ap (λ m. find (is_named name) (with_named m (granted_more budget) state.sessions)) (bytes_same n name names) ∙ found_granted name budget state.sessions session found
own_command index name state session (Some (Top n)) names stays found = found
own_command index name state session (Some (Why n)) names stays found = found
own_command index name state session (Some (Close n)) names stays found = absurd (true≢false (sym names ∙ stays))
own_command index name state session (Some End) names stays found = absurd (true≢false (sym names))

-- ---- a desk with this session alone

pub alone_found : (name : List ℕ) (frames : ℕ) (session : OpenSession) → is_named name session ≡ true → session_named name (alone frames session) ≡ Some session
alone_found name frames session named = ap (λ (b : Bool). cond b (Some session) None) named

alone_after : (index : IndexData) (name : List ℕ) (frames : ℕ) (session : OpenSession) (command : Option DeskCommand) → is_named name session ≡ true → command_names name command ≡ true → command_closes name command ≡ false
    → after_of index (alone frames session) command ≡ alone frames (after_command session command)
alone_after index name frames session None named names stays = refl
alone_after index name frames session (Some (Open n k words)) named names stays =
    ap (with_opened (alone frames session)) (refused index n k words (alone frames session) session (taken name n (alone frames session) session names (alone_found name frames session named)))
alone_after index name frames session (Some (Grant n budget)) named names stays =
    ap (λ (b : Bool). alone frames (cond b (granted_more budget session) session)) (ap (λ m. is_named m session) (bytes_same n name names) ∙ named)
alone_after index name frames session (Some (Top n)) named names stays = refl
alone_after index name frames session (Some (Why n)) named names stays = refl
alone_after index name frames session (Some (Close n)) named names stays = absurd (true≢false (sym names ∙ stays))
alone_after index name frames session (Some End) named names stays = refl

pub still_named : (name : List ℕ) (session : OpenSession) (command : Option DeskCommand) → is_named name session ≡ true → is_named name (after_command session command) ≡ true
still_named name session None named = named
still_named name session (Some (Grant n budget)) named = named
still_named name session (Some other) named = named

closing_names : (name : List ℕ) (command : Option DeskCommand) → command_closes name command ≡ true → command_names name command ≡ true
closing_names name None closes = absurd (true≢false (sym closes))
closing_names name (Some (Close n)) closes = closes
closing_names name (Some other) closes = absurd (true≢false (sym closes))

-- ---- lines

own_replies_cons : (index : IndexData) (name : List ℕ) (state : DeskState) (line : List ℕ) (lines : List (List ℕ)) → own_replies index name state (line ∷ lines)
    ≡ cond (is_end line) [] (cond (does_close name line) (desk_reply index state line ∷ []) (cond (does_name name line) (desk_reply index state line ∷ own_replies index name (desk_after index state line) lines) (own_replies index name (desk_after index state line) lines)))
unfolding own_replies
own_replies_cons index name state line lines = refl

own_lines_cons : (name line : List ℕ) (lines : List (List ℕ))
    → own_lines name (line ∷ lines) ≡ cond (is_end line) [] (cond (does_close name line) (line ∷ []) (cond (does_name name line) (line ∷ own_lines name lines) (own_lines name lines)))
unfolding own_lines
own_lines_cons name line lines = refl

replies_none : (index : IndexData) (state : DeskState) → replies_from index state [] ≡ []
unfolding replies_from
replies_none index state = refl

replies_cons : (index : IndexData) (state : DeskState) (line : List ℕ) (lines : List (List ℕ)) → replies_from index state (line ∷ lines) ≡ desk_reply index state line ∷ cond (is_end line) [] (replies_from index (desk_after index state line) lines)
unfolding replies_from
replies_cons index state line lines = refl

replies_on : (index : IndexData) (state : DeskState) (line : List ℕ) (lines : List (List ℕ)) → is_end line ≡ false → replies_from index state (line ∷ lines) ≡ desk_reply index state line ∷ replies_from index (desk_after index state line) lines
replies_on index state line lines more = replies_cons index state line lines ∙ ap (λ (b : Bool). desk_reply index state line ∷ cond b [] (replies_from index (desk_after index state line) lines)) more

same_reply_line : (index : IndexData) (name : List ℕ) (first second : DeskState) (session : OpenSession) (line : List ℕ) → does_name name line ≡ true
    → session_named name first ≡ Some session → session_named name second ≡ Some session → desk_reply index first line ≡ desk_reply index second line
unfolding desk_reply does_name
same_reply_line index name first second session line names a b = same_reply index name first second session (read_desk_line line) names a b

pub other_line : (index : IndexData) (name : List ℕ) (state : DeskState) (session : OpenSession) (line : List ℕ) → does_name name line ≡ false → session_named name state ≡ Some session → session_named name (desk_after index state line) ≡ Some session
unfolding desk_after does_name
other_line index name state session line other found = other_command index name state session (read_desk_line line) other found

pub own_line : (index : IndexData) (name : List ℕ) (state : DeskState) (session : OpenSession) (line : List ℕ) → does_name name line ≡ true → does_close name line ≡ false
    → session_named name state ≡ Some session → session_named name (desk_after index state line) ≡ Some (after_command session (read_desk_line line))
unfolding desk_after does_name does_close
own_line index name state session line names stays found = own_command index name state session (read_desk_line line) names stays found

alone_line : (index : IndexData) (name : List ℕ) (frames : ℕ) (session : OpenSession) (line : List ℕ) → is_named name session ≡ true → does_name name line ≡ true → does_close name line ≡ false
    → desk_after index (alone frames session) line ≡ alone frames (after_command session (read_desk_line line))
unfolding desk_after does_name does_close
alone_line index name frames session line named names stays = alone_after index name frames session (read_desk_line line) named names stays

closing_line : (name line : List ℕ) → does_close name line ≡ true → does_name name line ≡ true
unfolding does_name does_close
closing_line name line closes = closing_names name (read_desk_line line) closes

none_told : (index : IndexData) (name : List ℕ) (frames : ℕ) (state : DeskState) (session : OpenSession) → own_replies index name state [] ≡ replies_from index (alone frames session) (own_lines name [])
unfolding own_replies own_lines replies_from
none_told index name frames state session = refl

-- the replies to the lines of one session are those that it would get alone
pub told_alone : (index : IndexData) (name : List ℕ) (frames : ℕ) (state : DeskState) (session : OpenSession) (lines : List (List ℕ)) → is_named name session ≡ true → session_named name state ≡ Some session
    → own_replies index name state lines ≡ replies_from index (alone frames session) (own_lines name lines)
told_alone index name frames state session [] named found = none_told index name frames state session
told_alone index name frames state session (line ∷ lines) named found = own_replies_cons index name state line lines
    ∙ here (is_end line) (does_close name line) (does_name name line) refl refl refl (λ s e. told_alone index name frames s e lines)
    ∙ ap (replies_from index (alone frames session)) (sym (own_lines_cons name line lines))
  where
    here : (e c n : Bool) → is_end line ≡ e → does_close name line ≡ c → does_name name line ≡ n
        → ((s : DeskState) (x : OpenSession) → is_named name x ≡ true → session_named name s ≡ Some x → own_replies index name s lines ≡ replies_from index (alone frames x) (own_lines name lines))
        → cond e [] (cond c (desk_reply index state line ∷ []) (cond n (desk_reply index state line ∷ own_replies index name (desk_after index state line) lines) (own_replies index name (desk_after index state line) lines)))
        ≡ replies_from index (alone frames session) (cond e [] (cond c (line ∷ []) (cond n (line ∷ own_lines name lines) (own_lines name lines))))
    here true c n a b d later = sym (replies_none index (alone frames session))
    here false true n a b d later =
        ap (λ r. r ∷ []) (same_reply_line index name state (alone frames session) session line (closing_line name line b) found (alone_found name frames session named))
        ∙ ap (λ rs. desk_reply index (alone frames session) line ∷ rs) (sym (replies_none index (desk_after index (alone frames session) line)))
        ∙ sym (replies_on index (alone frames session) line [] a)
    here false false true a b d later =
        ap (λ r. r ∷ own_replies index name (desk_after index state line) lines) (same_reply_line index name state (alone frames session) session line d found (alone_found name frames session named))
        ∙ ap (λ rs. desk_reply index (alone frames session) line ∷ rs) (
        later (desk_after index state line) (after_command session (read_desk_line line)) (still_named name session (read_desk_line line) named) (own_line index name state session line d b found)
        ∙ ap (λ s. replies_from index s (own_lines name lines)) (sym (alone_line index name frames session line named d b)))
        ∙ sym (replies_on index (alone frames session) line (own_lines name lines) a)
    here false false false a b d later = later (desk_after index state line) session named (other_line index name state session line d found)

pub has_name : (name : List ℕ) (state : DeskState) (session : OpenSession) → session_named name state ≡ Some session → is_named name session ≡ true
has_name name state session found = (bytes_eq-Decides session.query.id name).1 (name_of_found name state.sessions session found)
