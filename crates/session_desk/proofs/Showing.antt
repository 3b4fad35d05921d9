-- What a desk shows of its sessions as one of them changes, goes or joins.
use Rattle.shared_lemmas.proofs.Common.{◌≡◌, ◌≢◌, ℕ, Bool, true, false, not, cond, List, [], ◌∷◌, ◌++◌, Some, None, refl, sym, ap, ◌∙◌, bytes_eq-Decides, AllByRecursion, find}
use Rattle.session_engine.specs.declared.session.Session.{Session}
use Rattle.session_desk.specs.State.{OpenSession, is_named, with_named, without_named}
use Rattle.session_desk.specs.Standing.{sessions_data, session_data}
use Rattle.session_desk.specs.Private.Standing.{name_of}
use Rattle.session_desk.proofs.Placing.{HasOtherName}

pub named_so : (name : List ℕ) (s : Session) → name_of s ≡ name → is_named name (session_data s) ≡ true
named_so name s named = (bytes_eq-Decides (name_of s) name).1 named

pub named_otherwise : (name : List ℕ) (s : Session) → name_of s ≢ name → is_named name (session_data s) ≡ false
named_otherwise name s other = here (is_named name (session_data s)) refl
  where
    here : (b : Bool) → is_named name (session_data s) ≡ b → b ≡ false
    here true e = absurd (other ((bytes_eq-Decides (name_of s) name).0 e))
    here false e = refl

-- the session of a name is found
pub found_there : (name : List ℕ) (front : List Session) (s : Session) (back : List Session) → AllByRecursion (HasOtherName name) front → name_of s ≡ name
    → find (is_named name) (sessions_data (front ++ s ∷ back)) ≡ Some (session_data s)
found_there name [] s back before named = ap (λ (b : Bool). cond b (Some (session_data s)) (find (is_named name) (sessions_data back))) (named_so name s named)
found_there name (t ∷ front) s back before named =
    ap (λ (b : Bool). cond b (Some (session_data t)) (find (is_named name) (sessions_data (front ++ s ∷ back)))) (named_otherwise name t before.0) ∙ found_there name front s back before.1 named

pub found_nowhere : (name : List ℕ) (sessions : List Session) → AllByRecursion (HasOtherName name) sessions → find (is_named name) (sessions_data sessions) ≡ None
found_nowhere name [] others = refl
found_nowhere name (t ∷ sessions) others =
    ap (λ (b : Bool). cond b (Some (session_data t)) (find (is_named name) (sessions_data sessions))) (named_otherwise name t others.0) ∙ found_nowhere name sessions others.1

-- sessions of other names stay
pub stays_with : (name : List ℕ) (change : OpenSession → OpenSession) (sessions : List Session) → AllByRecursion (HasOtherName name) sessions → with_named name change (sessions_data sessions) ≡ sessions_data sessions
stays_with name change [] others = refl
stays_with name change (t ∷ sessions) others =
    ap (λ (b : Bool). cond b (change (session_data t)) (session_data t) ∷ with_named name change (sessions_data sessions)) (named_otherwise name t others.0)
    ∙ ap (λ es. session_data t ∷ es) (stays_with name change sessions others.1)

pub stays_without : (name : List ℕ) (sessions : List Session) → AllByRecursion (HasOtherName name) sessions → without_named name (sessions_data sessions) ≡ sessions_data sessions
stays_without name [] others = refl
stays_without name (t ∷ sessions) others =
    ap (λ (b : Bool). cond (not b) (session_data t ∷ without_named name (sessions_data sessions)) (without_named name (sessions_data sessions))) (named_otherwise name t others.0)
    ∙ ap (λ es. session_data t ∷ es) (stays_without name sessions others.1)

-- the one of the name changes
pub changes_there : (name : List ℕ) (change : OpenSession → OpenSession) (front : List Session) (s t : Session) (back : List Session) → AllByRecursion (HasOtherName name) front → name_of s ≡ name
    → AllByRecursion (HasOtherName name) back → session_data t ≡ change (session_data s) → sessions_data (front ++ t ∷ back) ≡ with_named name change (sessions_data (front ++ s ∷ back))
changes_there name change [] s t back before named behind changed =
    ap (λ e. e ∷ sessions_data back) changed ∙ ap (λ es. change (session_data s) ∷ es) (sym (stays_with name change back behind))
    ∙ sym (ap (λ (b : Bool). cond b (change (session_data s)) (session_data s) ∷ with_named name change (sessions_data back)) (named_so name s named))
changes_there name change (u ∷ front) s t back before named behind changed =
    ap (λ es. session_data u ∷ es) (changes_there name change front s t back before.1 named behind changed)
    ∙ sym (ap (λ (b : Bool). cond b (change (session_data u)) (session_data u) ∷ with_named name change (sessions_data (front ++ s ∷ back))) (named_otherwise name u before.0))

-- the one of the name goes
pub goes_there : (name : List ℕ) (front : List Session) (s : Session) (back : List Session) → AllByRecursion (HasOtherName name) front → name_of s ≡ name
    → AllByRecursion (HasOtherName name) back → sessions_data (front ++ back) ≡ without_named name (sessions_data (front ++ s ∷ back))
goes_there name [] s back before named behind =
    sym (ap (λ (b : Bool). cond (not b) (session_data s ∷ without_named name (sessions_data back)) (without_named name (sessions_data back))) (named_so name s named) ∙ stays_without name back behind)
goes_there name (u ∷ front) s back before named behind = ap (λ es. session_data u ∷ es) (goes_there name front s back before.1 named behind)
    ∙ sym (ap (λ (b : Bool). cond (not b) (session_data u ∷ without_named name (sessions_data (front ++ s ∷ back))) (without_named name (sessions_data (front ++ s ∷ back)))) (named_otherwise name u before.0))
