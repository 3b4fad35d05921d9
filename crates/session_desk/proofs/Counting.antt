-- Each line scores what the sessions gain by it.
use Rattle.shared_lemmas.proofs.Common.{◌≡◌, ℕ, ◌+◌, ◌-◌, ◌≤◌, ◌^◌, Bool, true, false, not, cond, List, [], ◌∷◌, ◌++◌, filter, Option, Some, None, Result, Ok, Err, refl, sym, ap, subst, ◌∙◌, arith, sum_by-append, sum_by-cons, bytes_eq-Decides, ⊤, sum_by, AllByRecursion, find, option_map_or}
use Rattle.std.proofs.lemmas.Bool.{true≢false}
use Rattle.session_desk.proofs.Below.{Budget, IndexData}
use Rattle.session_desk.specs.declared.refusal.DeskRefusal.{DeskRefusal}
use Rattle.session_desk.specs.Lines.{DeskCommand, Open, Grant, Top, Why, Close, End, is_end, read_desk_line}
use Rattle.session_desk.specs.Replies.{after_of, desk_after, desk_steps, opening, session_report, steps_of, with_opened}
use Rattle.session_desk.specs.State.{DeskState, OpenSession, granted_more, is_named, new_state, with_named, without_named}
use Rattle.session_desk.specs.Turns.{desk_postings, ended_by, sessions_from, steps_from}
use Rattle.session_desk.proofs.Opened.{named_for, opened_for}

-- ---- sessions whose names differ, and whose grants stop where they do

abbrev pub Unnamed : List ℕ → OpenSession → Type 0
Unnamed name e = is_named name e ≡ false

abbrev pub Orderly : List OpenSession → Type 0
Orderly [] = ⊤
Orderly (e ∷ sessions) = (e.granted ≤ 2 ^ 64 - 1) × AllByRecursion (Unnamed e.query.id) sessions × Orderly sessions

none_of : (name : List ℕ) (sessions : List OpenSession) → find (is_named name) sessions ≡ None → AllByRecursion (Unnamed name) sessions
none_of name [] none = tt
none_of name (e ∷ sessions) none = here (is_named name e) refl (none_of name sessions)
  where
    here : (b : Bool) → is_named name e ≡ b → (find (is_named name) sessions ≡ None → AllByRecursion (Unnamed name) sessions) → (is_named name e ≡ false) × AllByRecursion (Unnamed name) sessions
    here true is later =
        let some : (let o : Option OpenSession = Some e in o) ≡ None = ap (λ (b : Bool). cond b (Some e) (find (is_named name) sessions)) (sym is) ∙ none in
        cc
    here false is later = (is, later (ap (λ (b : Bool). cond b (Some e) (find (is_named name) sessions)) (sym is) ∙ none))

unnamed_more : (name other : List ℕ) (budget : Budget) (sessions : List OpenSession) → AllByRecursion (Unnamed name) sessions → AllByRecursion (Unnamed name) (with_named other (granted_more budget) sessions)
unnamed_more name other budget [] all = tt
unnamed_more name other budget (e ∷ sessions) all = (here (is_named other e), unnamed_more name other budget sessions all.1)
  where
    here : (b : Bool) → is_named name (cond b (granted_more budget e) e) ≡ false
    here true = all.0
    here false = all.0

unnamed_less : (name other : List ℕ) (sessions : List OpenSession) → AllByRecursion (Unnamed name) sessions → AllByRecursion (Unnamed name) (without_named other sessions)
unnamed_less name other [] all = tt
unnamed_less name other (e ∷ sessions) all = here (is_named other e) (unnamed_less name other sessions all.1)
  where
    here : (b : Bool) → AllByRecursion (Unnamed name) (without_named other sessions) → AllByRecursion (Unnamed name) (cond (not b) (e ∷ without_named other sessions) (without_named other sessions))
    here true rest = rest
    here false rest = (all.0, rest)

unnamed_join : (name : List ℕ) (sessions : List OpenSession) (session : OpenSession) → AllByRecursion (Unnamed name) sessions → is_named name session ≡ false → AllByRecursion (Unnamed name) (sessions ++ session ∷ [])
unnamed_join name [] session all other = (other, tt)
unnamed_join name (e ∷ sessions) session all other = (all.0, unnamed_join name sessions session all.1 other)

turned : (first second : OpenSession) → is_named second.query.id first ≡ false → is_named first.query.id second ≡ false
turned first second other = here (is_named first.query.id second) refl
  where
    here : (b : Bool) → is_named first.query.id second ≡ b → b ≡ false
    here false is = refl
    here true is =
        absurd (true≢false (sym ((bytes_eq-Decides first.query.id second.query.id).1 (sym ((bytes_eq-Decides second.query.id first.query.id).0 is))) ∙ other))

orderly_more : (name : List ℕ) (budget : Budget) (sessions : List OpenSession) → Orderly sessions → Orderly (with_named name (granted_more budget) sessions)
orderly_more name budget [] orderly = tt
orderly_more name budget (e ∷ sessions) orderly = here (is_named name e) (unnamed_more e.query.id name budget sessions orderly.1) (orderly_more name budget sessions orderly.2)
  where
    here : (b : Bool) → AllByRecursion (Unnamed e.query.id) (with_named name (granted_more budget) sessions) → Orderly (with_named name (granted_more budget) sessions)
        → Orderly (cond b (granted_more budget e) e ∷ with_named name (granted_more budget) sessions)
    here true others more = (omega arith, others, more)
    here false others more = (orderly.0, others, more)

orderly_less : (name : List ℕ) (sessions : List OpenSession) → Orderly sessions → Orderly (without_named name sessions)
orderly_less name [] orderly = tt
orderly_less name (e ∷ sessions) orderly = here (is_named name e) (unnamed_less e.query.id name sessions orderly.1) (orderly_less name sessions orderly.2)
  where
    here : (b : Bool) → AllByRecursion (Unnamed e.query.id) (without_named name sessions) → Orderly (without_named name sessions) → Orderly (cond (not b) (e ∷ without_named name sessions) (without_named name sessions))
    here true others less = less
    here false others less = (orderly.0, others, less)

orderly_join : (sessions : List OpenSession) (session : OpenSession) → Orderly sessions → session.granted ≤ 2 ^ 64 - 1 → AllByRecursion (Unnamed session.query.id) sessions → Orderly (sessions ++ session ∷ [])
orderly_join [] session orderly most none = (most, tt, tt)
orderly_join (e ∷ sessions) session orderly most none =
    (orderly.0, unnamed_join e.query.id sessions session orderly.1 (turned e session none.0), orderly_join sessions session orderly.2 most none.1)

-- ---- sums over sessions

with_unnamed : (name : List ℕ) (change : OpenSession → OpenSession) (sessions : List OpenSession) → AllByRecursion (Unnamed name) sessions → with_named name change sessions ≡ sessions
with_unnamed name change [] all = refl
with_unnamed name change (e ∷ sessions) all = ap (λ (b : Bool). cond b (change e) e ∷ with_named name change sessions) all.0 ∙ ap (λ es. e ∷ es) (with_unnamed name change sessions all.1)

module _ (p : OpenSession → ℕ) where
  sum_more : (rises : (e : OpenSession) (budget : Budget) → e.granted ≤ 2 ^ 64 - 1 → p e ≤ p (granted_more budget e)) (name : List ℕ) (budget : Budget) (sessions : List OpenSession) → Orderly sessions
      → sum_by p (with_named name (granted_more budget) sessions) ≡ sum_by p sessions + option_map_or (λ (e : OpenSession). p (granted_more budget e) - p e) (find (is_named name) sessions) 0
  sum_more rises name budget [] orderly = omega arith
  sum_more rises name budget (e ∷ sessions) orderly = here (is_named name e) refl (sum_more rises name budget sessions orderly.2)
    where
      here : (b : Bool) → is_named name e ≡ b
          → sum_by p (with_named name (granted_more budget) sessions) ≡ sum_by p sessions + option_map_or (λ (x : OpenSession). p (granted_more budget x) - p x) (find (is_named name) sessions) 0
          → sum_by p (with_named name (granted_more budget) (e ∷ sessions)) ≡ sum_by p (e ∷ sessions) + option_map_or (λ (x : OpenSession). p (granted_more budget x) - p x) (find (is_named name) (e ∷ sessions)) 0
      here true is later =
          let named : e.query.id ≡ name = (bytes_eq-Decides e.query.id name).0 is in
          let others : with_named name (granted_more budget) sessions ≡ sessions = with_unnamed name (granted_more budget) sessions (subst (λ n. AllByRecursion (Unnamed n) sessions) named orderly.1) in
          let first : with_named name (granted_more budget) (e ∷ sessions) ≡ granted_more budget e ∷ sessions
          = ap (λ (b : Bool). cond b (granted_more budget e) e ∷ with_named name (granted_more budget) sessions) is ∙ ap (λ es. granted_more budget e ∷ es) others in
          let found : find (is_named name) (e ∷ sessions) ≡ Some e = ap (λ (b : Bool). cond b (Some e) (find (is_named name) sessions)) is in
          omega (
            arith,
            ap (sum_by p) first,
            sum_by-cons p (granted_more budget e) sessions,
            sum_by-cons p e sessions,
            ap (λ (o : Option OpenSession). option_map_or (λ (x : OpenSession). p (granted_more budget x) - p x) o 0) found,
            rises e budget orderly.0,
          )
      here false is later =
          let first : with_named name (granted_more budget) (e ∷ sessions) ≡ e ∷ with_named name (granted_more budget) sessions
          = ap (λ (b : Bool). cond b (granted_more budget e) e ∷ with_named name (granted_more budget) sessions) is in
          let found : find (is_named name) (e ∷ sessions) ≡ find (is_named name) sessions = ap (λ (b : Bool). cond b (Some e) (find (is_named name) sessions)) is in
          omega (
            arith,
            later,
            ap (sum_by p) first,
            sum_by-cons p e (with_named name (granted_more budget) sessions),
            sum_by-cons p e sessions,
            ap (λ (o : Option OpenSession). option_map_or (λ (x : OpenSession). p (granted_more budget x) - p x) o 0) found,
          )

  sum_less : (name : List ℕ) (sessions : List OpenSession) → sum_by p (filter (is_named name) sessions) + sum_by p (without_named name sessions) ≡ sum_by p sessions
  sum_less name [] = omega arith
  sum_less name (e ∷ sessions) = here (is_named name e) (sum_less name sessions)
    where
      here : (b : Bool) → sum_by p (filter (is_named name) sessions) + sum_by p (without_named name sessions) ≡ sum_by p sessions
          → sum_by p (cond b (e ∷ filter (is_named name) sessions) (filter (is_named name) sessions)) + sum_by p (cond (not b) (e ∷ without_named name sessions) (without_named name sessions)) ≡ sum_by p (e ∷ sessions)
      here true later = omega (arith, later, sum_by-cons p e (filter (is_named name) sessions), sum_by-cons p e sessions)
      here false later = omega (arith, later, sum_by-cons p e (without_named name sessions), sum_by-cons p e sessions)

-- ---- a line, and lines

abbrev all_scored : IndexData → List OpenSession → ℕ
all_scored index sessions = sum_by (λ (e : OpenSession). (session_report index e).postings) sessions

abbrev pub Rises : IndexData → Type 0
Rises index = (e : OpenSession) (budget : Budget) → e.granted ≤ 2 ^ 64 - 1 → (session_report index e).postings ≤ (session_report index (granted_more budget e)).postings

abbrev pub IsPaid : IndexData → Type 0
IsPaid index = (e : OpenSession) → (session_report index e).postings ≤ e.granted

command_counts : (index : IndexData) → Rises index → IsPaid index → (state : DeskState) (command : Option DeskCommand) → Orderly state.sessions
    → steps_of index state command + all_scored index state.sessions ≡ all_scored index (ended_by state command) + all_scored index (after_of index state command).sessions
command_counts index rises paid state None orderly = omega arith
command_counts index rises paid state (Some (Open name k words)) orderly = here (opening index state name k words) refl
  where
    here : (r : Result OpenSession DeskRefusal) → opening index state name k words ≡ r → 0 + all_scored index state.sessions ≡ all_scored index [] + all_scored index (with_opened state r).sessions
    here (Ok session) is =
        let p = λ (e : OpenSession). (session_report index e).postings in
        let none : session.granted ≡ 0 = ap (λ (e : OpenSession). e.granted) (opened_for index state name k words session is).is in
        omega (arith, sum_by-append p state.sessions (session ∷ []), sum_by-cons p session [], paid session, none)
    here (Err refusal) is = omega arith
command_counts index rises paid state (Some (Grant name budget)) orderly = omega (arith, sum_more (λ (e : OpenSession). (session_report index e).postings) rises name budget state.sessions orderly)
command_counts index rises paid state (Some (Top name)) orderly = omega arith
command_counts index rises paid state (Some (Why name)) orderly = omega arith
command_counts index rises paid state (Some (Close name)) orderly = omega (arith, sum_less (λ (e : OpenSession). (session_report index e).postings) name state.sessions)
command_counts index rises paid state (Some End) orderly = omega arith

command_orderly : (index : IndexData) (state : DeskState) (command : Option DeskCommand) → Orderly state.sessions → Orderly (after_of index state command).sessions
command_orderly index state None orderly = orderly
command_orderly index state (Some (Open name k words)) orderly = here (opening index state name k words) refl
  where
    here : (r : Result OpenSession DeskRefusal) → opening index state name k words ≡ r → Orderly (with_opened state r).sessions
    here (Ok session) is =
        let opened = opened_for index state name k words session is in
        let named : session.query.id ≡ name = named_for index state name k words session opened in
        orderly_join state.sessions session orderly (omega (arith, ap (λ (e : OpenSession). e.granted) opened.is)) (subst (λ n. AllByRecursion (Unnamed n) state.sessions) (sym named) (none_of name state.sessions opened.free))
    here (Err refusal) is = orderly
command_orderly index state (Some (Grant name budget)) orderly = orderly_more name budget state.sessions orderly
command_orderly index state (Some (Top name)) orderly = orderly
command_orderly index state (Some (Why name)) orderly = orderly
command_orderly index state (Some (Close name)) orderly = orderly_less name state.sessions orderly
command_orderly index state (Some End) orderly = orderly

line_counts : (index : IndexData) → Rises index → IsPaid index → (state : DeskState) (line : List ℕ) → Orderly state.sessions
    → desk_steps index state line + all_scored index state.sessions ≡ all_scored index (ended_by state (read_desk_line line)) + all_scored index (desk_after index state line).sessions
unfolding desk_steps desk_after
line_counts index rises paid state line orderly = command_counts index rises paid state (read_desk_line line) orderly

line_orderly : (index : IndexData) (state : DeskState) (line : List ℕ) → Orderly state.sessions → Orderly (desk_after index state line).sessions
unfolding desk_after
line_orderly index state line orderly = command_orderly index state (read_desk_line line) orderly

steps_cons : (index : IndexData) (state : DeskState) (line : List ℕ) (lines : List (List ℕ)) → steps_from index state (line ∷ lines) ≡ desk_steps index state line + cond (is_end line) 0 (steps_from index (desk_after index state line) lines)
unfolding steps_from
steps_cons index state line lines = refl

sessions_cons : (index : IndexData) (state : DeskState) (line : List ℕ) (lines : List (List ℕ))
    → sessions_from index state (line ∷ lines) ≡ ended_by state (read_desk_line line) ++ cond (is_end line) (desk_after index state line).sessions (sessions_from index (desk_after index state line) lines)
unfolding sessions_from
sessions_cons index state line lines = refl

none_counted : (index : IndexData) (state : DeskState) → steps_from index state [] + all_scored index state.sessions ≡ all_scored index (sessions_from index state [])
unfolding steps_from sessions_from
none_counted index state = omega arith

lines_count : (index : IndexData) → Rises index → IsPaid index → (state : DeskState) (lines : List (List ℕ)) → Orderly state.sessions → steps_from index state lines + all_scored index state.sessions ≡ all_scored index (sessions_from index state lines)
lines_count index rises paid state [] orderly = none_counted index state
lines_count index rises paid state (line ∷ lines) orderly = here (is_end line) refl (lines_count index rises paid (desk_after index state line) lines (line_orderly index state line orderly))
  where
    here : (b : Bool) → is_end line ≡ b → steps_from index (desk_after index state line) lines + all_scored index (desk_after index state line).sessions ≡ all_scored index (sessions_from index (desk_after index state line) lines)
        → steps_from index state (line ∷ lines) + all_scored index state.sessions ≡ all_scored index (sessions_from index state (line ∷ lines))
    here b is later = joins b
        (steps_cons index state line lines ∙ ap (λ (e : Bool). desk_steps index state line + cond e 0 (steps_from index (desk_after index state line) lines)) is)
        (ap (all_scored index) (sessions_cons index state line lines ∙ ap (λ (e : Bool). ended_by state (read_desk_line line) ++ cond e (desk_after index state line).sessions (sessions_from index (desk_after index state line) lines)) is))
        later
      where
        joins : (b : Bool) → steps_from index state (line ∷ lines) ≡ desk_steps index state line + cond b 0 (steps_from index (desk_after index state line) lines)
            → all_scored index (sessions_from index state (line ∷ lines)) ≡ all_scored index (ended_by state (read_desk_line line) ++ cond b (desk_after index state line).sessions (sessions_from index (desk_after index state line) lines))
            → steps_from index (desk_after index state line) lines + all_scored index (desk_after index state line).sessions ≡ all_scored index (sessions_from index (desk_after index state line) lines)
            → steps_from index state (line ∷ lines) + all_scored index state.sessions ≡ all_scored index (sessions_from index state (line ∷ lines))
        joins true first second later =
            omega (arith, first, second, line_counts index rises paid state line orderly, sum_by-append (λ (e : OpenSession). (session_report index e).postings) (ended_by state (read_desk_line line)) (desk_after index state line).sessions)
        joins false first second later = omega (
          arith,
          first,
          second,
          later,
          line_counts index rises paid state line orderly,
          sum_by-append (λ (e : OpenSession). (session_report index e).postings) (ended_by state (read_desk_line line)) (sessions_from index (desk_after index state line) lines),
        )

pub all_counted : (index : IndexData) → Rises index → IsPaid index → (frames : ℕ) (lines : List (List ℕ)) → desk_postings index frames lines ≡ all_scored index (sessions_from index (new_state frames) lines)
unfolding desk_postings
all_counted index rises paid frames lines = omega (arith, lines_count index rises paid (new_state frames) lines tt)
