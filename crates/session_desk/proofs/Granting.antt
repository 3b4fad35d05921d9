-- A session at a place of a desk, and what it shows after a grant.
use Rattle.std.proofs.Common.{◌≡◌, ℕ, ◌+◌, ◌-◌, ◌≤◌, List, [], ◌∷◌, ◌++◌, length, get_or, Some, None, refl, sym, ap, subst, ◌∙◌, arith}
use Rattle.shared_lemmas.proofs.Lists.{all_back}
use Rattle.std.specs.List.{AllByRecursion, find, remove, slice_set}
use Rattle.session_desk.proofs.Below.{Budget, Report, IndexData, granted_with, top_k, report_by, LeavesOthers, LeavesPool, chain_view, IsInUse, PoolView, spare_of, need_of, IsSessionOf, SessionStands, answer_over, chain_of, granted_of, k_of, plan_over, report_of, terms_of, Session}
use Rattle.ranking_model.specs.Search.{query_data}
use Rattle.session_desk.specs.declared.told.Told.{Told}
use Rattle.session_desk.specs.Replies.{session_answer, session_report}
use Rattle.session_desk.specs.State.{DeskState, OpenSession, granted_more, is_named, with_named, without_named}
use Rattle.session_desk.specs.Standing.{sessions_data, session_data}
use Rattle.session_desk.specs.Private.Standing.{Differ, SessionsStand}
use Rattle.session_desk.specs.Private.Reporting.{told_of}
use Rattle.session_desk.specs.Private.Places.{IsAt}
use Rattle.session_desk.proofs.Seating.{OthersStay, Stands, names_before, names_behind, others_stand, still_stand}
use Rattle.session_desk.proofs.Showing.{changes_there, found_there, goes_there}

-- ---- lists

get_at : (front : List Session) (s : Session) (back : List Session) (d : Session) → get_or (front ++ s ∷ back) (length front) d ≡ s
get_at [] s back d = refl
get_at (t ∷ front) s back d = get_at front s back d

set_at : (front : List Session) (s t : Session) (back : List Session) → slice_set (front ++ s ∷ back) (length front) t ≡ front ++ t ∷ back
set_at [] s t back = refl
set_at (u ∷ front) s t back = ap (λ us. u ∷ us) (set_at front s t back)

remove_at : (front : List Session) (s : Session) (back : List Session) → remove (front ++ s ∷ back) (length front) ≡ front ++ back
remove_at [] s back = refl
remove_at (t ∷ front) s back = ap (λ ts. t ∷ ts) (remove_at front s back)

-- ---- the session at a place

module _ (sessions : List Session) (name : List ℕ) (place : ℕ) (at : IsAt sessions name place) where
  pub session_is : (here : Session) → here ≡ get_or sessions place here → here ≡ at.session
  session_is here is =
      is ∙ ap (λ ss. get_or ss place here) at.parts ∙ ap (λ n. get_or (at.front ++ at.session ∷ at.back) n here) (sym at.behind) ∙ get_at at.front at.session at.back here

  pub changed_is : (there : Session) → slice_set sessions place there ≡ at.front ++ there ∷ at.back
  changed_is there =
      ap (λ ss. slice_set ss place there) at.parts ∙ ap (λ n. slice_set (at.front ++ at.session ∷ at.back) n there) (sym at.behind) ∙ set_at at.front at.session there at.back

  pub found_at : (here : Session) → here ≡ get_or sessions place here → Differ sessions → find (is_named name) (sessions_data sessions) ≡ Some (session_data here)
  found_at here is differ = ap (λ ss. find (is_named name) (sessions_data ss)) at.parts
      ∙ found_there name at.front at.session at.back (names_before at.front at.session at.back name at.named (subst Differ at.parts differ)) at.named
      ∙ ap (λ s. Some (session_data s)) (sym (session_is here is))

  pub changed_stand : OthersStay → (index : IndexData) (old new : PoolView) (here there : Session) → here ≡ get_or sessions place here → SessionsStand index old sessions
      → LeavesPool old new (chain_of here) → IsSessionOf here there → SessionStands there index new → SessionsStand index new (slice_set sessions place there)
  changed_stand stay index old new here there is stand leaves same stands = subst (SessionsStand index new) (sym (changed_is there))
      (still_stand stay index old new at.front here there at.back (subst (SessionsStand index old) (at.parts ∙ ap (λ s. at.front ++ s ∷ at.back) (sym (session_is here is))) stand) leaves same stands)

  pub changed_shows : (change : OpenSession → OpenSession) (here there : Session) → here ≡ get_or sessions place here → Differ sessions → session_data there ≡ change (session_data here)
      → sessions_data (slice_set sessions place there) ≡ with_named name change (sessions_data sessions)
  changed_shows change here there is differ changed =
      let apart = subst Differ at.parts differ in
      ap sessions_data (changed_is there)
      ∙ changes_there name change at.front at.session there at.back (names_before at.front at.session at.back name at.named apart) at.named (names_behind at.front at.session at.back name at.named apart)
      (changed ∙ ap (λ s. change (session_data s)) (session_is here is)) ∙ ap (λ ss. with_named name change (sessions_data ss)) (sym at.parts)

  pub stands_at : (index : IndexData) (pool : PoolView) (here : Session) → here ≡ get_or sessions place here → SessionsStand index pool sessions → SessionStands here index pool
  stands_at index pool here is stand =
      subst (Stands index pool) (sym (session_is here is)) (all_back (Stands index pool) at.front (at.session ∷ at.back) (subst (AllByRecursion (Stands index pool)) at.parts stand.each)).0

  pub gone_is : remove sessions place ≡ at.front ++ at.back
  gone_is = ap (λ ss. remove ss place) at.parts ∙ ap (remove (at.front ++ at.session ∷ at.back)) (sym at.behind) ∙ remove_at at.front at.session at.back

  pub gone_stand : OthersStay → (index : IndexData) (old new : PoolView) (here : Session) → here ≡ get_or sessions place here → SessionsStand index old sessions
      → IsInUse old (chain_of here) → (chain_view old (chain_of here)).promise ≡ need_of index (terms_of here)
      → new.frames ≡ old.frames → new.chains ≡ slice_set old.chains (chain_of here) None → LeavesOthers old new (chain_of here)
      → spare_of new ≡ spare_of old + (chain_view old (chain_of here)).promise → SessionsStand index new (remove sessions place)
  gone_stand stay index old new here is stand in_use promise frames chains others spare = subst (SessionsStand index new) (sym gone_is)
      (others_stand stay index old new at.front here at.back (subst (SessionsStand index old) (at.parts ∙ ap (λ s. at.front ++ s ∷ at.back) (sym (session_is here is))) stand)
      in_use promise frames chains others spare)

  pub gone_shows : Differ sessions → sessions_data (remove sessions place) ≡ without_named name (sessions_data sessions)
  gone_shows differ =
      let apart = subst Differ at.parts differ in
      ap sessions_data gone_is
      ∙ goes_there name at.front at.session at.back (names_before at.front at.session at.back name at.named apart) at.named (names_behind at.front at.session at.back name at.named apart)
      ∙ ap (λ ss. without_named name (sessions_data ss)) (sym at.parts)

-- ---- what a session shows

pub session_granted : (here there : Session) (budget : Budget) → IsSessionOf here there → granted_of there ≡ granted_with (granted_of here) budget → session_data there ≡ granted_more budget (session_data here)
session_granted here there budget same granted = λ i. record { query = query_data (same.query i); k = same.k i; granted = granted i }

pub report_shown : (s : Session) (index : IndexData) (pool : PoolView) → SessionStands s index pool → report_of s ≡ session_report index (session_data s)
unfolding session_report
report_shown s index pool stands = stands.report ∙ ap (λ n. report_by n (plan_over index s) (k_of s)) stands.prefix

pub answer_shown : (s : Session) (index : IndexData) (pool : PoolView) → SessionStands s index pool → answer_over index s ≡ session_answer index (session_data s)
unfolding session_answer
answer_shown s index pool stands = ap (λ n. top_k n (plan_over index s) (k_of s)) stands.prefix

pub told_shown : (index : IndexData) (session : OpenSession) (report : Report) (unknown : ℕ) → report ≡ session_report index session → unknown ≡ session.query.unknown
    → (let told : Told = record { report = report; unknown = unknown } in told) ≡ told_of index session
told_shown index session report unknown first second = λ i. record { report = first i; unknown = second i }

pub state_shown : (sessions others : List OpenSession) (frames count : ℕ) → sessions ≡ others → frames ≡ count
    → (let state : DeskState = record { sessions = sessions; frames = frames } in state) ≡ record { sessions = others; frames = count }
state_shown sessions others frames count first second = λ i. record { sessions = first i; frames = second i }

-- the steps of a grant are the postings of its report, less those of the one before
pub steps_shown : (old new before after : ℕ) (earlier later : Report) → earlier.postings ≡ before → later.postings ≡ after → before ≤ after → new + before ≡ old + after
    → new ≡ old + (later.postings - earlier.postings)
steps_shown old new before after earlier later first second more paid = omega arith
