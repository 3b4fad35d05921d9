-- Inputs that are judged one behind the other.
use Rattle.std.proofs.Common.{◌≡◌, ◌≢◌, ◌≤◌, ℕ, List, [], ◌∷◌, ◌++◌, refl, ap, ◌∙◌, inl, inr}
use Rattle.jass_base.proofs.Writing.{Rose-earlier}
use Rattle.jass_top.specs.declared.stop.Stop.{Stop}
use Rattle.jass_top.specs.declared.stop.Stop.TheVariants as stops
use Rattle.jass_top.specs.Causes.{IsOneOf}
use Rattle.jass_top.specs.Private.Causes.{Unheld, Unread}
use Rattle.jass_top.specs.Judging.{Judged, Accepted, Missing, Refuses, Untold, Shows, behind}

pub behind_both : {A B D : Type 0} (judged : Judged A) (next : A → Judged B) (last : B → Judged D) → behind (behind judged next) last ≡ behind judged (λ x. behind (next x) last)
behind_both (Accepted x) next last = refl
behind_both (Missing name) next last = refl
behind_both (Refuses name number at) next last = refl
behind_both Untold next last = refl

pub shown_then : {A B : Type 0} (judged : Judged A) (x : A) (next : A → Judged B) (other : Judged B) → Shows judged (Accepted x) → Shows (next x) other → Shows (behind judged next) other
shown_then judged x next other (inl untold) shows = inl (ap (λ j. behind j next) untold)
shown_then judged x next other (inr accepted) (inl untold) = inl (ap (λ j. behind j next) accepted ∙ untold)
shown_then judged x next other (inr accepted) (inr is) = inr (ap (λ j. behind j next) accepted ∙ is)

first_of_more : (first name : List ℕ) (more : List (List ℕ)) → IsOneOf (first ∷ []) name → IsOneOf (first ∷ more) name
first_of_more first name more (inl is) = inl is
first_of_more first name more (inr none) = absurd none

-- the first input wasn't had
pub unread_first : {A B : Type 0} (first : List ℕ) (more : List (List ℕ)) (judged : Judged A) (next : A → Judged B) (before after : ℕ) (stop : Stop) → Unread (first ∷ []) judged before after stop
    → Unread (first ∷ more) (behind judged next) before after stop
unread_first first more judged next before after stops.NoMemory why = tt
unread_first first more judged next before after (stops.Refused name number at) (one, inl untold) = (first_of_more first name.now more one, inl (ap (λ j. behind j next) untold))
unread_first first more judged next before after (stops.Refused name number at) (one, inr is) = (first_of_more first name.now more one, inr (ap (λ j. behind j next) is))
unread_first first more judged next before after (stops.ReadFault name) (one, inl rose) = (first_of_more first name.now more one, inl rose)
unread_first first more judged next before after (stops.ReadFault name) (one, inr is) = (first_of_more first name.now more one, inr (ap (λ j. behind j next) is))
unread_first first more judged next before after (stops.WriteFault name) why = why
unread_first first more judged next before after stops.InputLimit why = why

-- the first was had, and the others weren't; where the first is untold, so are they
pub unread_then : {A B : Type 0} (first : List ℕ) (more : List (List ℕ)) (judged : Judged A) (x : A) (next : A → Judged B) (before mid after : ℕ) (stop : Stop) → Shows judged (Accepted x)
    → (judged ≡ Untold → next x ≡ Untold) → before ≤ mid → Unread more (next x) mid after stop → Unread (first ∷ more) (behind judged next) before after stop
unread_then first more judged x next before mid after stops.NoMemory shows untold later why = tt
unread_then first more judged x next before mid after (stops.Refused name number at) shows untold later (one, refused) = (inr one, shown_then judged x next (Refuses name.now number at) shows refused)
unread_then first more judged x next before mid after (stops.ReadFault name) shows untold later (one, inl rose) = (inr one, inl (Rose-earlier before mid after later rose))
unread_then first more judged x next before mid after (stops.ReadFault name) (inl none) untold later (one, inr is) =
    let other : next x ≡ Untold = untold none in
    cc
unread_then first more judged x next before mid after (stops.ReadFault name) (inr had) untold later (one, inr is) = (inr one, inr (ap (λ j. behind j next) had ∙ is))
unread_then first more judged x next before mid after (stops.WriteFault name) shows untold later why = why
unread_then first more judged x next before mid after stops.InputLimit shows untold later why = why

-- an input was had, and what is judged behind it isn't held
pub unheld_then : {A B : Type 0} (reads : List (List ℕ)) (judged : Judged A) (x : A) (next : A → Judged B) (before after : ℕ) (stop : Stop) → Shows judged (Accepted x) → Unheld reads (next x) stop → Unread reads (behind judged next) before after stop
unheld_then reads judged x next before after stops.NoMemory shows why = tt
unheld_then reads judged x next before after (stops.Refused name number at) shows (one, refused) = (one, shown_then judged x next (Refuses name.now number at) shows refused)
unheld_then reads judged x next before after (stops.ReadFault name) shows why = absurd why
unheld_then reads judged x next before after (stops.WriteFault name) shows why = absurd why
unheld_then reads judged x next before after stops.InputLimit shows why = absurd why

-- the index wasn't held
pub unheld_first : {A B : Type 0} (reads : List (List ℕ)) (judged : Judged A) (next : A → Judged B) (stop : Stop) → Unheld reads judged stop → Unheld reads (behind judged next) stop
unheld_first reads judged next stops.NoMemory why = tt
unheld_first reads judged next (stops.Refused name number at) (one, inl untold) = (one, inl (ap (λ j. behind j next) untold))
unheld_first reads judged next (stops.Refused name number at) (one, inr is) = (one, inr (ap (λ j. behind j next) is))
unheld_first reads judged next (stops.ReadFault name) why = why
unheld_first reads judged next (stops.WriteFault name) why = why
unheld_first reads judged next stops.InputLimit why = why

-- ---- some inputs and others behind them

one_of_more : (names more : List (List ℕ)) (name : List ℕ) → IsOneOf names name → IsOneOf (names ++ more) name
one_of_more [] more name one = absurd one
one_of_more (first ∷ names) more name (inl is) = inl is
one_of_more (first ∷ names) more name (inr one) = inr (one_of_more names more name one)

one_of_last : (names more : List (List ℕ)) (name : List ℕ) → IsOneOf more name → IsOneOf (names ++ more) name
one_of_last [] more name one = one
one_of_last (first ∷ names) more name one = inr (one_of_last names more name one)

-- some weren't had
pub unread_before : {A B : Type 0} (names more : List (List ℕ)) (judged : Judged A) (next : A → Judged B) (before after : ℕ) (stop : Stop) → Unread names judged before after stop
    → Unread (names ++ more) (behind judged next) before after stop
unread_before names more judged next before after stops.NoMemory why = tt
unread_before names more judged next before after (stops.Refused name number at) (one, inl untold) = (one_of_more names more name.now one, inl (ap (λ j. behind j next) untold))
unread_before names more judged next before after (stops.Refused name number at) (one, inr is) = (one_of_more names more name.now one, inr (ap (λ j. behind j next) is))
unread_before names more judged next before after (stops.ReadFault name) (one, inl rose) = (one_of_more names more name.now one, inl rose)
unread_before names more judged next before after (stops.ReadFault name) (one, inr is) = (one_of_more names more name.now one, inr (ap (λ j. behind j next) is))
unread_before names more judged next before after (stops.WriteFault name) why = why
unread_before names more judged next before after stops.InputLimit why = why

-- some were had, and the others weren't; where those are untold, so are these
pub unread_behind : {A B : Type 0} (names more : List (List ℕ)) (judged : Judged A) (x : A) (next : A → Judged B) (before mid after : ℕ) (stop : Stop) → Shows judged (Accepted x)
    → (judged ≡ Untold → next x ≡ Untold) → before ≤ mid → Unread more (next x) mid after stop → Unread (names ++ more) (behind judged next) before after stop
unread_behind names more judged x next before mid after stops.NoMemory shows untold later why = tt
unread_behind names more judged x next before mid after (stops.Refused name number at) shows untold later (one, refused) =
    (one_of_last names more name.now one, shown_then judged x next (Refuses name.now number at) shows refused)
unread_behind names more judged x next before mid after (stops.ReadFault name) shows untold later (one, inl rose) = (one_of_last names more name.now one, inl (Rose-earlier before mid after later rose))
unread_behind names more judged x next before mid after (stops.ReadFault name) (inl none) untold later (one, inr is) =
    let other : next x ≡ Untold = untold none in
    cc
unread_behind names more judged x next before mid after (stops.ReadFault name) (inr had) untold later (one, inr is) = (one_of_last names more name.now one, inr (ap (λ j. behind j next) had ∙ is))
unread_behind names more judged x next before mid after (stops.WriteFault name) shows untold later why = why
unread_behind names more judged x next before mid after stops.InputLimit shows untold later why = why

-- ---- what is told

pub behind_told : {A B : Type 0} (judged : Judged A) (next : A → Judged B) → judged ≢ Untold → ((x : A) → next x ≢ Untold) → behind judged next ≢ Untold
behind_told (Accepted x) next told others is = others x is
behind_told (Missing name) next told others is = cc
behind_told (Refuses name number at) next told others is = cc
behind_told Untold next told others is = told refl

pub behind_found : {A B : Type 0} (judged : Judged A) (next : A → Judged B) (y : B) → behind judged next ≡ Accepted y → (x : A) × (judged ≡ Accepted x) × (next x ≡ Accepted y)
behind_found (Accepted x) next y is = (x, refl, is)
behind_found (Missing name) next y is = cc
behind_found (Refuses name number at) next y is = cc
behind_found Untold next y is = cc
