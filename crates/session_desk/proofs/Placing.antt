-- Where the session of a name stands.
use Rattle.shared_lemmas.proofs.Common.{◌≡◌, ◌≢◌, ℕ, suc, ◌+◌, ◌<◌, true, false, List, [], ◌∷◌, ◌++◌, length, take, drop, get_or, sym, ap, subst, ◌∙◌, arith, drop-cons, length-take, take_more, bytes_eq-Decides, bytes_eq, AllByRecursion}
use Rattle.std.proofs.Common.{take-append-drop}
use Rattle.std.proofs.lemmas.Bool.{true≢false}
use Rattle.shared_lemmas.proofs.Lists.{all_append}
use Rattle.session_engine.specs.declared.session.Session.{Session}
use Rattle.session_desk.specs.Private.Standing.{name_of}
use Rattle.session_desk.specs.Private.Places.{IsAt}

abbrev pub HasOtherName : List ℕ → Session → Type 0
HasOtherName name s = name_of s ≢ name

-- the session at a place has the name
pub named_here : (sessions : List Session) (name text : List ℕ) (place : ℕ) (s : Session) → place < length sessions → get_or sessions place s ≡ s
    → text ≡ name_of s → bytes_eq text name ≡ true → IsAt sessions name place
named_here sessions name text place s inside is spelled same = record {
  front = take place sessions;
  session = s;
  back = drop (suc place) sessions;
  parts = sym (take-append-drop place sessions) ∙ ap (λ l. take place sessions ++ l) (drop-cons sessions place s inside ∙ ap (λ x. x ∷ drop (suc place) sessions) is);
  behind = omega (arith, length-take place sessions, inside);
  named = sym spelled ∙ (bytes_eq-Decides text name).0 same;
}

-- it has another name, and so have those before it
pub none_so_far : (sessions : List Session) (name text : List ℕ) (place : ℕ) (s : Session) → place < length sessions → get_or sessions place s ≡ s
    → text ≡ name_of s → bytes_eq text name ≡ false → AllByRecursion (HasOtherName name) (take place sessions) → AllByRecursion (HasOtherName name) (take (place + 1) sessions)
none_so_far sessions name text place s inside is spelled other before =
    subst (AllByRecursion (HasOtherName name)) (sym (take_more sessions place s inside ∙ ap (λ x. take place sessions ++ x ∷ []) is))
    (all_append (HasOtherName name) (take place sessions) (s ∷ []) before ((λ same. true≢false (sym ((bytes_eq-Decides text name).1 (spelled ∙ same)) ∙ other)), tt))
