-- Texts that are gathered one after another.
use Rattle.shared_lemmas.proofs.Common.{◌≡◌, ℕ, ◌+◌, ◌<◌, List, [], ◌++◌, length, drop, get_or, Option, Result, Ok, Err, refl, sym, ap, subst, ◌∙◌, append-nil, append_assoc, drop-cons, add-one, arith, IsErr, Appends}
use Rattle.std.proofs.Common.{flat_map}
use Rattle.jass_base.specs.declared.faults.WriteFault.{WriteFault}
use Rattle.jass_base.specs.Outside.{Rest, Wrote}
use Rattle.jass_base.proofs.Writing.{AppendsPrefix-then, AppendsPrefix-longer, Appends-none, Appends-then, Rose-earlier, AppendsPrefix-same}
use Rattle.gathered_text.specs.Gathering.{Gathers}

module _ {S : Type 0} {written : S → Option (List ℕ)} {faults : S → ℕ} {rest : S → Rest} where
  -- the first of two texts failed
  pub gather_cut : {T U E : Type 0} {old new : S} {before after : List ℕ} (first others : List ℕ) {result : Result T E} {e : E} → IsErr result → Gathers {T = U} written faults rest old new before after first (Err e) → Gathers written faults rest old new before after (first ++ others) result
  gather_cut first others {result = Ok x} failed done = cc
  gather_cut {old = old} {new} {before} first others {result = Err x} failed done =
      record {
        bytes = AppendsPrefix-same (written old) (written new) ((before ++ first) ++ others) (before ++ (first ++ others)) (append_assoc before first others) (AppendsPrefix-longer (written old) (written new) (before ++ first) others done.bytes);
        cause = record { later = done.cause.later; failed = done.cause.failed };
        rest_stays = done.rest_stays;
      }

  -- one text, and then another
  pub gather_then : {T U E : Type 0} {old mid new : S} {before between after : List ℕ} (first second : List ℕ) {result : Result T E} {u : U}
      → Gathers {E = E} written faults rest old mid before between first (Ok u) → Gathers written faults rest mid new between after second result
      → Gathers written faults rest old new before after (first ++ second) result
  gather_then {old = old} {mid} {new} {before} {between} {after} first second {result = Ok x} done last =
      let spelled : (done.bytes.0 ++ last.bytes.0) ++ after ≡ before ++ (first ++ second)
      = append_assoc done.bytes.0 last.bytes.0 after ∙ ap (λ (xs : List ℕ). done.bytes.0 ++ xs) last.bytes.2 ∙ sym (append_assoc done.bytes.0 between second) ∙ ap (λ (xs : List ℕ). xs ++ second) done.bytes.2 ∙ append_assoc before first second in
      record {
        bytes = (done.bytes.0 ++ last.bytes.0, Appends-then (written old) (written mid) (written new) done.bytes.0 last.bytes.0 done.bytes.1 last.bytes.1, spelled);
        cause = record { later = omega (arith, done.cause.later, last.cause.later); failed = tt };
        rest_stays = last.rest_stays ∙ done.rest_stays;
      }
  gather_then {old = old} {mid} {new} {before} {between} {after} first second {result = Err e} done last =
      let spelled : done.bytes.0 ++ (between ++ second) ≡ before ++ (first ++ second)
      = sym (append_assoc done.bytes.0 between second) ∙ ap (λ (xs : List ℕ). xs ++ second) done.bytes.2 ∙ append_assoc before first second in
      record {
        bytes = AppendsPrefix-same (written old) (written new) (done.bytes.0 ++ (between ++ second)) (before ++ (first ++ second)) spelled
            (AppendsPrefix-then (written old) (written mid) (written new) done.bytes.0 (between ++ second) done.bytes.1 last.bytes);
        cause = record { later = omega (arith, done.cause.later, last.cause.later); failed = Rose-earlier (faults old) (faults mid) (faults new) done.cause.later last.cause.failed };
        rest_stays = last.rest_stays ∙ done.rest_stays;
      }

  -- once there is room a text is put into the buffer
  pub gather_pushed : {T U E : Type 0} {old new : S} {before between after : List ℕ} (text : List ℕ) {t : T} {u : U} → Gathers {E = E} written faults rest old new before between [] (Ok u) → after ≡ between ++ text → Gathers {E = E} written faults rest old new before after text (Ok t)
  gather_pushed {before = before} {between} {after} text done is =
      record {
        bytes = (done.bytes.0, done.bytes.1, ap (λ (xs : List ℕ). done.bytes.0 ++ xs) is ∙ sym (append_assoc done.bytes.0 between text) ∙ ap (λ (xs : List ℕ). xs ++ text) (done.bytes.2 ∙ append-nil before));
        cause = record { later = done.cause.later; failed = tt };
        rest_stays = done.rest_stays;
      }

  -- a text went to the sink, beside an empty buffer
  pub gather_put : {T E : Type 0} {old new : S} {before after : List ℕ} (text : List ℕ) {result : Result T E} → before ≡ [] → after ≡ [] → Wrote written faults rest old new text result → Gathers written faults rest old new before after text result
  gather_put text {result = Ok x} before_none none done = record { bytes = (text, done.bytes, ap (λ (xs : List ℕ). text ++ xs) none ∙ append-nil text ∙ ap (λ (xs : List ℕ). xs ++ text) (sym before_none)); cause = done.cause; rest_stays = done.rest_stays }
  gather_put {old = old} {new} {before} text {result = Err e} before_none none done =
      record { bytes = AppendsPrefix-same (written old) (written new) text (before ++ text) (ap (λ (xs : List ℕ). xs ++ text) (sym before_none)) done.bytes; cause = done.cause; rest_stays = done.rest_stays }

  -- what was gathered from nothing, and then flushed, was put
  pub gather_flushed : {T U E : Type 0} {old mid new : S} {before between text : List ℕ} {result : Result T E} {u : U} → before ≡ [] → Gathers {E = E} written faults rest old mid before between text (Ok u) → Wrote written faults rest mid new between result → Wrote written faults rest old new text result
  gather_flushed {old = old} {mid} {new} {between = between} {text} {result = Ok x} none done last =
      record {
        bytes = subst (λ (sent : List ℕ). Appends (written old) (written new) sent) (done.bytes.2 ∙ ap (λ (xs : List ℕ). xs ++ text) none) (Appends-then (written old) (written mid) (written new) done.bytes.0 between done.bytes.1 last.bytes);
        cause = record { later = omega (arith, done.cause.later, last.cause.later); failed = tt };
        rest_stays = last.rest_stays ∙ done.rest_stays;
      }
  gather_flushed {old = old} {mid} {new} {between = between} {text} {result = Err e} none done last =
      record {
        bytes = AppendsPrefix-same (written old) (written new) (done.bytes.0 ++ between) text (done.bytes.2 ∙ ap (λ (xs : List ℕ). xs ++ text) none) (AppendsPrefix-then (written old) (written mid) (written new) done.bytes.0 between done.bytes.1 last.bytes);
        cause = record { later = omega (arith, done.cause.later, last.cause.later); failed = Rose-earlier (faults old) (faults mid) (faults new) done.cause.later last.cause.failed };
        rest_stays = last.rest_stays ∙ done.rest_stays;
      }

  -- the same text, spelled otherwise
  pub gather_same : {T E : Type 0} {old new : S} {before after : List ℕ} {text other : List ℕ} {result : Result T E} → text ≡ other → Gathers written faults rest old new before after text result → Gathers written faults rest old new before after other result
  gather_same {old = old} {new} {before} {after} {result = result} is done = subst (λ (t : List ℕ). Gathers written faults rest old new before after t result) is done

  -- nothing was gathered
  pub gather_none : {T E : Type 0} (old : S) (before : List ℕ) (t : T) → Gathers {E = E} written faults rest old old before before [] (Ok t)
  gather_none old before t = record { bytes = ([], Appends-none (written old), sym (append-nil before)); cause = record { later = omega arith; failed = tt }; rest_stays = refl }

-- a text was gathered as far as what is left of it
abbrev pub GathersUpTo : {S : Type 0} → (S → Option (List ℕ)) → (S → ℕ) → (S → Rest) → S → S → List ℕ → List ℕ → List ℕ → List ℕ → Type 0
GathersUpTo written faults rest old now before after whole left = (first : List ℕ) × Gathers {T = Unit {0}} {E = WriteFault} written faults rest old now before after first (Ok tt) × (whole ≡ first ++ left)

module _ {S : Type 0} {written : S → Option (List ℕ)} {faults : S → ℕ} {rest : S → Rest} where
  pub up_to_none : (old : S) (before whole : List ℕ) → GathersUpTo written faults rest old old before before whole whole
  up_to_none old before whole = ([], gather_none old before tt, refl)

  pub up_to_more : {old mid new : S} {before between after whole : List ℕ} (left piece others : List ℕ) {u : Unit {0}} → left ≡ piece ++ others → GathersUpTo written faults rest old mid before between whole left
      → Gathers {E = WriteFault} written faults rest mid new between after piece (Ok u) → GathersUpTo written faults rest old new before after whole others
  up_to_more left piece others is (first, done, split) last = (first ++ piece, gather_then first piece done last, split ∙ ap (λ (s : List ℕ). first ++ s) is ∙ sym (append_assoc first piece others))

  pub up_to_failed : {T U : Type 0} {old mid new : S} {before between after whole : List ℕ} (left piece others : List ℕ) {result : Result T WriteFault} {e : WriteFault} → left ≡ piece ++ others → GathersUpTo written faults rest old mid before between whole left
      → IsErr result → Gathers {T = U} written faults rest mid new between after piece (Err e) → Gathers written faults rest old new before after whole result
  up_to_failed left piece others is (first, done, split) failed last = gather_same (ap (λ (s : List ℕ). first ++ s) (sym is) ∙ sym split) (gather_then first (piece ++ others) done (gather_cut piece others failed last))

  pub up_to_all : {old new : S} {before after whole : List ℕ} (left : List ℕ) → left ≡ [] → GathersUpTo written faults rest old new before after whole left → Gathers {E = WriteFault} written faults rest old new before after whole (Ok (tt {0}))
  up_to_all left none (first, done, split) = gather_same (sym (split ∙ ap (λ (s : List ℕ). first ++ s) none ∙ append-nil first)) done

-- the piece at a place is next, and then those behind it
pub pieces_next : {X : Type 0} (f : X → List ℕ) (xs : List X) (i : ℕ) (d : X) → i < length xs → flat_map f (drop i xs) ≡ f (get_or xs i d) ++ flat_map f (drop (i + 1) xs)
pieces_next f xs i d inside = rw (add-one i) (ap (flat_map f) (drop-cons xs i d inside))
