-- One of two outputs whose calls share a result.
use Rattle.shared_lemmas.proofs.Common.{◌≡◌, ℕ, List, [], ◌++◌, Option, Result, Ok, Err, refl, sym, ap, subst, ◌∙◌, append-nil, append_assoc, arith, Appends}
use Rattle.jass_top.proofs.Below.{Rest, Wrote, AppendsPrefix-then, AppendsPrefix-longer, AppendsPrefix-whole, Appends-none, Appends-then, Rose-earlier, AppendsPrefix-same, Gathers}
use Rattle.jass_top.specs.Private.Sides.{Side, WroteSide}

module _ {S E : Type 0} {written : S → Option (List ℕ)} {faults : S → ℕ} {rest : S → Rest} {mine : E} where
  -- the output's own calls
  pub side_ok : {T U F : Type 0} {old new : S} {before after text : List ℕ} {u : U} {t : T} → Gathers {E = F} written faults rest old new before after text (Ok u) → Side written faults rest mine old new before after text (Ok t)
  side_ok done = record { bytes = done.bytes; later = done.cause.later; failed = tt; rest_stays = done.rest_stays }

  pub side_err : {T U F : Type 0} {old new : S} {before after other text : List ℕ} {f : F} {e : E} → Gathers {T = U} written faults rest old new before after text (Err f) → Side {T = T} written faults rest mine old new before other text (Err e)
  side_err done = record { bytes = done.bytes; later = done.cause.later; failed = (λ is. done.cause.failed); rest_stays = done.rest_stays }

  -- the calls of the other output
  pub side_none : {T : Type 0} (old : S) (before : List ℕ) (t : T) → Side written faults rest mine old old before before [] (Ok t)
  side_none old before t = record { bytes = ([], Appends-none (written old), sym (append-nil before)); later = omega arith; failed = tt; rest_stays = refl }

  -- the other output failed after a text
  pub side_stopped : {T U : Type 0} {old new : S} {before after other : List ℕ} (first others : List ℕ) {u : U} {e : E} → ¬ (e ≡ mine) → Side written faults rest mine old new before after first (Ok u) → Side {T = T} written faults rest mine old new before other (first ++ others) (Err e)
  side_stopped {old = old} {new} {before} {after} first others foreign done =
      let spelled : (done.bytes.0 ++ after) ++ others ≡ before ++ (first ++ others) = ap (λ (xs : List ℕ). xs ++ others) done.bytes.2 ∙ append_assoc before first others in
      record {
        bytes = AppendsPrefix-same (written old) (written new) (done.bytes.0 ++ (after ++ others)) (before ++ (first ++ others)) (sym (append_assoc done.bytes.0 after others) ∙ spelled) (AppendsPrefix-whole (written old) (written new) done.bytes.0 (after ++ others) done.bytes.1);
        later = done.later;
        failed = (λ is. absurd (foreign is));
        rest_stays = done.rest_stays;
      }

  -- a failed text is the front of a longer one
  pub side_cut : {T U : Type 0} {old new : S} {before after other : List ℕ} (first others : List ℕ) {e : E} → Side {T = U} written faults rest mine old new before after first (Err e) → Side {T = T} written faults rest mine old new before other (first ++ others) (Err e)
  side_cut {old = old} {new} {before} first others done = record {
    bytes = AppendsPrefix-same (written old) (written new) ((before ++ first) ++ others) (before ++ (first ++ others)) (append_assoc before first others) (AppendsPrefix-longer (written old) (written new) (before ++ first) others done.bytes);
    later = done.later;
    failed = done.failed;
    rest_stays = done.rest_stays;
  }

  -- one text, and then another
  pub side_then : {T U : Type 0} {old mid new : S} {before between after : List ℕ} (first second : List ℕ) {u : U} {result : Result T E}
      → Side written faults rest mine old mid before between first (Ok u) → Side written faults rest mine mid new between after second result
      → Side written faults rest mine old new before after (first ++ second) result
  side_then {old = old} {mid} {new} {before} {between} {after} first second {result = Ok x} done last = record {
    bytes = (
      done.bytes.0 ++ last.bytes.0,
      Appends-then (written old) (written mid) (written new) done.bytes.0 last.bytes.0 done.bytes.1 last.bytes.1,
      append_assoc done.bytes.0 last.bytes.0 after ∙ ap (λ (xs : List ℕ). done.bytes.0 ++ xs) last.bytes.2 ∙ sym (append_assoc done.bytes.0 between second) ∙ ap (λ (xs : List ℕ). xs ++ second) done.bytes.2 ∙ append_assoc before first second,
    );
    later = omega (arith, done.later, last.later);
    failed = tt;
    rest_stays = last.rest_stays ∙ done.rest_stays;
  }
  side_then {old = old} {mid} {new} {before} {between} {after} first second {result = Err e} done last = record {
    bytes = AppendsPrefix-same (written old) (written new) (done.bytes.0 ++ (between ++ second)) (before ++ (first ++ second))
        (sym (append_assoc done.bytes.0 between second) ∙ ap (λ (xs : List ℕ). xs ++ second) done.bytes.2 ∙ append_assoc before first second)
        (AppendsPrefix-then (written old) (written mid) (written new) done.bytes.0 (between ++ second) done.bytes.1 last.bytes);
    later = omega (arith, done.later, last.later);
    failed = (λ is. Rose-earlier (faults old) (faults mid) (faults new) done.later (last.failed is));
    rest_stays = last.rest_stays ∙ done.rest_stays;
  }

  -- the same text, spelled otherwise
  pub side_same : {T : Type 0} {old new : S} {before after text other : List ℕ} {result : Result T E} → text ≡ other → Side written faults rest mine old new before after text result → Side written faults rest mine old new before after other result
  side_same {old = old} {new} {before} {after} {result = result} is done = subst (λ (t : List ℕ). Side written faults rest mine old new before after t result) is done

  -- what is gathered in an empty buffer is flushed at the end
  pub wrote_ok : {T U V F : Type 0} {old mid new : S} {before between text : List ℕ} {u : U} {v : V} {t : T} → before ≡ []
      → Side written faults rest mine old mid before between text (Ok u) → Wrote {E = F} written faults rest mid new between (Ok v)
      → WroteSide written faults rest mine old new text (Ok t)
  wrote_ok {old = old} {mid} {new} {between = between} {text} none done last = record {
    bytes = subst (λ (sent : List ℕ). Appends (written old) (written new) sent) (done.bytes.2 ∙ ap (λ (xs : List ℕ). xs ++ text) none) (Appends-then (written old) (written mid) (written new) done.bytes.0 between done.bytes.1 last.bytes);
    later = omega (arith, done.later, last.cause.later);
    failed = tt;
    rest_stays = last.rest_stays ∙ done.rest_stays;
  }

  pub wrote_err : {T U V F : Type 0} {old mid new : S} {before between text : List ℕ} {u : U} {f : F} {e : E} → before ≡ []
      → Side written faults rest mine old mid before between text (Ok u) → Wrote {T = V} written faults rest mid new between (Err f)
      → WroteSide {T = T} written faults rest mine old new text (Err e)
  wrote_err {old = old} {mid} {new} {between = between} {text} none done last = record {
    bytes = AppendsPrefix-same (written old) (written new) (done.bytes.0 ++ between) text (done.bytes.2 ∙ ap (λ (xs : List ℕ). xs ++ text) none) (AppendsPrefix-then (written old) (written mid) (written new) done.bytes.0 between done.bytes.1 last.bytes);
    later = omega (arith, done.later, last.cause.later);
    failed = (λ is. Rose-earlier (faults old) (faults mid) (faults new) done.later last.cause.failed);
    rest_stays = last.rest_stays ∙ done.rest_stays;
  }

  -- the other output failed in its flush: before this one's, and after it
  pub wrote_unflushed : {T U : Type 0} {old new : S} {before between text : List ℕ} {u : U} {e : E} → before ≡ [] → ¬ (e ≡ mine) → Side written faults rest mine old new before between text (Ok u) → WroteSide {T = T} written faults rest mine old new text (Err e)
  wrote_unflushed {old = old} {new} {between = between} {text} none foreign done = record {
    bytes = AppendsPrefix-same (written old) (written new) (done.bytes.0 ++ between) text (done.bytes.2 ∙ ap (λ (xs : List ℕ). xs ++ text) none) (AppendsPrefix-whole (written old) (written new) done.bytes.0 between done.bytes.1);
    later = done.later;
    failed = (λ is. absurd (foreign is));
    rest_stays = done.rest_stays;
  }

  pub wrote_stopped : {T U : Type 0} {old new : S} {text : List ℕ} {u : U} {e : E} → ¬ (e ≡ mine) → WroteSide written faults rest mine old new text (Ok u) → WroteSide {T = T} written faults rest mine old new text (Err e)
  wrote_stopped {old = old} {new} {text} foreign done = record {
    bytes = AppendsPrefix-same (written old) (written new) (text ++ []) text (append-nil text) (AppendsPrefix-whole (written old) (written new) text [] done.bytes);
    later = done.later;
    failed = (λ is. absurd (foreign is));
    rest_stays = done.rest_stays;
  }

-- a gathered text that is sent at once
module _ {S : Type 0} {written : S → Option (List ℕ)} {faults : S → ℕ} {rest : S → Rest} where
  pub sent : {T U V E F : Type 0} {old mid new : S} {before between after text : List ℕ} {u : U} {v : V} {t : T} → Gathers {E = E} written faults rest old mid before between text (Ok u) → Wrote {E = F} written faults rest mid new between (Ok v) → after ≡ []
      → Gathers {E = E} written faults rest old new before after text (Ok t)
  sent {old = old} {mid} {new} {between = between} {text} done last none = record {
    bytes = (
      done.bytes.0 ++ between,
      Appends-then (written old) (written mid) (written new) done.bytes.0 between done.bytes.1 last.bytes,
      ap (λ (xs : List ℕ). (done.bytes.0 ++ between) ++ xs) none ∙ append-nil (done.bytes.0 ++ between) ∙ done.bytes.2,
    );
    cause = record { later = omega (arith, done.cause.later, last.cause.later); failed = tt };
    rest_stays = last.rest_stays ∙ done.rest_stays;
  }

  pub unsent : {T U V E F : Type 0} {old mid new : S} {before between after text : List ℕ} {u : U} {f : F} {e : E} → Gathers {E = E} written faults rest old mid before between text (Ok u) → Wrote {T = V} written faults rest mid new between (Err f)
      → Gathers {T = T} written faults rest old new before after text (Err e)
  unsent {old = old} {mid} {new} {before} {between} {text = text} done last = record {
    bytes = AppendsPrefix-same (written old) (written new) (done.bytes.0 ++ between) (before ++ text) done.bytes.2 (AppendsPrefix-then (written old) (written mid) (written new) done.bytes.0 between done.bytes.1 last.bytes);
    cause = record { later = omega (arith, done.cause.later, last.cause.later); failed = Rose-earlier (faults old) (faults mid) (faults new) done.cause.later last.cause.failed };
    rest_stays = last.rest_stays ∙ done.rest_stays;
  }

-- a text was gathered as far as what is left of it
abbrev pub SideUpTo : {S E : Type 0} → (S → Option (List ℕ)) → (S → ℕ) → (S → Rest) → E → S → S → List ℕ → List ℕ → List ℕ → List ℕ → Type 0
SideUpTo written faults rest mine old now before after whole left = (first : List ℕ) × Side {T = Unit {0}} written faults rest mine old now before after first (Ok tt) × (whole ≡ first ++ left)

module _ {S E : Type 0} {written : S → Option (List ℕ)} {faults : S → ℕ} {rest : S → Rest} {mine : E} where
  pub up_to_none : (old : S) (before whole left : List ℕ) → whole ≡ left → SideUpTo written faults rest mine old old before before whole left
  up_to_none old before whole left is = ([], side_none old before tt, is)

  pub up_to_more : {old mid new : S} {before between after whole : List ℕ} (left piece others : List ℕ) {u : Unit {0}} → left ≡ piece ++ others → SideUpTo written faults rest mine old mid before between whole left
      → Side written faults rest mine mid new between after piece (Ok u) → SideUpTo written faults rest mine old new before after whole others
  up_to_more left piece others is (first, done, split) last = (first ++ piece, side_then first piece done last, split ∙ ap (λ (s : List ℕ). first ++ s) is ∙ sym (append_assoc first piece others))

  -- an error in a turn, of this output, of the other, or of memory: all that is needed stands in the turn's own clause
  pub up_to_failed : {T U : Type 0} {old mid new : S} {before between after whole : List ℕ} (left piece others : List ℕ) {e : E} → left ≡ piece ++ others → SideUpTo written faults rest mine old mid before between whole left
      → Side {T = U} written faults rest mine mid new between after piece (Err e) → Side {T = T} written faults rest mine old new before after whole (Err e)
  up_to_failed left piece others is (first, done, split) last = side_same (ap (λ (s : List ℕ). first ++ s) (sym is) ∙ sym split) (side_then first (piece ++ others) done (side_cut piece others last))

  pub up_to_all : {old new : S} {before after whole : List ℕ} (left : List ℕ) → left ≡ [] → SideUpTo written faults rest mine old new before after whole left → Side written faults rest mine old new before after whole (Ok (tt {0}))
  up_to_all left none (first, done, split) = side_same (sym (split ∙ ap (λ (s : List ℕ). first ++ s) none ∙ append-nil first)) done

-- the other output failed after the whole text
module _ {S E : Type 0} {written : S → Option (List ℕ)} {faults : S → ℕ} {rest : S → Rest} {mine : E} where
  pub side_foreign : {T U : Type 0} {old new : S} {before after other : List ℕ} (text : List ℕ) {u : U} {e : E} → ¬ (e ≡ mine) → Side written faults rest mine old new before after text (Ok u) → Side {T = T} written faults rest mine old new before other text (Err e)
  side_foreign text foreign done = side_same (append-nil text) (side_stopped text [] foreign done)
