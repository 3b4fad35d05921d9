-- What is left where a call failed before it did anything, and what a call leaves whose failures have another name.
use Rattle.std.proofs.Common.{◌≡◌, ◌≤◌, ◌+◌, ℕ, List, Option, Ok, Err, refl, subst, inl, arith}
use Rattle.jass_top.proofs.Below.{Files, Rest, Appends-none}
use Rattle.jass_top.specs.Private.RunFiles.{WroteFile}
use Rattle.jass_top.specs.Private.Sides.{Side, WroteSide}

pub not_stepped : (old count : ℕ) → (old ≤ old) × (old ≤ old + count)
not_stepped old count = (omega arith, omega arith)

pub no_file : {S T E : Type 0} {told : S → Option Files} {faults : S → ℕ} {mine e : E} (old : S) (name text : List ℕ) → ¬ (e ≡ mine) → WroteFile {T = T} told faults mine old old name text (Err e)
no_file old name text foreign = record { content = inl refl; later = omega arith; failed = (λ is. absurd (foreign is)) }

module _ {S : Type 0} {written : S → Option (List ℕ)} {faults : S → ℕ} {rest : S → Rest} where
  pub no_text : {T E : Type 0} {mine e : E} (old : S) (text : List ℕ) → ¬ (e ≡ mine) → WroteSide {T = T} written faults rest mine old old text (Err e)
  no_text old text foreign = record { bytes = (0, Appends-none (written old)); later = omega arith; failed = (λ is. absurd (foreign is)); rest_stays = refl }

  pub no_side : {T E : Type 0} {mine e : E} (old : S) (before after text : List ℕ) → ¬ (e ≡ mine) → Side {T = T} written faults rest mine old old before after text (Err e)
  no_side old before after text foreign = record { bytes = (0, Appends-none (written old)); later = omega arith; failed = (λ is. absurd (foreign is)); rest_stays = refl }

  pub side_as : {T U E F : Type 0} {mine : E} {other : F} {old new : S} {before after text longer : List ℕ} {t : T} {u : U} → text ≡ longer
      → Side written faults rest mine old new before after text (Ok t) → Side written faults rest other old new before after longer (Ok u)
  side_as {F = F} {other = other} {old = old} {new} {before} {after} {u = u} same side =
      subst (λ (x : List ℕ). Side {E = F} written faults rest other old new before after x (Ok u)) same
      (record { bytes = side.bytes; later = side.later; failed = tt; rest_stays = side.rest_stays })

  pub side_wrapped : {T U E F : Type 0} {mine which : E} {other e : F} {old new : S} {before after text longer : List ℕ} → (e ≡ other → which ≡ mine) → text ≡ longer
      → Side {T = T} written faults rest mine old new before after text (Err which) → Side {T = U} written faults rest other old new before after longer (Err e)
  side_wrapped {U = U} {other = other} {e} {old} {new} {before} {after} back same side =
      subst (λ (x : List ℕ). Side {T = U} written faults rest other old new before after x (Err e)) same
      (record { bytes = side.bytes; later = side.later; failed = (λ is. side.failed (back is)); rest_stays = side.rest_stays })
