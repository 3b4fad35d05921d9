-- What stands beside a file that is written.
use Rattle.shared_lemmas.proofs.Common.{◌≡◌, ◌≢◌, ℕ, List, Option, Some, None, Bool, true, false, cond, refl, sym, ap, subst, ◌∙◌, IfSome, nat_cmp, eq_by_cmp, slice_cmp, get, insert, get-insert, nat_list_cmp_total}
use Rattle.jass_base.specs.Outside.{Files, ForContent, IsMissing, Sets, content_there}
use Rattle.shared_lemmas.proofs.Texts.{equal_texts}

other : (m : Files) (index text name : List ℕ) → name ≢ index → get (insert m index text) name ≡ get m name
other m index text name apart = get-insert nat_list_cmp_total m index text name ∙ at (eq_by_cmp (slice_cmp nat_cmp) name index) refl
  where
    at : (b : Bool) → eq_by_cmp (slice_cmp nat_cmp) name index ≡ b → cond b (Some text) (get m name) ≡ get m name
    at true is = absurd (apart (equal_texts name index is))
    at false is = refl

pub beside : (old new : Option Files) (index text name : List ℕ) → name ≢ index → Sets old new index text → content_there new name ≡ content_there old name
beside None new index text name apart set = ap (λ (m : Option Files). content_there m name) set
beside (Some old) None index text name apart set = absurd set
beside (Some old) (Some new) index text name apart set = ap (λ (m : Files). get m name) set ∙ other old index text name apart

pub for_there : (files : Option Files) (name : List ℕ) (P : List ℕ → Type 0) → ForContent files name P → IfSome (content_there files name) P
for_there None name P is = tt
for_there (Some files) name P is = is

pub there_for : (files : Option Files) (name : List ℕ) (P : List ℕ → Type 0) → IfSome (content_there files name) P → ForContent files name P
there_for None name P is = tt
there_for (Some files) name P is = is

-- what holds of a content holds where the same is told
pub for_same : (old new : Option Files) (name : List ℕ) (P : List ℕ → Type 0) → content_there new name ≡ content_there old name → ForContent old name P → ForContent new name P
for_same old new name P same is = there_for new name P (subst (λ (o : Option (List ℕ)). IfSome o P) (sym same) (for_there old name P is))

pub there_beside : (old new : Option Files) (index text name : List ℕ) → name ≢ index → Sets old new index text → ¬ IsMissing old name → ¬ IsMissing new name
there_beside None new index text name apart set there missing = subst (λ (m : Option Files). ¬ IsMissing m name) (sym set) there missing
there_beside (Some old) None index text name apart set there missing = absurd set
there_beside (Some old) (Some new) index text name apart set there missing = there (sym (beside (Some old) (Some new) index text name apart set) ∙ missing)
