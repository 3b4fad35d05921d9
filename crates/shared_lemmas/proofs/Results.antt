-- What was answered where the answer is Ok.
use Rattle.std.proofs.Common.{◌≡◌, Bool, true, false, cond, Result, Ok, Err, refl}

module _ {A E : Type 0} where
  pub if_ok : (test : Bool) (r : Result A E) (why : E) (y : A) → cond test r (Err why) ≡ Ok y → (test ≡ true) × (r ≡ Ok y)
  if_ok true r why y is = (refl, is)
  if_ok false r why y is = absurd cc

  pub unless_ok : (test : Bool) (why : E) (r : Result A E) (y : A) → cond test (Err why) r ≡ Ok y → (test ≡ false) × (r ≡ Ok y)
  unless_ok true why r y is = absurd cc
  unless_ok false why r y is = (refl, is)

  pub ok_same : (x y : A) → (let r : Result A E = Ok x in r) ≡ Ok y → x ≡ y
  ok_same x y is = cc
