-- One text behind another.
use Rattle.std.proofs.Common.{ℕ, List, ◌++◌, Option, Result, Ok, Err, ◌∙◌, arith}
use Rattle.jass_top.proofs.Below.{Rest, Wrote, Appends-then, AppendsPrefix-then, AppendsPrefix-longer, Rose-earlier}

pub cut : {S T E : Type 0} (written : S → Option (List ℕ)) (faults : S → ℕ) (rest : S → Rest) (old new : S) (first second : List ℕ) (e : E) (f : E)
    → Wrote {T = T} {E = E} written faults rest old new first (Err e) → Wrote {T = T} {E = E} written faults rest old new (first ++ second) (Err f)
cut written faults rest old new first second e f is = record {
  bytes = AppendsPrefix-longer (written old) (written new) first second is.bytes;
  cause = record { later = is.cause.later; failed = is.cause.failed };
  rest_stays = is.rest_stays;
}

pub both : {S T E : Type 0} (written : S → Option (List ℕ)) (faults : S → ℕ) (rest : S → Rest) (old mid new : S) (first second : List ℕ) (x : T) (result : Result T E)
    → Wrote {T = T} {E = E} written faults rest old mid first (Ok x) → Wrote written faults rest mid new second result → Wrote written faults rest old new (first ++ second) result
both written faults rest old mid new first second x (Ok y) one two = record {
  bytes = Appends-then (written old) (written mid) (written new) first second one.bytes two.bytes;
  cause = record { later = omega (arith, one.cause.later, two.cause.later); failed = tt };
  rest_stays = two.rest_stays ∙ one.rest_stays;
}
both written faults rest old mid new first second x (Err e) one two = record {
  bytes = AppendsPrefix-then (written old) (written mid) (written new) first second one.bytes two.bytes;
  cause = record { later = omega (arith, one.cause.later, two.cause.later); failed = Rose-earlier (faults old) (faults mid) (faults new) one.cause.later two.cause.failed };
  rest_stays = two.rest_stays ∙ one.rest_stays;
}
