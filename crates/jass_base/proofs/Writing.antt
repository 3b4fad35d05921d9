-- Laws of a text that is put on a sink piece by piece.
use Rattle.shared_lemmas.proofs.Common.{ℕ, ◌≡◌, ◌+◌, ◌≤◌, min, List, [], ◌++◌, length, take, Option, Some, None, Appends, sym, ap, subst, ◌∙◌, append-nil, append_assoc, arith, take-append-le, take_min, take-append-add}
use Rattle.jass_base.specs.Outside.{Rose}
use Rattle.jass_base.specs.Writing.{AppendsPrefix}

-- nothing was put
pub Appends-none : (old : Option (List ℕ)) → Appends old old []
Appends-none None = tt
Appends-none (Some xs) = sym (append-nil xs)

-- one text, and then another
pub Appends-then : (old mid new : Option (List ℕ)) (first second : List ℕ) → Appends old mid first → Appends mid new second → Appends old new (first ++ second)
Appends-then None mid new first second a b = tt
Appends-then (Some xs) None new first second a b = absurd a
Appends-then (Some xs) (Some ys) None first second a b = absurd b
Appends-then (Some xs) (Some ys) (Some zs) first second a b = b ∙ ap (λ (text : List ℕ). text ++ second) a ∙ append_assoc xs first second

-- the same text, spelled otherwise
pub Appends-same : (old new : Option (List ℕ)) (text other : List ℕ) → text ≡ other → Appends old new text → Appends old new other
Appends-same old new text other is a = subst (λ (t : List ℕ). Appends old new t) is a

pub AppendsPrefix-same : (old new : Option (List ℕ)) (text other : List ℕ) → text ≡ other → AppendsPrefix old new text → AppendsPrefix old new other
AppendsPrefix-same old new text other is a = subst (λ (t : List ℕ). AppendsPrefix old new t) is a

-- a whole text and a prefix of the next one
pub AppendsPrefix-then : (old mid new : Option (List ℕ)) (first second : List ℕ) → Appends old mid first → AppendsPrefix mid new second → AppendsPrefix old new (first ++ second)
AppendsPrefix-then old mid new first second a (n, b) = (length first + n, Appends-same old new (first ++ take n second) (take (length first + n) (first ++ second)) (sym (take-append-add first second n)) (Appends-then old mid new first (take n second) a b))

-- a prefix of a text is one of a longer text
pub AppendsPrefix-longer : (old new : Option (List ℕ)) (first second : List ℕ) → AppendsPrefix old new first → AppendsPrefix old new (first ++ second)
AppendsPrefix-longer old new first second (n, a) =
    let within : min n (length first) ≤ length first = omega arith in
    (min n (length first), Appends-same old new (take n first) (take (min n (length first)) (first ++ second)) (sym (take-append-le (min n (length first)) first second within ∙ take_min n first)) a)

-- a whole text is a prefix of it
pub AppendsPrefix-whole : (old new : Option (List ℕ)) (first second : List ℕ) → Appends old new first → AppendsPrefix old new (first ++ second)
AppendsPrefix-whole old new first second a = AppendsPrefix-then old new new first second a (0, Appends-none new)

-- a count that rose later in a call rose in the call
pub Rose-earlier : (before mid now : ℕ) → before ≤ mid → Rose mid now → Rose before now
Rose-earlier before mid now later rose = omega arith
