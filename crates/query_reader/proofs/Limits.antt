-- The limits of what a query names, and how one mention more meets them.
use Rattle.shared_lemmas.proofs.Common.{◌≡◌, ℕ, zero, suc, ◌+◌, ◌<◌, ◌≤◌, Bool, true, false, not, eqb, ltb, cond, List, [], ◌∷◌, ◌++◌, length, get_or, set, refl, ap, sym, subst, ◌∙◌, arith, ltb-true, ltb-false, or_parts, or_from, nat_tests, Option, Some, None, nat_lt, list_any, position_or_len}
use Rattle.std.proofs.Common.{length-append}
use Rattle.std.proofs.lemmas.List.{length-set}
use Rattle.jass_base.specs.declared.query_term.QueryTerm.{QueryTerm}
use Rattle.query_reader.specs.declared.refusal.QueryWhy.{QueryWhy}
use Rattle.query_reader.specs.declared.refusal.QueryWhy.TheVariants.{Terms, Times}
use Rattle.query_reader.specs.Reading.{broken_limit}
use Rattle.query_reader.specs.Private.Tally.{tallied}

abbrev pub over : QueryTerm → Bool
over n = nat_lt 255 n.times

pub limit-terms : (ns : List QueryTerm) → 256 < length ns → broken_limit ns ≡ Some Terms
limit-terms ns many = here (nat_lt 256 (length ns)) refl
  where
    here : (b : Bool) → nat_lt 256 (length ns) ≡ b → cond b (Some Terms) (cond (list_any over ns) (Some Times) None) ≡ Some Terms
    here true e = refl
    here false e = absurd (omega (arith, many, ltb-false 256 (length ns) e))

few-first : (ns : List QueryTerm) (long any : Bool) (o : Option QueryWhy) → nat_lt 256 (length ns) ≡ long → length ns ≤ 256 → cond any (Some Times) None ≡ o → cond long (Some Terms) (cond any (Some Times) None) ≡ o
few-first ns true any o e few is = absurd (omega (arith, few, ltb-true 256 (length ns) e))
few-first ns false any o e few is = is

pub limit-times : (ns : List QueryTerm) → length ns ≤ 256 → list_any over ns ≡ true → broken_limit ns ≡ Some Times
limit-times ns few any = few-first ns (nat_lt 256 (length ns)) (list_any over ns) (Some Times) refl few (ap (λ (b : Bool). cond b (Some Times) None) any)

pub limit-none : (ns : List QueryTerm) → length ns ≤ 256 → list_any over ns ≡ false → broken_limit ns ≡ None
limit-none ns few any = few-first ns (nat_lt 256 (length ns)) (list_any over ns) None refl few (ap (λ (b : Bool). cond b (Some Times) None) any)

pub within-limits : (ns : List QueryTerm) → broken_limit ns ≡ None → (length ns ≤ 256) × (list_any over ns ≡ false)
within-limits ns none = here (nat_lt 256 (length ns)) (list_any over ns) refl refl none
  where
    here : (long any : Bool) → nat_lt 256 (length ns) ≡ long → list_any over ns ≡ any → cond long (Some Terms) (cond any (Some Times) None) ≡ None → (length ns ≤ 256) × (list_any over ns ≡ false)
    here true any e f is = cc
    here false true e f is = cc
    here false false e f is = (ltb-false 256 (length ns) e, f)

-- a term put in the place of another
set-over : (ns : List QueryTerm) (place : ℕ) (n : QueryTerm) → place < length ns → over n ≡ true → list_any over (set ns place n) ≡ true
set-over [] place n inside is = absurd (omega (arith, inside))
set-over (m ∷ ns) zero n inside is = rw is refl
set-over (m ∷ ns) (suc place) n inside is = grind (arith, nat_tests, set-over ns place n (omega (arith, inside)) is)

set-within : (ns : List QueryTerm) (place : ℕ) (n : QueryTerm) → over n ≡ false → list_any over ns ≡ false → list_any over (set ns place n) ≡ false
set-within [] place n is none = none
set-within (m ∷ ns) zero n is none = or_from (over n) (list_any over ns) is (or_parts (over m) (list_any over ns) none).1
set-within (m ∷ ns) (suc place) n is none = let h = or_parts (over m) (list_any over ns) none in or_from (over m) (list_any over (set ns place n)) h.0 (set-within ns place n is h.1)

behind-within : (ns : List QueryTerm) (n : QueryTerm) → over n ≡ false → list_any over ns ≡ false → list_any over (ns ++ n ∷ []) ≡ false
behind-within [] n is none = or_from (over n) false is refl
behind-within (m ∷ ns) n is none = let h = or_parts (over m) (list_any over ns) none in or_from (over m) (list_any over (ns ++ n ∷ [])) h.0 (behind-within ns n is h.1)

is-over : (n : ℕ) → 255 < n → nat_lt 255 n ≡ true
is-over n more = grind (arith, nat_tests)

is-within : (n : ℕ) → n < 256 → nat_lt 255 n ≡ false
is-within n less = grind (arith, nat_tests)

-- the term at the place of its number is named more often
pub tallied-there : (ns : List QueryTerm) (number factor place times : ℕ) (n : QueryTerm) → place < length ns → position_or_len (λ (m : QueryTerm). eqb m.term number) ns ≡ place → n ≡ get_or ns place n → times ≡ n.times + factor → set ns place (record { term = n.term; times = times }) ≡ tallied ns number factor
tallied-there [] number factor place times n inside found read sum = absurd (omega (arith, inside))
tallied-there (m ∷ ns) number factor zero times n inside found read sum = here (eqb m.term number) found
  where
    here : (b : Bool) → cond (not b) (1 + position_or_len (λ (x : QueryTerm). eqb x.term number) ns) 0 ≡ 0 → record { term = n.term; times = times } ∷ ns ≡ cond b (record { term = m.term; times = m.times + factor } ∷ ns) (m ∷ tallied ns number factor)
    here true f = ap (λ t. record { term = n.term; times = t } ∷ ns) sum ∙ ap (λ (x : QueryTerm). record { term = x.term; times = x.times + factor } ∷ ns) read
    here false f = absurd (omega (arith, f))
tallied-there (m ∷ ns) number factor (suc place) times n inside found read sum = here (eqb m.term number) found (λ f. tallied-there ns number factor place times n (omega (arith, inside)) f read sum)
  where
    here : (b : Bool) → cond (not b) (1 + position_or_len (λ (x : QueryTerm). eqb x.term number) ns) 0 ≡ suc place
        → (position_or_len (λ (x : QueryTerm). eqb x.term number) ns ≡ place → set ns place (record { term = n.term; times = times }) ≡ tallied ns number factor)
        → m ∷ set ns place (record { term = n.term; times = times }) ≡ cond b (record { term = m.term; times = m.times + factor } ∷ ns) (m ∷ tallied ns number factor)
    here true f rest = absurd (omega (arith, f))
    here false f rest = ap (λ xs. m ∷ xs) (rest (omega (arith, f)))

-- a number that no term has goes behind them
pub tallied-behind : (ns : List QueryTerm) (number factor : ℕ) → length ns ≤ position_or_len (λ (m : QueryTerm). eqb m.term number) ns → ns ++ record { term = number; times = factor } ∷ [] ≡ tallied ns number factor
tallied-behind [] number factor found = refl
tallied-behind (m ∷ ns) number factor found = here (eqb m.term number) found (tallied-behind ns number factor)
  where
    here : (b : Bool) → suc (length ns) ≤ cond (not b) (1 + position_or_len (λ (x : QueryTerm). eqb x.term number) ns) 0
        → (length ns ≤ position_or_len (λ (x : QueryTerm). eqb x.term number) ns → ns ++ record { term = number; times = factor } ∷ [] ≡ tallied ns number factor)
        → m ∷ (ns ++ record { term = number; times = factor } ∷ []) ≡ cond b (record { term = m.term; times = m.times + factor } ∷ ns) (m ∷ tallied ns number factor)
    here true f rest = absurd (omega (arith, f))
    here false f rest = ap (λ xs. m ∷ xs) (rest (omega (arith, f)))

-- what it means that `position` gives a place, and that it gives none
pub place_of-some : (place long at : ℕ) (given : Option ℕ) → given ≡ cond (ltb place long) (Some place) None → given ≡ Some at → (place < long) × (place ≡ at)
place_of-some place long at given is some = here (ltb place long) refl is
  where
    here : (b : Bool) → ltb place long ≡ b → given ≡ cond b (Some place) None → (place < long) × (place ≡ at)
    here true e h = (ltb-true place long e, cc)
    here false e h = cc

pub place_of-none : (place long : ℕ) (given : Option ℕ) → given ≡ cond (ltb place long) (Some place) None → given ≡ None → long ≤ place
place_of-none place long given is none = here (ltb place long) refl is
  where
    here : (b : Bool) → ltb place long ≡ b → given ≡ cond b (Some place) None → long ≤ place
    here true e h = cc
    here false e h = ltb-false place long e

-- the same item, read twice
same-item : (ns : List QueryTerm) (place : ℕ) (n m : QueryTerm) → place < length ns → n ≡ get_or ns place n → m ≡ get_or ns place m → n ≡ m
same-item [] place n m inside first again = absurd (omega (arith, inside))
same-item (x ∷ xs) zero n m inside first again = first ∙ sym again
same-item (x ∷ xs) (suc place) n m inside first again = same-item xs place n m (omega (arith, inside)) first again

-- the four ways of one mention more
pub named-more : (ns : List QueryTerm) (number factor place times : ℕ) (n m : QueryTerm) → place < length ns → position_or_len (λ (x : QueryTerm). eqb x.term number) ns ≡ place → n ≡ get_or ns place n → m ≡ get_or ns place m → (m.times + factor < 256) × (times ≡ m.times + factor) → broken_limit ns ≡ None
    → (set ns place (record { term = n.term; times = times }) ≡ tallied ns number factor) × (broken_limit (set ns place (record { term = n.term; times = times })) ≡ None)
named-more ns number factor place times n m inside found read again sum none =
    let new : QueryTerm = record { term = n.term; times = times } in
    let total : times ≡ n.times + factor = sum.1 ∙ ap (λ (x : QueryTerm). x.times + factor) (sym (same-item ns place n m inside read again)) in
    (tallied-there ns number factor place times n inside found read total, limit-none (set ns place new) (omega (arith, length-set ns place new, (within-limits ns none).0)) (set-within ns place new (is-within times (omega (arith, sum.0, sum.1))) (within-limits ns none).1))

pub named-too-often : (ns : List QueryTerm) (number factor place : ℕ) (n : QueryTerm) → place < length ns → position_or_len (λ (m : QueryTerm). eqb m.term number) ns ≡ place → n ≡ get_or ns place n → ¬ (n.times + factor < 256) → broken_limit ns ≡ None
    → broken_limit (tallied ns number factor) ≡ Some Times
named-too-often ns number factor place n inside found read above none =
    let new : QueryTerm = record { term = n.term; times = n.times + factor } in
    subst (λ xs. broken_limit xs ≡ Some Times) (tallied-there ns number factor place (n.times + factor) n inside found read refl)
    (limit-times (set ns place new) (omega (arith, length-set ns place new, (within-limits ns none).0)) (set-over ns place new inside (is-over (n.times + factor) (omega (arith, above)))))

pub named-too-many : (ns : List QueryTerm) (number factor : ℕ) → length ns ≤ position_or_len (λ (m : QueryTerm). eqb m.term number) ns → length ns ≡ 256 → broken_limit (tallied ns number factor) ≡ Some Terms
named-too-many ns number factor found full =
    let new : QueryTerm = record { term = number; times = factor } in
    subst (λ xs. broken_limit xs ≡ Some Terms) (tallied-behind ns number factor found) (limit-terms (ns ++ new ∷ []) (omega (arith, length-append ns (new ∷ []), full)))

pub named-first : (ns new : List QueryTerm) (number factor : ℕ) → length ns ≤ position_or_len (λ (m : QueryTerm). eqb m.term number) ns → ¬ (length ns ≡ 256) → factor < 256 → broken_limit ns ≡ None → new ≡ ns ++ record { term = number; times = factor } ∷ []
    → (new ≡ tallied ns number factor) × (broken_limit new ≡ None)
named-first ns new number factor found room fits none is =
    let n : QueryTerm = record { term = number; times = factor } in (
      is ∙ tallied-behind ns number factor found,
      subst (λ xs. broken_limit xs ≡ None) (sym is)
          (limit-none (ns ++ n ∷ []) (omega (arith, length-append ns (n ∷ []), (within-limits ns none).0, room)) (behind-within ns n (is-within factor fits) (within-limits ns none).1)),
    )
