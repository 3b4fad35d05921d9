-- What a query names, one mention after the other. The number of a mention's term is any function here.
use Rattle.shared_lemmas.proofs.Common.{◌≡◌, ℕ, ◌+◌, Bool, true, false, not, eqb, cond, List, [], ◌∷◌, ◌++◌, map, refl, ap, sym, subst, ◌∙◌, arith, eqb-false, or_parts, nat_tests, filter-append, filter_map-append, sum_by-append, Option, Some, None, filter, sum_by, ◌==◌, ⊤, filter_map, cons_option}
use Rattle.shared_lemmas.proofs.Common.{list_any, option_map_or}
use Rattle.std.proofs.lemmas.Bool.{eqb-true}
use Rattle.std.proofs.lemmas.List.{append-nil}
use Rattle.jass_base.specs.declared.query_term.QueryTerm.{QueryTerm}
use Rattle.query_reader.specs.Mentions.{Mention, first_mentions}
use Rattle.query_reader.specs.Private.Tally.{tallied}

-- numbers with one put behind them unless it is there
abbrev added : List ℕ → ℕ → List ℕ
added [] k = k ∷ []
added (x ∷ xs) k = cond (eqb x k) (x ∷ xs) (x ∷ added xs k)

-- the numbers other than x
abbrev without : ℕ → List ℕ → List ℕ
without x ys = filter (λ y. not (y == x)) ys

without-added : (x k : ℕ) (ys : List ℕ) → without x (added ys k) ≡ cond (eqb x k) (without x ys) (added (without x ys) k)
without-added x k [] = grind (arith, nat_tests)
without-added x k (y ∷ ys) = grind (arith, nat_tests, without-added x k ys)

first_mentions-more : (xs : List ℕ) (k : ℕ) → first_mentions (xs ++ k ∷ []) ≡ added (first_mentions xs) k
first_mentions-more [] k = refl
first_mentions-more (x ∷ xs) k = ap (λ ys. x ∷ without x ys) (first_mentions-more xs k) ∙ grind (arith, without-added x k (first_mentions xs))

-- whether a number is among some
abbrev pub has : ℕ → List ℕ → Bool
has k ys = list_any (λ y. y == k) ys

abbrev pub Apart : List ℕ → Type 0
Apart [] = ⊤
Apart (x ∷ xs) = (has x xs ≡ false) × Apart xs

has-filter : (p : ℕ → Bool) (k : ℕ) (ys : List ℕ) → has k ys ≡ false → has k (filter p ys) ≡ false
has-filter p k [] e = refl
has-filter p k (y ∷ ys) e = let h = or_parts (eqb y k) (has k ys) e in kept (p y) h.0 (has-filter p k ys h.1)
  where
    kept : (b : Bool) → eqb y k ≡ false → has k (filter p ys) ≡ false → has k (cond b (y ∷ filter p ys) (filter p ys)) ≡ false
    kept true other rest = rw other rest
    kept false other rest = rest

has-without : (x k : ℕ) (ys : List ℕ) → has k (without x ys) ≡ cond (eqb x k) false (has k ys)
has-without x k [] = grind (arith, nat_tests)
has-without x k (y ∷ ys) = grind (arith, nat_tests, has-without x k ys)

has-first : (k : ℕ) (xs : List ℕ) → has k (first_mentions xs) ≡ has k xs
has-first k [] = refl
has-first k (x ∷ xs) = grind (arith, nat_tests, has-first k xs, has-without x k (first_mentions xs))

Apart-filter : (p : ℕ → Bool) (xs : List ℕ) → Apart xs → Apart (filter p xs)
Apart-filter p [] apart = tt
Apart-filter p (x ∷ xs) apart = kept (p x) (Apart-filter p xs apart.1)
  where
    kept : (b : Bool) → Apart (filter p xs) → Apart (cond b (x ∷ filter p xs) (filter p xs))
    kept true rest = (has-filter p x xs apart.0, rest)
    kept false rest = rest

pub Apart-first : (xs : List ℕ) → Apart (first_mentions xs)
Apart-first [] = tt
Apart-first (x ∷ xs) = (has-without x x (first_mentions xs) ∙ grind (arith, nat_tests), Apart-filter _ (first_mentions xs) (Apart-first xs))

-- the terms of some numbers, each named as often as a function says
abbrev pub rows : (ℕ → ℕ) → List ℕ → List QueryTerm
rows f numbers = map (λ j. record { term = j; times = f j }) numbers

rows-same : (f g : ℕ → ℕ) (xs : List ℕ) → ((j : ℕ) → f j ≡ g j) → rows f xs ≡ rows g xs
rows-same f g [] same = refl
rows-same f g (x ∷ xs) same = ap (λ t. record { term = x; times = t } ∷ rows f xs) (same x) ∙ ap (λ ns. record { term = x; times = g x } ∷ ns) (rows-same f g xs same)

rows-other : (f g : ℕ → ℕ) (k : ℕ) (xs : List ℕ) → ((j : ℕ) → (j ≡ k → ⊥) → f j ≡ g j) → has k xs ≡ false → rows f xs ≡ rows g xs
rows-other f g k [] same apart = refl
rows-other f g k (x ∷ xs) same apart =
    let h = or_parts (eqb x k) (has k xs) apart in
    ap (λ t. record { term = x; times = t } ∷ rows f xs) (same x (eqb-false x k h.0)) ∙ ap (λ ns. record { term = x; times = g x } ∷ ns) (rows-other f g k xs same h.1)

rows-added : (f g : ℕ → ℕ) (k factor : ℕ) (xs : List ℕ) → ((j : ℕ) → (j ≡ k → ⊥) → f j ≡ g j) → f k ≡ g k + factor → (has k xs ≡ false → g k ≡ 0) → Apart xs → rows f (added xs k) ≡ tallied (rows g xs) k factor
rows-added f g k factor [] same more none apart = let e : f k ≡ factor = omega (arith, more, none refl) in ap (λ t. record { term = k; times = t } ∷ []) e
rows-added f g k factor (x ∷ xs) same more none apart = here (eqb x k) refl (λ other. rows-added f g k factor xs same more (λ h. none (rw other h)) apart.1)
  where
    here : (b : Bool) → eqb x k ≡ b → (eqb x k ≡ false → rows f (added xs k) ≡ tallied (rows g xs) k factor) → rows f (cond b (x ∷ xs) (x ∷ added xs k)) ≡ cond b (record { term = x; times = g x + factor } ∷ rows g xs) (record { term = x; times = g x } ∷ tallied (rows g xs) k factor)
    here true is rest =
        let at : x ≡ k = eqb-true x k is in
        let once : has k xs ≡ false = subst (λ y. has y xs ≡ false) at apart.0 in
        let grown : f x ≡ g x + factor = ap f at ∙ more ∙ ap (λ y. g y + factor) (sym at) in
        ap (λ t. record { term = x; times = t } ∷ rows f xs) grown ∙ ap (λ ns. record { term = x; times = g x + factor } ∷ ns) (rows-other f g k xs same once)
    here false is rest =
        ap (λ t. record { term = x; times = t } ∷ rows f (added xs k)) (same x (eqb-false x k is)) ∙ ap (λ ns. record { term = x; times = g x } ∷ ns) (rest is)

-- whether a mention's term has the number j
abbrev pub names : (Mention → Option ℕ) → ℕ → Mention → Bool
names num j m = option_map_or (λ n. n == j) (num m) false

abbrev pub times : (Mention → Option ℕ) → List Mention → ℕ → ℕ
times num ms j = sum_by (λ m. m.factor) (filter (names num j) ms)

times-more : (num : Mention → Option ℕ) (ms : List Mention) (m : Mention) (j : ℕ) → times num (ms ++ m ∷ []) j ≡ times num ms j + cond (names num j m) m.factor 0
times-more num ms m j = ap (sum_by (λ x. x.factor)) (filter-append (names num j) ms (m ∷ []))
    ∙ sum_by-append (λ x. x.factor) (filter (names num j) ms) (filter (names num j) (m ∷ [])) ∙ ap (λ t. times num ms j + t) (one (names num j m))
  where
    one : (b : Bool) → sum_by (λ x. x.factor) (cond b (m ∷ []) []) ≡ cond b m.factor 0
    one true = omega arith
    one false = refl

-- where no mention has the number k it is named 0 times
times-none : (num : Mention → Option ℕ) (ms : List Mention) (k : ℕ) → has k (filter_map num ms) ≡ false → times num ms k ≡ 0
times-none num [] k none = refl
times-none num (m ∷ ms) k none = here (num m) none (times-none num ms k)
  where
    here : (o : Option ℕ) → has k (cons_option o (filter_map num ms)) ≡ false → (has k (filter_map num ms) ≡ false → times num ms k ≡ 0) → sum_by (λ x. x.factor) (cond (option_map_or (λ n. n == k) o false) (m ∷ filter (names num k) ms) (filter (names num k) ms)) ≡ 0
    here None h rest = rest h
    here (Some n) h rest = let both = or_parts (eqb n k) (has k (filter_map num ms)) h in rw both.0 (rest both.1)

-- the known terms that mentions name
abbrev pub named : (Mention → Option ℕ) → List Mention → List QueryTerm
named num ms = rows (times num ms) (first_mentions (filter_map num ms))

-- a mention of an unknown term changes nothing
pub named-unknown : (num : Mention → Option ℕ) (ms : List Mention) (m : Mention) → num m ≡ None → named num (ms ++ m ∷ []) ≡ named num ms
named-unknown num ms m none =
    ap (λ ks. rows (times num (ms ++ m ∷ [])) (first_mentions ks)) (filter_map-append num ms (m ∷ []) ∙ ap (λ o. filter_map num ms ++ cons_option o []) none ∙ append-nil (filter_map num ms))
    ∙ rows-same _ _ (first_mentions (filter_map num ms)) (λ j. times-more num ms m j ∙ ap (λ o. times num ms j + cond (option_map_or (λ n. n == j) o false) m.factor 0) none ∙ omega arith)

-- a mention of a known term tallies it
pub named-known : (num : Mention → Option ℕ) (ms : List Mention) (m : Mention) (k : ℕ) → num m ≡ Some k → named num (ms ++ m ∷ []) ≡ tallied (named num ms) k m.factor
named-known num ms m k known =
    ap (λ ks. rows (times num (ms ++ m ∷ [])) (first_mentions ks)) (filter_map-append num ms (m ∷ []) ∙ ap (λ o. filter_map num ms ++ cons_option o []) known)
    ∙ ap (rows (times num (ms ++ m ∷ []))) (first_mentions-more (filter_map num ms) k)
    ∙ rows-added _ _ k m.factor (first_mentions (filter_map num ms)) other grown none (Apart-first (filter_map num ms))
  where
    changed : (j : ℕ) → times num (ms ++ m ∷ []) j ≡ times num ms j + cond (eqb k j) m.factor 0
    changed j = times-more num ms m j ∙ ap (λ o. times num ms j + cond (option_map_or (λ n. n == j) o false) m.factor 0) known

    other : (j : ℕ) → (j ≡ k → ⊥) → times num (ms ++ m ∷ []) j ≡ times num ms j
    other j differ = let e = changed j in grind (arith, nat_tests)

    grown : times num (ms ++ m ∷ []) k ≡ times num ms k + m.factor
    grown = let e = changed k in grind (arith, nat_tests)

    none : has k (first_mentions (filter_map num ms)) ≡ false → times num ms k ≡ 0
    none h = times-none num ms k (sym (has-first k (filter_map num ms)) ∙ h)
