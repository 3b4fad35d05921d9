-- What the terms that mentions name have in common.
use Rattle.shared_lemmas.proofs.Common.{◌≡◌, ℕ, ◌+◌, ◌<◌, ◌≤◌, Bool, true, false, not, eqb, cond, List, [], ◌∷◌, length, get_or, refl, ap, sym, ◌∙◌, arith, eqb-false, or_parts, length-map, All-cons, All-nil, All-map, All-filter, AllPairs-cons, sum_by-cons, length-filter, count_by-le-length, Option}
use Rattle.shared_lemmas.proofs.Common.{Some, None, filter, sum_by, ◌==◌, All, AllPairs, bytes_eq, filter_map, cons_option, AllByRecursion, position_or_len, option_map_or}
use Rattle.std.proofs.lemmas.Bool.{eq-eqb}
use Rattle.shared_lemmas.proofs.Lists.{all_weaker}
use Rattle.jass_base.specs.declared.query_term.QueryTerm.{QueryTerm}
use Rattle.query_reader.specs.Mentions.{Mention, first_mentions, words_as_mentions, term_number, named_of}
use Rattle.query_reader.proofs.Limits.{place_of-some}
use Rattle.query_reader.proofs.NamedTerms.{names, times, rows, named, has, Apart, Apart-first}

-- numbers that differ are those of terms that differ
others-differ : (f : ℕ → ℕ) (x : ℕ) (xs : List ℕ) → has x xs ≡ false → All (λ (n : QueryTerm). x ≡ n.term → ⊥) (rows f xs)
others-differ f x [] apart = All-nil _
others-differ f x (y ∷ ys) apart =
    let h = or_parts (eqb y x) (has x ys) apart in
    All-cons (λ (n : QueryTerm). x ≡ n.term → ⊥) (record { term = y; times = f y }) (rows f ys) (λ same. eqb-false y x h.0 (sym same)) (others-differ f x ys h.1)

rows-differ : (f : ℕ → ℕ) (xs : List ℕ) → Apart xs → AllPairs (λ (m n : QueryTerm). m.term ≡ n.term → ⊥) (rows f xs)
rows-differ f [] apart = λ i j d before inside. absurd (omega (arith, inside))
rows-differ f (x ∷ xs) apart = AllPairs-cons (λ (m n : QueryTerm). m.term ≡ n.term → ⊥) (record { term = x; times = f x }) (rows f xs) (others-differ f x xs apart.0) (rows-differ f xs apart.1)

pub named-differ : (num : Mention → Option ℕ) (ms : List Mention) → AllPairs (λ (m n : QueryTerm). m.term ≡ n.term → ⊥) (named num ms)
named-differ num ms = rows-differ (times num ms) (first_mentions (filter_map num ms)) (Apart-first (filter_map num ms))

-- no more terms than mentions
first-few : (xs : List ℕ) → length (first_mentions xs) ≤ length xs
first-few [] = omega arith
first-few (x ∷ xs) =
    let p : ℕ → Bool = λ y. not (y == x) in
    omega (arith, first-few xs, length-filter p (first_mentions xs), count_by-le-length p (first_mentions xs))

known-few : (num : Mention → Option ℕ) (ms : List Mention) → length (filter_map num ms) ≤ length ms
known-few num [] = omega arith
known-few num (m ∷ ms) = here (num m) (known-few num ms)
  where
    here : (o : Option ℕ) → length (filter_map num ms) ≤ length ms → length (cons_option o (filter_map num ms)) ≤ length (m ∷ ms)
    here None rest = omega (arith, rest)
    here (Some k) rest = omega (arith, rest)

pub named-few : (num : Mention → Option ℕ) (ms : List Mention) → length (named num ms) ≤ length ms
named-few num ms =
    omega (arith, known-few num ms, first-few (filter_map num ms), length-map (first_mentions (filter_map num ms)) (λ j. let n : QueryTerm = record { term = j; times = times num ms j } in n))

-- the first mention and the later ones
times-cons : (num : Mention → Option ℕ) (m : Mention) (ms : List Mention) (j : ℕ) → times num (m ∷ ms) j ≡ cond (names num j m) m.factor 0 + times num ms j
times-cons num m ms j = here (names num j m)
  where
    here : (b : Bool) → sum_by (λ x. x.factor) (cond b (m ∷ filter (names num j) ms) (filter (names num j) ms)) ≡ cond b m.factor 0 + times num ms j
    here true = sum_by-cons (λ x. x.factor) m (filter (names num j) ms)
    here false = omega arith

-- a term is named at most as often as all factors together say
times-few : (num : Mention → Option ℕ) (ms : List Mention) (j : ℕ) → times num ms j ≤ sum_by (λ m. m.factor) ms
times-few num [] j = omega arith
times-few num (m ∷ ms) j = here (names num j m) (times-cons num m ms j) (times-few num ms j)
  where
    here : (b : Bool) → times num (m ∷ ms) j ≡ cond b m.factor 0 + times num ms j → times num ms j ≤ sum_by (λ x. x.factor) ms → times num (m ∷ ms) j ≤ sum_by (λ x. x.factor) (m ∷ ms)
    here true e rest = omega (arith, e, rest, sum_by-cons (λ x. x.factor) m ms)
    here false e rest = omega (arith, e, rest, sum_by-cons (λ x. x.factor) m ms)

pub named-bounded : (num : Mention → Option ℕ) (ms : List Mention) → All (λ (n : QueryTerm). n.times ≤ sum_by (λ m. m.factor) ms) (named num ms)
named-bounded num ms = All-map (λ (n : QueryTerm). n.times ≤ sum_by (λ m. m.factor) ms) (λ j. record { term = j; times = times num ms j }) (first_mentions (filter_map num ms)) (λ k d inside. times-few num ms (get_or (first_mentions (filter_map num ms)) k d))

-- what holds of all mentioned numbers holds of the first mentions
all-first : (P : ℕ → Type 0) (xs : List ℕ) → AllByRecursion P xs → All P (first_mentions xs)
all-first P [] all = All-nil P
all-first P (x ∷ xs) all = All-cons P x _ all.0 (All-filter _ P (first_mentions xs) (all-first P xs all.1))

-- each mentioned number is named at least once, where each factor is at least 1
mentioned-named : (num : Mention → Option ℕ) (ms : List Mention) → AllByRecursion (λ m. 1 ≤ m.factor) ms → AllByRecursion (λ j. 1 ≤ times num ms j) (filter_map num ms)
mentioned-named num [] some = tt
mentioned-named num (m ∷ ms) some =
    here (num m) refl (all_weaker _ _ (λ j h. omega (arith, h, times-cons num m ms j)) (filter_map num ms) (mentioned-named num ms some.1))
  where
    here : (o : Option ℕ) → num m ≡ o → AllByRecursion (λ j. 1 ≤ times num (m ∷ ms) j) (filter_map num ms) → AllByRecursion (λ j. 1 ≤ times num (m ∷ ms) j) (cons_option o (filter_map num ms))
    here None is rest = rest
    here (Some k) is rest = (first, rest)
      where
        it : names num k m ≡ true
        it = ap (λ o. option_map_or (λ n. n == k) o false) is ∙ eq-eqb k k refl

        first : 1 ≤ times num (m ∷ ms) k
        first = omega (arith, some.0, times-cons num m ms k ∙ ap (λ b. cond b m.factor 0 + times num ms k) it)

pub named-some : (num : Mention → Option ℕ) (ms : List Mention) → AllByRecursion (λ m. 1 ≤ m.factor) ms → All (λ (n : QueryTerm). 1 ≤ n.times) (named num ms)
named-some num ms some = All-map (λ (n : QueryTerm). 1 ≤ n.times) (λ j. record { term = j; times = times num ms j }) (first_mentions (filter_map num ms)) (all-first _ (filter_map num ms) (mentioned-named num ms some))

-- words count once each
pub words-once : (words : List (List ℕ)) → AllByRecursion (λ (m : Mention). 1 ≤ m.factor) (words_as_mentions words)
words-once [] = tt
words-once (w ∷ ws) = (omega arith, words-once ws)

pub words-factors : (words : List (List ℕ)) → sum_by (λ (m : Mention). m.factor) (words_as_mentions words) ≡ length words
words-factors [] = refl
words-factors (w ∷ ws) = omega (arith, words-factors ws, sum_by-cons (λ (m : Mention). m.factor) (record { term = w; factor = 1 }) (words_as_mentions ws))

-- each named term is one of the index
known-below : (terms : List (List ℕ)) (ms : List Mention) → AllByRecursion (λ j. j < length terms) (filter_map (term_number terms) ms)
known-below terms [] = tt
known-below terms (m ∷ ms) = here (term_number terms m) refl (known-below terms ms)
  where
    here : (o : Option ℕ) → term_number terms m ≡ o → AllByRecursion (λ j. j < length terms) (filter_map (term_number terms) ms) → AllByRecursion (λ j. j < length terms) (cons_option o (filter_map (term_number terms) ms))
    here None e rest = rest
    here (Some k) e rest = ((let there = place_of-some (position_or_len (λ t. bytes_eq t m.term) terms) (length terms) k (term_number terms m) refl e in omega (arith, there.0, there.1)), rest)

pub named-below : (terms : List (List ℕ)) (ms : List Mention) → All (λ (n : QueryTerm). n.term < length terms) (named_of terms ms)
named-below terms ms = All-map (λ (n : QueryTerm). n.term < length terms) (λ j. record { term = j; times = times (term_number terms) ms j }) (first_mentions (filter_map (term_number terms) ms)) (all-first (λ j. j < length terms) (filter_map (term_number terms) ms) (known-below terms ms))
