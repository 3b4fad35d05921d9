-- What mentions name among the terms that pass a test, where the terms of all mentions pass.
use Rattle.shared_lemmas.proofs.Common.{◌≡◌, ℕ, suc, ◌==◌, ◌*◌, ◌++◌, List, [], ◌∷◌, filter, filter_map, map, Bool, true, false, cond, not, refl, ap, ap₂, ◌∙◌, length, sum_by, bytes_eq, Option, Some, None, is_none, option_map, option_map_or, cons_option, AllByRecursion}
use Rattle.shared_lemmas.proofs.Lists.{all_filter}
use Rattle.asked_lists.proofs.Below.{Mention, PlanSegment, QueryTerm, SegmentData, TermData, first_mentions, named_of, names_number, query_segments_from, term_number, times_named, unknown_of}
use Rattle.asked_lists.proofs.Lists.{filter_same, sum_same}
use Rattle.asked_lists.proofs.Places.{found_in, found_passes, number_in, passes_at, same_number, same_segments, texts}

-- the terms that a mention can name pass
abbrev pub NamesPassing : (TermData → Bool) → Mention → Type 0
NamesPassing p m = (t : TermData) → bytes_eq t.term m.term ≡ true → p t ≡ true

abbrev one_if : Bool → ℕ
one_if b = cond b 1 0

module _ (p : TermData → Bool) (ts : List TermData) where
  abbrev Passes : ℕ → Type 0
  Passes n = passes_at p ts n ≡ true

  abbrev into : ℕ → ℕ
  into = number_in p ts

  abbrev few : List (List ℕ)
  few = texts (filter p ts)

  abbrev Reaches : Mention → Type 0
  Reaches = NamesPassing p

  number_into : (m : Mention) → Reaches m → term_number few m ≡ option_map into (term_number (texts ts) m)
  number_into m has = found_in p (λ (t : List ℕ). bytes_eq t m.term) has ts

  numbers_pass : (ms : List Mention) → AllByRecursion Reaches ms → AllByRecursion Passes (filter_map (term_number (texts ts)) ms)
  numbers_pass [] h = tt
  numbers_pass (m ∷ ms) h = step (term_number (texts ts) m) refl (numbers_pass ms h.1) where
    step : (o : Option ℕ) → term_number (texts ts) m ≡ o → AllByRecursion Passes (filter_map (term_number (texts ts)) ms) → AllByRecursion Passes (filter_map (term_number (texts ts)) (m ∷ ms))
    step None e rest = rw e rest
    step (Some n) e rest = rw e (found_passes p (λ (t : List ℕ). bytes_eq t m.term) h.0 ts n e, rest)

  numbers_into : (ms : List Mention) → AllByRecursion Reaches ms → filter_map (term_number few) ms ≡ map into (filter_map (term_number (texts ts)) ms)
  numbers_into [] h = refl
  numbers_into (m ∷ ms) h = ap₂ (λ (o : Option ℕ) (l : List ℕ). cons_option o l) (number_into m h.0) (numbers_into ms h.1) ∙ mapped (term_number (texts ts) m) (filter_map (term_number (texts ts)) ms) where
    mapped : (o : Option ℕ) (l : List ℕ) → cons_option (option_map into o) (map into l) ≡ map into (cons_option o l)
    mapped None l = refl
    mapped (Some n) l = refl

  -- ---- the order of first mention

  others_into : (x : ℕ) → Passes x → (ns : List ℕ) → AllByRecursion Passes ns → filter (λ y. not (y == into x)) (map into ns) ≡ map into (filter (λ y. not (y == x)) ns)
  others_into x there [] h = refl
  others_into x there (n ∷ ns) h = step (n == x) refl (same_number p ts n x h.0 there) (others_into x there ns h.1) where
    step : (b : Bool) → (n == x) ≡ b → (into n == into x) ≡ (n == x) → filter (λ y. not (y == into x)) (map into ns) ≡ map into (filter (λ y. not (y == x)) ns)
        → filter (λ y. not (y == into x)) (map into (n ∷ ns)) ≡ map into (filter (λ y. not (y == x)) (n ∷ ns))
    step true e same rest = let f : (into n == into x) ≡ true = same ∙ e in rw (e, f) rest
    step false e same rest = let f : (into n == into x) ≡ false = same ∙ e in rw (e, f) (ap (λ (l : List ℕ). into n ∷ l) rest)

  first_pass : (ns : List ℕ) → AllByRecursion Passes ns → AllByRecursion Passes (first_mentions ns)
  first_pass [] h = tt
  first_pass (n ∷ ns) h = (h.0, all_filter Passes (λ y. not (y == n)) (first_mentions ns) (first_pass ns h.1))

  first_into : (ns : List ℕ) → AllByRecursion Passes ns → first_mentions (map into ns) ≡ map into (first_mentions ns)
  first_into [] h = refl
  first_into (n ∷ ns) h = ap (λ (l : List ℕ). into n ∷ filter (λ y. not (y == into n)) l) (first_into ns h.1)
      ∙ ap (λ (l : List ℕ). into n ∷ l) (others_into n h.0 (first_mentions ns) (first_pass ns h.1))

  -- ---- a query of mentions

  module _ (ms : List Mention) (reach : AllByRecursion Reaches ms) where
    abbrev numbers : List ℕ
    numbers = first_mentions (filter_map (term_number (texts ts)) ms)

    pass : AllByRecursion Passes numbers
    pass = first_pass (filter_map (term_number (texts ts)) ms) (numbers_pass ms reach)

    pub same_unknown : unknown_of few ms ≡ unknown_of (texts ts) ms
    same_unknown = sum_same (λ (m : Mention). one_if (is_none (term_number few m))) (λ (m : Mention). one_if (is_none (term_number (texts ts) m))) ms (each ms reach) where
      told : (o : Option ℕ) → one_if (is_none (option_map into o)) ≡ one_if (is_none o)
      told None = refl
      told (Some n) = refl

      each : (ms : List Mention) → AllByRecursion Reaches ms → AllByRecursion (λ (m : Mention). one_if (is_none (term_number few m)) ≡ one_if (is_none (term_number (texts ts) m))) ms
      each [] h = tt
      each (m ∷ ms) h = (ap (λ (o : Option ℕ). one_if (is_none o)) (number_into m h.0) ∙ told (term_number (texts ts) m), each ms h.1)

    same_times : (n : ℕ) → Passes n → times_named few ms (into n) ≡ times_named (texts ts) ms n
    same_times n there = ap (sum_by (λ (m : Mention). m.factor)) (filter_same (names_number few (into n)) (names_number (texts ts) n) ms (each ms reach)) where
      named : (m : Mention) → Reaches m → (o : Option ℕ) → term_number (texts ts) m ≡ o → option_map_or (λ k. k == into n) (option_map into o) false ≡ option_map_or (λ k. k == n) o false
      named m has None e = refl
      named m has (Some k) e = same_number p ts k n (found_passes p (λ (t : List ℕ). bytes_eq t m.term) has ts k e) there

      each : (ms : List Mention) → AllByRecursion Reaches ms → AllByRecursion (λ (m : Mention). names_number few (into n) m ≡ names_number (texts ts) n m) ms
      each [] h = tt
      each (m ∷ ms) h = (ap (λ (o : Option ℕ). option_map_or (λ k. k == into n) o false) (number_into m h.0) ∙ named m h.0 (term_number (texts ts) m) refl, each ms h.1)

    abbrev named_few : ℕ → QueryTerm
    named_few number = record { term = number; times = times_named few ms number }

    abbrev named_all : ℕ → QueryTerm
    named_all number = record { term = number; times = times_named (texts ts) ms number }

    named_into : named_of few ms ≡ map named_few (map into numbers)
    named_into = ap (λ (l : List ℕ). map named_few (first_mentions l)) (numbers_into ms reach) ∙ ap (map named_few) (first_into (filter_map (term_number (texts ts)) ms) (numbers_pass ms reach))

    pub as_many_named : length (named_of few ms) ≡ length (named_of (texts ts) ms)
    as_many_named = ap length named_into ∙ lengths numbers where
      lengths : (ns : List ℕ) → length (map named_few (map into ns)) ≡ length (map named_all ns)
      lengths [] = refl
      lengths (n ∷ ns) = ap suc (lengths ns)

    pub same_query_segments : query_segments_from 0 (named_of few ms) (filter p ts) ≡ query_segments_from 0 (named_of (texts ts) ms) ts
    same_query_segments = ap (λ (l : List QueryTerm). query_segments_from 0 l (filter p ts)) named_into ∙ each 0 numbers pass where
      weighed : ℕ → ℕ → List SegmentData → List PlanSegment
      weighed place times segments = map (λ (s : SegmentData). record { term_place = place; weight = s.impact * times; docs = s.docs }) segments

      each : (place : ℕ) (ns : List ℕ) → AllByRecursion Passes ns → query_segments_from place (map named_few (map into ns)) (filter p ts) ≡ query_segments_from place (map named_all ns) ts
      each place [] h = refl
      each place (n ∷ ns) h = ap₂ (λ (x y : List PlanSegment). x ++ y)
          (ap₂ (λ (times : ℕ) (segments : List SegmentData). weighed place times segments) (same_times n h.0) (same_segments p ts n h.0))
          (each (suc place) ns h.1)
