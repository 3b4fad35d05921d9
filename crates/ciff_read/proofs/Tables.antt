-- How many values a table has, and what lies in one that reaches a number.
use Rattle.shared_lemmas.proofs.Common.{◌≡◌, ℕ, zero, suc, ◌+◌, ◌-◌, ◌<◌, ◌≤◌, ◌≢◌, Bool, true, false, List, [], ◌∷◌, ◌++◌, length, get_or, set, replicate, map, Option, Some, None, refl, sym, ap, ◌∙◌, arith, inl, inr, get_or-set_same, get_or-set_other, ◌||◌, nat_eq, is_some, cases_eq, nat_tests}
use Rattle.shared_lemmas.proofs.Common.{fold-append, replicate_next, length-map, map-append, length-append, length-replicate, filter_map-append}
use Rattle.std.proofs.Common.{option_map}
use Rattle.std.proofs.lemmas.List.{append_assoc, append-nil}
use Rattle.ciff_read.specs.Private.Table.{has_value, reaching, with_value, values_of, table_with}
use Rattle.shared_lemmas.proofs.Places.{same_there}

-- a list after one more place was put behind it
pub reaches_more : {X : Type 0} (e : X) (old now : List X) → now ≡ old ++ replicate (length now - length old) e → length old ≤ length now → now ++ e ∷ [] ≡ old ++ replicate (length (now ++ e ∷ []) - length old) e
reaches_more {X} e old now is longer =
    let more : length (now ++ e ∷ []) - length old ≡ (length now - length old) + 1 = omega (arith, length-append now (e ∷ [])) in
    ap (λ (t : List X). t ++ e ∷ []) is ∙ append_assoc old (replicate (length now - length old) e) (e ∷ []) ∙ ap (λ (t : List X). old ++ t) (sym (replicate_next (length now - length old) e) ∙ ap (λ n. replicate n e) (sym more))

module _ {R : Type 0} where
  pub values-some : (table : List (Option R)) (e : Option R) (r : R) → e ≡ Some r → values_of (table ++ e ∷ []) ≡ values_of table ++ r ∷ []
  values-some table e r is = filter_map-append (λ (o : Option R). o) table (e ∷ []) ∙ ap (λ (o : Option R). values_of table ++ values_of (o ∷ [])) is

  pub values-none : (table : List (Option R)) (e : Option R) → e ≡ None → values_of (table ++ e ∷ []) ≡ values_of table
  values-none table e is = filter_map-append (λ (o : Option R). o) table (e ∷ []) ∙ ap (λ (o : Option R). values_of table ++ values_of (o ∷ [])) is ∙ append-nil (values_of table)

  values-none_all : (n : ℕ) → values_of (replicate {A = Option R} n None) ≡ []
  values-none_all zero = refl
  values-none_all (suc n) = values-none_all n

  values-reaching : (table : List (Option R)) (n : ℕ) → values_of (reaching table n) ≡ values_of table
  values-reaching table n = filter_map-append (λ (o : Option R). o) table (replicate (n + 1 - length table) None) ∙ ap (λ (rs : List R). values_of table ++ rs) (values-none_all (n + 1 - length table)) ∙ append-nil (values_of table)

  values-set : (table : List (Option R)) (n : ℕ) (r : R) → n < length table → get_or table n None ≡ None → length (values_of (set table n (Some r))) ≡ suc (length (values_of table))
  values-set [] n r inside missing = absurd (omega arith)
  values-set (None ∷ table) zero r inside missing = refl
  values-set (Some x ∷ table) zero r inside missing = absurd cc
  values-set (None ∷ table) (suc n) r inside missing = values-set table n r (omega arith) missing
  values-set (Some x ∷ table) (suc n) r inside missing = ap suc (values-set table n r (omega arith) missing)

  pub missing_is : (o : Option R) → is_some o ≡ false → o ≡ None
  missing_is None h = refl
  missing_is (Some x) h = absurd cc

  reach_get : (table : List (Option R)) (k m : ℕ) → get_or (table ++ replicate k None) m None ≡ get_or table m None
  reach_get [] k m = same_there None k m
  reach_get (o ∷ table) k zero = refl
  reach_get (o ∷ table) k (suc m) = reach_get table k m

  pub still_missing : (table : List (Option R)) (more n : ℕ) → get_or table n None ≡ None → get_or (table ++ replicate more None) n None ≡ None
  still_missing table more n missing = reach_get table more n ∙ missing

  pub reaches_past : (table : List (Option R)) (n : ℕ) → n < length (reaching table n)
  reaches_past table n = omega (arith, length-append table (replicate {A = Option R} (n + 1 - length table) None), length-replicate (n + 1 - length table) (let e : Option R = None in e))

  pub put_there : (table : List (Option R)) (n : ℕ) (r : R) → get_or (with_value table n r) n None ≡ Some r
  put_there table n r = get_or-set_same (reaching table n) n (Some r) None (reaches_past table n)

  pub put_other : (table : List (Option R)) (n m : ℕ) (r : R) → m ≢ n → get_or (with_value table n r) m None ≡ get_or table m None
  put_other table n m r other = get_or-set_other (reaching table n) n m (Some r) None other ∙ reach_get table (n + 1 - length table) m

  -- one value more changes what is there at its number alone
  pub has-with : (table : List (Option R)) (m n : ℕ) (r : R) → has_value (with_value table m r) n ≡ (nat_eq n m || has_value table n)
  has-with table m n r = elim (cases_eq n m) [
    | inl same ↦
        let is : nat_eq n m ≡ true = grind (arith, nat_tests) in
        ap is_some (ap (λ k. get_or (with_value table m r) k None) same ∙ put_there table m r) ∙ ap (λ (t : Bool). t || has_value table n) (sym is)
    | inr other ↦
        let is : nat_eq n m ≡ false = grind (arith, nat_tests) in
        ap is_some (put_other table m n r other) ∙ ap (λ (t : Bool). t || has_value table n) (sym is)
  ]

  pub table-more : (entries : List (ℕ × R)) (e : ℕ × R) → table_with (entries ++ e ∷ []) ≡ with_value (table_with entries) e.0 e.1
  table-more entries e = fold-append (λ (table : List (Option R)) (e : ℕ × R). with_value table e.0 e.1) [] entries (e ∷ [])

  pub values-with : (table : List (Option R)) (n : ℕ) (r : R) → has_value table n ≡ false → length (values_of (with_value table n r)) ≡ length (values_of table) + 1
  values-with table n r new =
      let missing : get_or (reaching table n) n None ≡ None = still_missing table (n + 1 - length table) n (missing_is (get_or table n None) new) in
      let more : length (values_of (with_value table n r)) ≡ suc (length (values_of (reaching table n))) = values-set (reaching table n) n r (reaches_past table n) missing in
      more ∙ ap (λ (rs : List R). suc (length rs)) (values-reaching table n) ∙ omega arith

module _ {R X : Type 0} (f : R → X) where
  map-set_some : (table : List (Option R)) (n : ℕ) (r : R) → map (option_map f) (set table n (Some r)) ≡ set (map (option_map f) table) n (Some (f r))
  map-set_some [] n r = refl
  map-set_some (o ∷ table) zero r = refl
  map-set_some (o ∷ table) (suc n) r = ap (λ (t : List (Option X)). option_map f o ∷ t) (map-set_some table n r)

  map-none : (n : ℕ) → map (option_map f) (replicate n None) ≡ replicate n None
  map-none zero = refl
  map-none (suc n) = ap (λ (t : List (Option X)). None ∷ t) (map-none n)

  -- a table of other values
  pub map-with : (table : List (Option R)) (n : ℕ) (r : R) → map (option_map f) (with_value table n r) ≡ with_value (map (option_map f) table) n (f r)
  map-with table n r =
      let long : length (map (option_map f) table) ≡ length table = length-map table (option_map f) in
      let longer : map (option_map f) (reaching table n) ≡ reaching (map (option_map f) table) n =
      map-append (option_map f) table (replicate (n + 1 - length table) None) ∙ ap (λ (t : List (Option X)). map (option_map f) table ++ t) (map-none (n + 1 - length table)) ∙ ap (λ k. map (option_map f) table ++ replicate (n + 1 - k) None) (sym long) in
      map-set_some (reaching table n) n r ∙ ap (λ (t : List (Option X)). set t n (Some (f r))) longer

  pub map-has : (table : List (Option R)) (n : ℕ) → has_value (map (option_map f) table) n ≡ has_value table n
  map-has [] n = refl
  map-has (None ∷ table) zero = refl
  map-has (Some r ∷ table) zero = refl
  map-has (o ∷ table) (suc n) = map-has table n

  pub map-values : (table : List (Option R)) → values_of (map (option_map f) table) ≡ map f (values_of table)
  map-values [] = refl
  map-values (None ∷ table) = map-values table
  map-values (Some r ∷ table) = ap (λ (rs : List X). f r ∷ rs) (map-values table)
