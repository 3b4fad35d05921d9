-- Checks of a piece, and the same checks of the whole.
use Rattle.shared_lemmas.proofs.Common.{◌≡◌, ℕ, ◌+◌, ◌-◌, ◌^◌, ◌≤◌, Bool, true, false, List, [], ◌∷◌, Result, Ok, Err, ap, sym, ◌∙◌, refl, arith, ⊤, min, min-eq_left, inl, inr, ◌⊎◌, nat_lt, nat_tests, cond, subst}
use Rattle.index_layout.specs.declared.refusal.OpenFault.{OpenFault}
use Rattle.index_layout.specs.declared.refusal.OpenFault.TheVariants as faults
use Rattle.index_layout.specs.declared.refusal.OpenRefusal.{OpenRefusal}
use Rattle.index_layout.specs.declared.refusal.OpenWhy.{OpenWhy}
use Rattle.index_layout.specs.Refusals.{Check, Fails, judged, refuse}
use Rattle.index_layout.proofs.Judging.{NoneWrong}
use Rattle.index_file.specs.Parts.{moved_fault}
use Rattle.index_file.specs.Answers.{Stops}
use Rattle.index_check.specs.Private.Answers.{moved}

-- the first checks are those of a content, the others of a piece of it that begins at a place; behind a check that
-- refuses they need not agree
pub record SameCheck (by : ℕ) (c d : Check) : Type 0 where
  pub wrong : c.wrong ≡ d.wrong
  pub at : c.at ≡ by + d.at
  pub why : c.why ≡ d.why

abbrev pub SameChecks : ℕ → List Check → List Check → Type 0
SameChecks by [] [] = ⊤
SameChecks by [] (d ∷ ds) = ⊥
SameChecks by (c ∷ cs) [] = ⊥
SameChecks by (c ∷ cs) (d ∷ ds) = SameCheck by c d × (d.wrong ≡ false → SameChecks by cs ds)

refused : (by a b : ℕ) (v w : OpenWhy) → a ≡ by + b → v ≡ w → (let r : Result ℕ OpenRefusal = Err (record { at = a; why = v }) in r) ≡ Err (record { at = by + b; why = w })
refused by a b v w at why = cc

-- the values need agree only where no check refuses
pub judged_then : (by x y : ℕ) (cs ds : List Check) → SameChecks by cs ds → (NoneWrong ds → y ≡ by + x) → judged cs y ≡ moved by (judged ds x)
judged_then by x y [] [] same is = ap (λ n. (let r : Result ℕ OpenRefusal = Ok n in r)) (is tt)
judged_then by x y [] (d ∷ ds) same is = absurd same
judged_then by x y (c ∷ cs) [] same is = absurd same
judged_then by x y (c ∷ cs) (d ∷ ds) same is = by_answer d.wrong refl (λ (more : SameChecks by cs ds) (then : NoneWrong ds → y ≡ by + x). judged_then by x y cs ds more then)
  where
    by_answer : (wrong : Bool) → wrong ≡ d.wrong → (SameChecks by cs ds → (NoneWrong ds → y ≡ by + x) → judged cs y ≡ moved by (judged ds x)) → judged (c ∷ cs) y ≡ moved by (judged (d ∷ ds) x)
    by_answer true wrong later = rw (same.0.wrong, sym wrong) (refused by c.at d.at c.why d.why same.0.at same.0.why)
    by_answer false wrong later = rw (same.0.wrong, sym wrong) (later (same.1 (sym wrong)) (λ none. is (sym wrong, none)))

pub judged_moved : (by x y : ℕ) (cs ds : List Check) → SameChecks by cs ds → y ≡ by + x → judged cs y ≡ moved by (judged ds x)
judged_moved by x y cs ds same is = judged_then by x y cs ds same (λ none. is)

pub stops_moved : (by : ℕ) (fault : OpenFault) (read : Result ℕ OpenRefusal) → Fails fault read → ((r : OpenRefusal) → read ≡ Err r → by + r.at ≤ 2 ^ 64 - 1) → Stops (moved_fault by fault) (moved by read)
stops_moved by (faults.Refused r) read is small =
    let fits : r.at + by ≤ 2 ^ 64 - 1 = (let e = small r is in omega (arith, e)) in
    let place : by + r.at ≡ min (r.at + by) (2 ^ 64 - 1) = (let e : by + r.at ≡ r.at + by = omega arith in e ∙ sym (min-eq_left fits)) in
    ap (moved by) is ∙ ap (λ n. (let e : Result ℕ OpenRefusal = Err (record { at = n; why = r.why }) in e)) place
stops_moved by faults.ReadFault read is small = tt
stops_moved by faults.NoMemory read is small = tt

-- ---- where a piece refuses

abbrev pub SmallChecks : ℕ → List Check → Type 0
SmallChecks most [] = ⊤
SmallChecks most (c ∷ cs) = (c.at ≤ most) × (c.wrong ≡ false → SmallChecks most cs)

refused_at : (at : ℕ) (why : OpenWhy) (r : OpenRefusal) → (let e : Result ℕ OpenRefusal = Err (record { at = at; why = why }) in e) ≡ Err r → at ≡ r.at
refused_at at why r is = cc

pub judged_small : (most x : ℕ) (cs : List Check) (r : OpenRefusal) → SmallChecks most cs → judged cs x ≡ Err r → r.at ≤ most
judged_small most x [] r small is = absurd cc
judged_small most x (c ∷ cs) r small is = by_answer c.wrong refl (λ (more : SmallChecks most cs) (rest : judged cs x ≡ Err r). judged_small most x cs r more rest)
  where
    here : (wrong : Bool) → wrong ≡ true → cond wrong (refuse c.at c.why) (judged cs x) ≡ Err r → r.at ≤ most
    here true wrong is = (let e : c.at ≡ r.at = refused_at c.at c.why r is in subst (λ n. n ≤ most) e small.0)
    here false wrong is = absurd cc

    later : (wrong : Bool) → wrong ≡ false → cond wrong (refuse c.at c.why) (judged cs x) ≡ Err r → judged cs x ≡ Err r
    later true wrong is = absurd cc
    later false wrong is = is

    by_answer : (wrong : Bool) → wrong ≡ c.wrong → (SmallChecks most cs → judged cs x ≡ Err r → r.at ≤ most) → r.at ≤ most
    by_answer true wrong next = here c.wrong (sym wrong) is
    by_answer false wrong next = next (small.1 (sym wrong)) (later c.wrong (sym wrong) is)

-- ---- how far a piece reaches

pub same_reach : (at n whole count a b : ℕ) → at + n ≤ whole → (count ≤ n) ⊎ (at + n ≡ whole) → a ≡ at + b → b ≤ count → nat_lt whole a ≡ nat_lt n b
same_reach at n whole count a b within (inl enough) place reach =
    let e : nat_lt whole a ≡ false = grind (arith, nat_tests, within, enough, place, reach) in
    let f : nat_lt n b ≡ false = grind (arith, nat_tests, enough, reach) in
    e ∙ sym f
same_reach at n whole count a b within (inr end) place reach = by_answer (nat_lt n b) refl
  where
    by_answer : (less : Bool) → less ≡ nat_lt n b → nat_lt whole a ≡ nat_lt n b
    by_answer true less = (let e : nat_lt whole a ≡ true = grind (arith, nat_tests, end, place, less) in e ∙ less)
    by_answer false less = (let e : nat_lt whole a ≡ false = grind (arith, nat_tests, end, place, less) in e ∙ less)
