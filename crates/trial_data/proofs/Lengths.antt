-- The lengths of documents.
use Rattle.shared_lemmas.proofs.Common.{◌≡◌, ℕ, ◌+◌, ◌<◌, ◌≤◌, ◌==◌, true, false, cond, List, [], ◌∷◌, length, get_or, set, drop, subst, refl, sym, ap, ◌∙◌, ◌⊎◌, inl, inr, arith, eq-eqb, All, cases_eq, nat_tests, drop_more, drop-map, All-head, All-tail, All-drop, sum_by-cons}
use Rattle.std.proofs.lemmas.List.{length-set, get_or-set_same, get_or-set_other}
use Rattle.jass_base.specs.declared.posting.Posting.{Posting}
use Rattle.jass_base.specs.Postings.{docs_of}
use Rattle.trial_data.specs.Private.Gathering.{with_postings}
use Rattle.trial_data.specs.Trials.{tf_in}

pub length-with_postings : (lengths : List ℕ) (ps : List Posting) → length (with_postings lengths ps) ≡ length lengths
length-with_postings lengths [] = refl
length-with_postings lengths (p ∷ ps) =
    length-with_postings (set lengths p.doc (get_or lengths p.doc 0 + p.tf)) ps
    ∙ length-set lengths p.doc (get_or lengths p.doc 0 + p.tf)

pub tf_in-cons : (doc : ℕ) (p : Posting) (ps : List Posting) → tf_in doc (p ∷ ps) ≡ cond (p.doc == doc) p.tf 0 + tf_in doc ps
tf_in-cons doc p ps = sum_by-cons (λ (q : Posting). cond (q.doc == doc) q.tf 0) p ps

pub with_postings_at : (lengths : List ℕ) (ps : List Posting) (doc : ℕ) → All (λ d. d < length lengths) (docs_of ps) → get_or (with_postings lengths ps) doc 0 ≡ get_or lengths doc 0 + tf_in doc ps
with_postings_at lengths [] doc below = omega arith
with_postings_at lengths (p ∷ ps) doc below =
    with_postings_at next ps doc (λ k d i. let long = length-set lengths p.doc (get_or lengths p.doc 0 + p.tf) in let low = All-tail (λ d. d < length lengths) p.doc (docs_of ps) below k d i in omega arith)
    ∙ by (cases_eq p.doc doc)
  where
    next : List ℕ
    next = set lengths p.doc (get_or lengths p.doc 0 + p.tf)

    inside : p.doc < length lengths
    inside = All-head (λ d. d < length lengths) p.doc (docs_of ps) below

    by : (p.doc ≡ doc) ⊎ (p.doc ≡ doc → ⊥) → get_or next doc 0 + tf_in doc ps ≡ get_or lengths doc 0 + tf_in doc (p ∷ ps)
    by (inl e) =
        let t : (p.doc == doc) ≡ true = eq-eqb p.doc doc e in
        let here : get_or next doc 0 ≡ get_or lengths doc 0 + p.tf =
        ap (λ n. get_or next n 0) (sym e) ∙ get_or-set_same lengths p.doc (get_or lengths p.doc 0 + p.tf) 0 inside ∙ ap (λ n. get_or lengths n 0 + p.tf) e in
        let first : cond (p.doc == doc) p.tf 0 ≡ p.tf = rw t refl in
        omega (arith, tf_in-cons doc p ps)
    by (inr apart) =
        let f : (p.doc == doc) ≡ false = grind (arith, nat_tests) in
        let first : cond (p.doc == doc) p.tf 0 ≡ 0 = rw f refl in
        omega (arith, get_or-set_other lengths p.doc doc (get_or lengths p.doc 0 + p.tf) 0 (λ e. apart (sym e)), tf_in-cons doc p ps)

-- lengths don't fall
pub grown : (lengths : List ℕ) (ps : List Posting) (doc : ℕ) → All (λ d. d < length lengths) (docs_of ps) → get_or lengths doc 0 ≤ get_or (with_postings lengths ps) doc 0
grown lengths ps doc below = let is = with_postings_at lengths ps doc below in omega arith

-- what is left of the postings, one turn on
pub next_posting : (ps : List Posting) (i : ℕ) → i < length ps → drop i ps ≡ get_or ps i (record { doc = 0; tf = 0 }) ∷ drop (i + 1) ps
next_posting ps i inside = drop_more ps i (record { doc = 0; tf = 0 }) inside

pub below_rest : (d : ℕ) (ps : List Posting) (i : ℕ) → All (λ doc. doc < d) (docs_of ps) → All (λ doc. doc < d) (docs_of (drop i ps))
below_rest d ps i below = subst (λ (docs : List ℕ). All (λ doc. doc < d) docs) (drop-map (λ (p : Posting). p.doc) i ps) (All-drop (λ doc. doc < d) i (docs_of ps) below)

pub below_at : (d : ℕ) (ps : List Posting) (i : ℕ) → i < length ps → All (λ doc. doc < d) (docs_of ps) → (get_or ps i (record { doc = 0; tf = 0 })).doc < d
below_at d ps i inside below =
    let P : List Posting → Type 0 = λ (qs : List Posting). All (λ doc. doc < d) (docs_of qs) in
    All-head (λ doc. doc < d) (get_or ps i (record { doc = 0; tf = 0 })).doc (docs_of (drop (i + 1) ps)) (subst P (next_posting ps i inside) (below_rest d ps i below))

-- the sum at one document is within the sum of all
pub sum_within : (lengths whole : List ℕ) (ps : List Posting) (i : ℕ) → i < length ps → All (λ doc. doc < length lengths) (docs_of ps)
    → with_postings lengths (drop i ps) ≡ whole
    → get_or lengths (get_or ps i (record { doc = 0; tf = 0 })).doc 0 + (get_or ps i (record { doc = 0; tf = 0 })).tf ≤ get_or whole (get_or ps i (record { doc = 0; tf = 0 })).doc 0
sum_within lengths whole ps i inside below is =
    let p : Posting = get_or ps i (record { doc = 0; tf = 0 }) in
    let now : List ℕ = set lengths p.doc (get_or lengths p.doc 0 + p.tf) in
    let long : length now ≡ length lengths = length-set lengths p.doc (get_or lengths p.doc 0 + p.tf) in
    let here : get_or now p.doc 0 ≡ get_or lengths p.doc 0 + p.tf = get_or-set_same lengths p.doc (get_or lengths p.doc 0 + p.tf) 0 (below_at (length lengths) ps i inside below) in
    let rest : All (λ doc. doc < length now) (docs_of (drop (i + 1) ps)) = subst (λ (n : ℕ). All (λ doc. doc < n) (docs_of (drop (i + 1) ps))) (sym long) (below_rest (length lengths) ps (i + 1) below) in
    let same : with_postings now (drop (i + 1) ps) ≡ whole = ap (with_postings lengths) (sym (next_posting ps i inside)) ∙ is in
    omega (arith, grown now (drop (i + 1) ps) p.doc rest, ap (λ (s : List ℕ). get_or s p.doc 0) same)
