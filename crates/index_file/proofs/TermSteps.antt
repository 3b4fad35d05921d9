-- Terms that are read one by one.
use Rattle.shared_lemmas.proofs.Common.{◌≡◌, ◌+◌, ◌≤◌, ℕ, suc, arith, List, [], ◌∷◌, ◌++◌, Option, Some, None, Result, Ok, Err, ap, sym, subst, ◌∙◌, refl}
use Rattle.shared_lemmas.proofs.Results.{ok_same}
use Rattle.std.proofs.lemmas.List.{append-nil}
use Rattle.index_layout.proofs.Judging.{bind_ok, judged_ok}
use Rattle.index_layout.specs.Reading.{segments_place, term_checks, term_end}
use Rattle.index_layout.specs.declared.refusal.OpenFault.TheVariants as faults
use Rattle.index_file.proofs.Below.{Fails, OpenFault, OpenRefusal, TermHeads, ◌>>=◌, HeadsRead, TermsRead, term_in, heads_in, read_heads, read_terms, with_terms, behind_terms}

-- what is read behind the heads of a term
abbrev later_terms : List ℕ → ℕ → ℕ → List ℕ → HeadsRead → Result TermsRead OpenRefusal
later_terms bytes d left term here =
    read_terms bytes d left (Some term) here.end >>= λ later.
    Ok (record { terms = record { term = term; heads = here.heads } ∷ later.terms; end = later.end })

-- what is read behind a term itself
abbrev later_heads : List ℕ → ℕ → ℕ → Option (List ℕ) → ℕ → ℕ → Result TermsRead OpenRefusal
later_heads bytes d left before at place =
    read_heads bytes d (heads_in bytes at) 65536 place >>= later_terms bytes d left (term_in bytes before at)

-- the text of the first of some terms
abbrev first_text : List TermHeads → List ℕ
first_text [] = []
first_text (t ∷ terms) = t.term

step : (bytes : List ℕ) (d left : ℕ) (before : Option (List ℕ)) (at place : ℕ) (here : HeadsRead) → term_end bytes before at ≡ Ok place → read_heads bytes d (heads_in bytes at) 65536 place ≡ Ok here
    → read_terms bytes d (suc left) before at ≡ later_terms bytes d left (term_in bytes before at) here
step bytes d left before at place here end heads =
    ap (λ (e : Result ℕ OpenRefusal). e >>= later_heads bytes d left before at) end
    ∙ ap (λ (e : Result HeadsRead OpenRefusal). e >>= later_terms bytes d left (term_in bytes before at)) heads

-- one term alone
pub one_read : (bytes : List ℕ) (d : ℕ) (before : Option (List ℕ)) (at place : ℕ) (here : HeadsRead) → term_end bytes before at ≡ Ok place → read_heads bytes d (heads_in bytes at) 65536 place ≡ Ok here
    → read_terms bytes d 1 before at ≡ Ok (record { terms = record { term = term_in bytes before at; heads = here.heads } ∷ []; end = here.end })
one_read bytes d before at place here end heads = step bytes d 0 before at place here end heads

-- one term more
pub one_on : (bytes : List ℕ) (d left : ℕ) (before : Option (List ℕ)) (at end : ℕ) (term : TermHeads) (total : Result TermsRead OpenRefusal) (front : List TermHeads) (k : ℕ)
    → read_terms bytes d 1 before at ≡ Ok (record { terms = term ∷ []; end = end }) → total ≡ with_terms front (read_terms bytes d k before at) → k ≡ suc left
    → total ≡ with_terms (front ++ term ∷ []) (read_terms bytes d left (Some term.term) end)
one_on bytes d left before at end term total front k one is more =
    let t = term_in bytes before at in
    let x : TermsRead = record { terms = term ∷ []; end = end } in
    let a = bind_ok (term_end bytes before at) (later_heads bytes d 0 before at) x one in
    let b = bind_ok (read_heads bytes d (heads_in bytes at) 65536 a.0) (later_terms bytes d 0 t) x a.2 in
    let here : HeadsRead = b.0 in
    let y : TermsRead = record { terms = record { term = t; heads = here.heads } ∷ []; end = here.end } in
    let whole : total ≡ with_terms (front ++ y.terms) (read_terms bytes d left (Some t) here.end) =
    is ∙ ap (λ n. with_terms front (read_terms bytes d n before at)) more
    ∙ ap (with_terms front) (step bytes d left before at a.0 here a.1 b.1)
    ∙ behind_terms front (record { term = t; heads = here.heads }) (read_terms bytes d left (Some t) here.end) in
    subst (λ (x : TermsRead). total ≡ with_terms (front ++ x.terms) (read_terms bytes d left (Some (first_text x.terms)) x.end)) (ok_same y x b.2) whole

-- all terms are still to be read
pub all_terms : (bytes : List ℕ) (d k at : ℕ) (front : List TermHeads) (last : Option (List ℕ)) → front ≡ [] → last ≡ None → read_terms bytes d k None at ≡ with_terms front (read_terms bytes d k last at)
all_terms bytes d k at front last none first =
    all (read_terms bytes d k None at)
    ∙ ap (λ (front : List TermHeads). with_terms front (read_terms bytes d k None at)) (sym none)
    ∙ ap (λ last. with_terms front (read_terms bytes d k last at)) (sym first)
  where
    all : (x : Result TermsRead OpenRefusal) → x ≡ with_terms [] x
    all (Ok x) = refl
    all (Err x) = refl

-- no term more
pub terms_end : (bytes : List ℕ) (d : ℕ) (total : Result TermsRead OpenRefusal) (front : List TermHeads) (k : ℕ) (before : Option (List ℕ)) (at : ℕ) → total ≡ with_terms front (read_terms bytes d k before at) → k ≡ 0 → total ≡ Ok (record { terms = front; end = at })
terms_end bytes d total front k before at is none =
    is ∙ ap (λ n. with_terms front (read_terms bytes d n before at)) none
    ∙ ap (λ (terms : List TermHeads). (let r : Result TermsRead OpenRefusal = Ok (record { terms = terms; end = at }) in r)) (append-nil front)

-- what is refused whatever comes behind it
refused_on : {A B : Type 0} (r : OpenRefusal) (e : Result A OpenRefusal) (f g : A → Result B OpenRefusal) → ((x : A) → f x ≡ Err r → g x ≡ Err r) → (e >>= f) ≡ Err r → (e >>= g) ≡ Err r
refused_on r (Ok x) f g more is = more x is
refused_on r (Err q) f g more is = cc

-- a term that is refused alone is so before others
pub one_not : (bytes : List ℕ) (d left : ℕ) (before : Option (List ℕ)) (at : ℕ) (fault : OpenFault) (total : Result TermsRead OpenRefusal) (front : List TermHeads) (k : ℕ)
    → Fails fault (read_terms bytes d 1 before at) → total ≡ with_terms front (read_terms bytes d k before at) → k ≡ suc left → Fails fault total
one_not bytes d left before at (faults.Refused refusal) total front k fails is more =
    is ∙ ap (λ n. with_terms front (read_terms bytes d n before at)) more
    ∙ ap (with_terms front) (refused_on refusal (term_end bytes before at) (later_heads bytes d 0 before at) (later_heads bytes d left before at)
    (λ place. refused_on refusal (read_heads bytes d (heads_in bytes at) 65536 place) (later_terms bytes d 0 (term_in bytes before at)) (later_terms bytes d left (term_in bytes before at))
    (λ here no. (let bad : ⊥ = cc in absurd bad))) fails)
one_not bytes d left before at faults.ReadFault total front k fails is more = fails
one_not bytes d left before at faults.NoMemory total front k fails is more = tt

-- the heads of a term stand behind its place
pub end_behind : (bytes : List ℕ) (before : Option (List ℕ)) (at place : ℕ) → term_end bytes before at ≡ Ok place → at ≤ place
unfolding term_end
end_behind bytes before at place end =
    let is = (judged_ok (term_checks bytes before at) (segments_place bytes at + 4) place end).1 in
    omega (arith, is)
