-- The terms that were checked so far, and those that follow.
use Rattle.shared_lemmas.proofs.Common.{◌≡◌, ◌<◌, ◌+◌, ◌-◌, ◌==◌, ℕ, suc, false, List, [], ◌∷◌, ◌++◌, Option, Some, None, Result, Ok, Err, ap, sym, subst, refl, ◌∙◌, arith, nat_tests}
use Rattle.std.proofs.lemmas.Grind.{flat_map-append}
use Rattle.std.proofs.lemmas.List.{append-nil}
use Rattle.index_layout.specs.Heads.{TermHeads, all_heads}
use Rattle.index_layout.specs.Reading.{HeadsRead, TermsRead, heads_in, read_heads, read_terms, term_end, term_in}
use Rattle.index_layout.specs.Refusals.{◌>>=◌}
use Rattle.index_layout.specs.declared.refusal.OpenFault.{OpenFault}
use Rattle.index_layout.specs.declared.refusal.OpenFault.TheVariants as faults
use Rattle.index_layout.specs.declared.refusal.OpenRefusal.{OpenRefusal}
use Rattle.index_layout.proofs.Behind.{behind_terms, with_terms}
use Rattle.index_file.specs.Sums.{AreSums}
use Rattle.index_file.specs.declared.sums.Sums.{Sums}
use Rattle.index_file.specs.Answers.{Stops}
use Rattle.index_check.specs.Private.Answers.{EndsHeads, EndsTerms, before_of}

-- one term more
terms_on : (bytes : List ℕ) (d : ℕ) (total : Result TermsRead OpenRefusal) (front : List TermHeads) (k left : ℕ) (before : Option (List ℕ)) (at place : ℕ) (here : HeadsRead) → total ≡ with_terms front (read_terms bytes d k before at) → k ≡ suc left → term_end bytes before at ≡ Ok place
    → read_heads bytes d (heads_in bytes at) 65536 place ≡ Ok here
    → total ≡ with_terms (front ++ record { term = term_in bytes before at; heads = here.heads } ∷ []) (read_terms bytes d left (Some (term_in bytes before at)) here.end)
terms_on bytes d total front k left before at place here is more end heads =
    is ∙ ap (λ n. with_terms front (read_terms bytes d n before at)) more
    ∙ ap (λ (e : Result ℕ OpenRefusal). with_terms front (e >>= λ place. (read_heads bytes d (heads_in bytes at) 65536 place >>= λ here. (read_terms bytes d left (Some (term_in bytes before at)) here.end >>= λ later.
    Ok (record { terms = record { term = term_in bytes before at; heads = here.heads } ∷ later.terms; end = later.end }))))) end
    ∙ ap (λ (e : Result HeadsRead OpenRefusal). with_terms front (e >>= λ here. (read_terms bytes d left (Some (term_in bytes before at)) here.end >>= λ later.
    Ok (record { terms = record { term = term_in bytes before at; heads = here.heads } ∷ later.terms; end = later.end })))) heads
    ∙ behind_terms front (record { term = term_in bytes before at; heads = here.heads }) (read_terms bytes d left (Some (term_in bytes before at)) here.end)

-- no term more
terms_end : (bytes : List ℕ) (d : ℕ) (total : Result TermsRead OpenRefusal) (front : List TermHeads) (k : ℕ) (before : Option (List ℕ)) (at : ℕ) → total ≡ with_terms front (read_terms bytes d k before at) → k ≡ 0 → total ≡ Ok (record { terms = front; end = at })
terms_end bytes d total front k before at is none =
    is ∙ ap (λ n. with_terms front (read_terms bytes d n before at)) none
    ∙ ap (λ (terms : List TermHeads). (let r : Result TermsRead OpenRefusal = Ok (record { terms = terms; end = at }) in r)) (append-nil front)

no_terms : (read : Result TermsRead OpenRefusal) → read ≡ with_terms [] read
no_terms (Ok x) = refl
no_terms (Err e) = refl

-- what stops the rest stops the whole
rest_stops : (fault : OpenFault) (front : List TermHeads) (total rest : Result TermsRead OpenRefusal) → total ≡ with_terms front rest → Stops fault rest → Stops fault total
rest_stops (faults.Refused refusal) front total rest is stops = is ∙ ap (with_terms front) stops
rest_stops faults.ReadFault front total rest is stops = tt
rest_stops faults.NoMemory front total rest is stops = tt

step_stops : {A : Type 0} (fault : OpenFault) (read : Result A OpenRefusal) (f : A → Result TermsRead OpenRefusal) → Stops fault read → Stops fault (read >>= f)
step_stops (faults.Refused refusal) read f is = ap (λ r. r >>= f) is
step_stops faults.ReadFault read f is = tt
step_stops faults.NoMemory read f is = tt

stops_as : (fault : OpenFault) (x y : Result TermsRead OpenRefusal) → x ≡ y → Stops fault y → Stops fault x
stops_as (faults.Refused refusal) x y same is = same ∙ is
stops_as faults.ReadFault x y same is = tt
stops_as faults.NoMemory x y same is = tt

-- so many of the terms stand checked, the last of which is this one; the others follow at a place
abbrev pub TermsTill : List ℕ → ℕ → ℕ → ℕ → ℕ → List ℕ → Sums → ℕ → Type 0
TermsTill content d k from i term sums at =
    (front : List TermHeads) × (read_terms content d k None from ≡ with_terms front (read_terms content d (k - i) (before_of (i == 0) term) at)) × AreSums sums (all_heads front)

pub till_start : (content : List ℕ) (d k from : ℕ) (term : List ℕ) → TermsTill content d k from 0 term (record { postings = 0; greatest = 0 }) from
till_start content d k from term =
    let all : k ≡ k - 0 = omega arith in
    ([], no_terms (read_terms content d k None from) ∙ ap (λ n. with_terms [] (read_terms content d n None from)) all, record { postings = refl; greatest = refl })

module _ (content : List ℕ) (d k from i : ℕ) (term : List ℕ) (sums : Sums) (at : ℕ) (till : TermsTill content d k from i term sums at) where
  abbrev before : Option (List ℕ)
  before = before_of (i == 0) term

  pub till_next : (place n next : ℕ) (newer : List ℕ) (more : Sums) → i < k → term_end content before at ≡ Ok place → n ≡ heads_in content at → EndsHeads sums more (Ok next) (read_heads content d n 65536 place)
      → newer ≡ term_in content before at → TermsTill content d k from (i + 1) newer more next
  till_next place n next newer more inside end count heads is =
      let x : HeadsRead = heads.0 in
      let t : TermHeads = record { term = term_in content before at; heads = x.heads } in
      let left = k - (i + 1) in
      let one : k - i ≡ suc left = omega (arith, inside) in
      let read : read_heads content d (heads_in content at) 65536 place ≡ Ok x = ap (λ n. read_heads content d n 65536 place) (sym count) ∙ heads.1 in
      let later : (i + 1 == 0) ≡ false = grind (arith, nat_tests) in
      let all : all_heads (till.0 ++ t ∷ []) ≡ all_heads till.0 ++ x.heads = flat_map-append (λ (t : TermHeads). t.heads) till.0 (t ∷ []) ∙ ap (λ heads. all_heads till.0 ++ heads) (append-nil x.heads) in (
        till.0 ++ t ∷ [],
        terms_on content d (read_terms content d k None from) till.0 (k - i) left before at place x till.1 one end read
            ∙ ap (λ t. with_terms (till.0 ++ (let h : TermHeads = record { term = term_in content before at; heads = x.heads } in h) ∷ []) (read_terms content d left (Some t) x.end)) (sym is)
            ∙ ap (λ n. with_terms (till.0 ++ t ∷ []) (read_terms content d left (Some newer) n)) heads.2
            ∙ ap (λ b. with_terms (till.0 ++ t ∷ []) (read_terms content d left (before_of b newer) next)) (sym later),
        subst (AreSums more) (sym all) (heads.3 (all_heads till.0) till.2),
      )

  pub term_stops : (fault : OpenFault) → i < k → Stops fault (term_end content before at) → Stops fault (read_terms content d k None from)
  term_stops fault inside stops =
      let left = k - (i + 1) in
      let one : k - i ≡ suc left = omega (arith, inside) in
      rest_stops fault till.0 (read_terms content d k None from) (read_terms content d (k - i) before at) till.1
      (stops_as fault (read_terms content d (k - i) before at) (read_terms content d (suc left) before at) (ap (λ n. read_terms content d n before at) one)
      (step_stops fault (term_end content before at) (λ place. (read_heads content d (heads_in content at) 65536 place >>= λ here. (read_terms content d left (Some (term_in content before at)) here.end >>= λ later.
      Ok (record { terms = record { term = term_in content before at; heads = here.heads } ∷ later.terms; end = later.end })))) stops))

  pub heads_stop : (fault : OpenFault) (place n : ℕ) → i < k → term_end content before at ≡ Ok place → n ≡ heads_in content at → Stops fault (read_heads content d n 65536 place) → Stops fault (read_terms content d k None from)
  heads_stop fault place n inside end count stops =
      let left = k - (i + 1) in
      let one : k - i ≡ suc left = omega (arith, inside) in
      let there = subst (λ n. Stops fault (read_heads content d n 65536 place)) count stops in
      let same : read_terms content d (k - i) before at ≡ (read_heads content d (heads_in content at) 65536 place >>= λ here. (read_terms content d left (Some (term_in content before at)) here.end >>= λ later.
      Ok (record { terms = record { term = term_in content before at; heads = here.heads } ∷ later.terms; end = later.end }))) =
      ap (λ n. read_terms content d n before at) one
      ∙ ap (λ (e : Result ℕ OpenRefusal). e >>= λ place. (read_heads content d (heads_in content at) 65536 place >>= λ here. (read_terms content d left (Some (term_in content before at)) here.end >>= λ later.
      Ok (record { terms = record { term = term_in content before at; heads = here.heads } ∷ later.terms; end = later.end })))) end in
      rest_stops fault till.0 (read_terms content d k None from) (read_terms content d (k - i) before at) till.1
      (stops_as fault (read_terms content d (k - i) before at) _ same
      (step_stops fault (read_heads content d (heads_in content at) 65536 place) (λ here. (read_terms content d left (Some (term_in content before at)) here.end >>= λ later.
      Ok (record { terms = record { term = term_in content before at; heads = here.heads } ∷ later.terms; end = later.end }))) there))

  pub till_end : k ≡ i → EndsTerms (Ok (sums, at)) (read_terms content d k None from)
  till_end all =
      let none : k - i ≡ 0 = omega (arith, all) in
      (record { terms = till.0; end = at }, terms_end content d (read_terms content d k None from) till.0 (k - i) before at till.1 none, refl, till.2)
