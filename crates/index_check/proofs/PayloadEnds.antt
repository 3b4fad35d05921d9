-- The terms whose payloads were checked so far, and those that follow.
use Rattle.shared_lemmas.proofs.Common.{◌≡◌, ◌≤◌, ◌<◌, ◌+◌, ◌*◌, ◌-◌, ℕ, suc, All, List, [], ◌∷◌, ◌++◌, length, Option, Some, None, Result, Ok, Err, ap, sym, subst, refl, ◌∙◌, arith, sum_by, sum_by-append}
use Rattle.index_model.specs.Index.{TermData}
use Rattle.index_layout.specs.Heads.{HeadData, TermHeads, all_heads, head_postings}
use Rattle.index_layout.specs.Reading.{HeadsRead, IndexRead, SegmentsRead, TermsRead, heads_in, read_heads, read_payloads, read_segments, read_terms, segments_place, term_end, term_in}
use Rattle.index_layout.specs.View.{term_postings}
use Rattle.index_layout.specs.Refusals.{◌>>=◌}
use Rattle.index_layout.specs.declared.refusal.OpenFault.{OpenFault}
use Rattle.index_layout.specs.declared.refusal.OpenFault.TheVariants as faults
use Rattle.index_layout.specs.declared.refusal.OpenRefusal.{OpenRefusal}
use Rattle.index_layout.proofs.Behind.{behind_index, with_index}
use Rattle.index_layout.proofs.Judging.{bind_ok}
use Rattle.index_file.specs.Parts.{IsCounted, heads_from}
use Rattle.index_file.specs.Answers.{Stops}
use Rattle.index_check.specs.Private.Answers.{EndsIndex, EndsSegments}
use Rattle.index_check.proofs.HeadsRead.{heads_read, term_read}

abbrev count_of : HeadData → ℕ
count_of h = h.count

no_index : (read : Result IndexRead OpenRefusal) → read ≡ with_index [] read
no_index (Ok x) = refl
no_index (Err e) = refl

-- what is known of the next term, where terms were read: where its heads stand, and what follows it
pub record NextTerm (content : List ℕ) (d left at : ℕ) (y : TermsRead) : Type 0 where
  pub place : ℕ
  pub term : List ℕ
  pub rest : TermsRead
  pub there : place ≡ segments_place content at + 4
  pub within : place + 11 * heads_in content at ≤ length content
  pub counted : All (IsCounted d) (heads_from content (heads_in content at) place)
  pub read : read_terms content d left (Some term) (place + 11 * heads_in content at) ≡ Ok rest
  pub terms : y.terms ≡ record { term = term; heads = heads_from content (heads_in content at) place } ∷ rest.terms

pub next_term : (content : List ℕ) (d left at : ℕ) (before : Option (List ℕ)) (y : TermsRead) → read_terms content d (suc left) before at ≡ Ok y → NextTerm content d left at y
next_term content d left at before y is =
    let t = term_in content before at in
    let one = bind_ok (term_end content before at) (λ place. (read_heads content d (heads_in content at) 65536 place >>= λ here. (read_terms content d left (Some t) here.end >>= λ later.
    Ok (record { terms = record { term = t; heads = here.heads } ∷ later.terms; end = later.end })))) y is in
    let place = one.0 in
    let spot = term_read content before at place one.1 in
    let two = bind_ok (read_heads content d (heads_in content at) 65536 place) (λ here. (read_terms content d left (Some t) here.end >>= λ later.
    Ok (record { terms = record { term = t; heads = here.heads } ∷ later.terms; end = later.end }))) y one.2 in
    let here : HeadsRead = two.0 in
    let heads = heads_read content d (heads_in content at) 65536 place here spot.1 two.1 in
    let three = bind_ok (read_terms content d left (Some t) here.end) (λ (later : TermsRead). (let r : Result TermsRead OpenRefusal = Ok (record { terms = record { term = t; heads = here.heads } ∷ later.terms; end = later.end }) in r)) y two.2 in
    let later : TermsRead = three.0 in
    let whole : y ≡ (let w : TermsRead = record { terms = record { term = t; heads = here.heads } ∷ later.terms; end = later.end } in w) = (let same = three.2 in cc) in
    record {
      place = place;
      term = t;
      rest = later;
      there = spot.0;
      within = heads.2;
      counted = subst (All (IsCounted d)) heads.0 heads.3;
      read = ap (λ n. read_terms content d left (Some t) n) (sym heads.1) ∙ three.1;
      terms = ap (λ (w : TermsRead). w.terms) whole ∙ ap (λ (h : List HeadData). (let term : TermHeads = record { term = t; heads = h } in term) ∷ later.terms) heads.0;
    }

-- the payloads of so many terms stand checked; those of the others follow at a place
pub record PayloadsTill (content : List ℕ) (d k : ℕ) (all : List TermHeads) (payloads i term at : ℕ) : Type 0 where
  pub before : Option (List ℕ)
  pub left : TermsRead
  pub front : List TermData
  pub terms : read_terms content d (k - i) before term ≡ Ok left
  pub read : read_payloads content d all payloads ≡ with_index front (read_payloads content d left.terms at)
  pub postings : sum_by term_postings front + head_postings left.terms ≡ head_postings all

pub payloads_start : (content : List ℕ) (d k from payloads : ℕ) (x : TermsRead) → read_terms content d k None from ≡ Ok x → PayloadsTill content d k x.terms payloads 0 from payloads
payloads_start content d k from payloads x is =
    let all : k - 0 ≡ k = omega arith in
    record {
      before = None;
      left = x;
      front = [];
      terms = ap (λ n. read_terms content d n None from) all ∙ is;
      read = no_index (read_payloads content d x.terms payloads);
      postings = omega arith;
    }

rest_stops : (fault : OpenFault) (front : List TermData) (total rest : Result IndexRead OpenRefusal) → total ≡ with_index front rest → Stops fault rest → Stops fault total
rest_stops (faults.Refused refusal) front total rest is stops = is ∙ ap (with_index front) stops
rest_stops faults.ReadFault front total rest is stops = tt
rest_stops faults.NoMemory front total rest is stops = tt

step_stops : (fault : OpenFault) (read : Result SegmentsRead OpenRefusal) (f : SegmentsRead → Result IndexRead OpenRefusal) → Stops fault read → Stops fault (read >>= f)
step_stops (faults.Refused refusal) read f is = ap (λ r. r >>= f) is
step_stops faults.ReadFault read f is = tt
step_stops faults.NoMemory read f is = tt

stops_as : (fault : OpenFault) (x y : Result IndexRead OpenRefusal) → x ≡ y → Stops fault y → Stops fault x
stops_as (faults.Refused refusal) x y same is = same ∙ is
stops_as faults.ReadFault x y same is = tt
stops_as faults.NoMemory x y same is = tt

module _ (content : List ℕ) (d k : ℕ) (all : List TermHeads) (payloads i term at : ℕ) (till : PayloadsTill content d k all payloads i term at) where
  -- the next term
  pub term_ahead : i < k → NextTerm content d (k - (i + 1)) term till.left
  term_ahead inside =
      let one : suc (k - (i + 1)) ≡ k - i = omega (arith, inside) in
      next_term content d (k - (i + 1)) term till.before till.left (ap (λ n. read_terms content d n till.before term) one ∙ till.terms)

  module _ (place n : ℕ) (next : NextTerm content d (k - (i + 1)) term till.left) (there : place ≡ segments_place content term + 4) (count : n ≡ heads_in content term) where
    abbrev its_heads : List HeadData
    its_heads = heads_from content n place

    here_is : heads_from content (heads_in content term) next.place ≡ its_heads
    here_is = (let same : next.place ≡ place = next.there ∙ sym there in ap (heads_from content (heads_in content term)) same ∙ ap (λ n. heads_from content n place) (sym count))

    pub counted_ahead : All (IsCounted d) its_heads
    counted_ahead = subst (All (IsCounted d)) here_is next.counted

    -- what is read behind its payloads
    abbrev rest_read : SegmentsRead → Result IndexRead OpenRefusal
    rest_read here =
        read_payloads content d next.rest.terms here.end >>= λ later.
        Ok (record { terms = record { term = next.term; segments = here.segments } ∷ later.terms; end = later.end })

    whole_is : read_payloads content d till.left.terms at ≡ (read_segments content d [] its_heads at >>= rest_read)
    whole_is =
        ap (λ terms. read_payloads content d terms at) next.terms
        ∙ ap (λ heads. read_segments content d [] heads at >>= rest_read) here_is

    pub payloads_next : (end : ℕ) → EndsSegments its_heads (Ok end) (read_segments content d [] its_heads at) → PayloadsTill content d k all payloads (i + 1) (place + 11 * n) end
    payloads_next end segments =
        let x : SegmentsRead = segments.0 in
        let t : TermData = record { term = next.term; segments = x.segments } in
        let spot : next.place + 11 * heads_in content term ≡ place + 11 * n = omega (arith, there, count, next.there) in
        record {
          before = Some next.term;
          left = next.rest;
          front = till.front ++ t ∷ [];
          terms = ap (λ at. read_terms content d (k - (i + 1)) (Some next.term) at) (sym spot) ∙ next.read;
          read = till.read ∙ ap (with_index till.front) whole_is
              ∙ ap (λ (r : Result SegmentsRead OpenRefusal). with_index till.front (r >>= rest_read)) segments.1
              ∙ behind_index till.front t (read_payloads content d next.rest.terms x.end)
              ∙ ap (λ n. with_index (till.front ++ t ∷ []) (read_payloads content d next.rest.terms n)) segments.2;
          postings =
              let both = till.postings in
              let left = ap head_postings next.terms ∙ sum_by-append count_of (heads_from content (heads_in content term) next.place) (all_heads next.rest.terms) in
              let its = ap (sum_by count_of) here_is in
              let grown = sum_by-append term_postings till.front (t ∷ []) in
              let counts = segments.3 in
              omega (arith, both, left, its, grown, counts);
        }

    pub payloads_stop : (fault : OpenFault) → Stops fault (read_segments content d [] its_heads at) → Stops fault (read_payloads content d all payloads)
    payloads_stop fault stops =
        rest_stops fault till.front (read_payloads content d all payloads) (read_payloads content d till.left.terms at) till.read
        (stops_as fault (read_payloads content d till.left.terms at) (read_segments content d [] its_heads at >>= rest_read) whole_is
        (step_stops fault (read_segments content d [] its_heads at) rest_read stops))

  pub payloads_end : k ≡ i → EndsIndex all (Ok at) (read_payloads content d all payloads)
  payloads_end done =
      let none : k - i ≡ 0 = omega (arith, done) in
      let empty : (let r : Result TermsRead OpenRefusal = Ok (record { terms = []; end = term }) in r) ≡ Ok till.left = sym (ap (λ n. read_terms content d n till.before term) none) ∙ till.terms in
      let terms : (let w : TermsRead = record { terms = []; end = term } in w) ≡ till.left = cc in
      let no : till.left.terms ≡ [] = ap (λ (w : TermsRead). w.terms) (sym terms) in
      let x : IndexRead = record { terms = till.front ++ []; end = at } in
      let postings : sum_by term_postings (till.front ++ []) ≡ head_postings all =
      (let rest = ap head_postings no in let both = till.postings in let whole = sum_by-append term_postings till.front [] in omega (arith, rest, both, whole)) in
      (x, till.read ∙ ap (λ terms. with_index till.front (read_payloads content d terms at)) no, refl, postings)
