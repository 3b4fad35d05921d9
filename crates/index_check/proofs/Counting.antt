-- How many names and terms are read, and the greatest impact of the segments that are.
use Rattle.shared_lemmas.proofs.Common.{◌≡◌, ℕ, zero, suc, List, [], ◌∷◌, ◌++◌, length, max, flat_map, Option, Some, Result, Ok, ap, ap₂, sym, ◌∙◌, arith}
use Rattle.index_model.specs.Index.{SegmentData, TermData}
use Rattle.index_layout.specs.Heads.{HeadData, TermHeads, all_heads, greatest_of}
use Rattle.index_layout.specs.Reading.{HeadsRead, IndexRead, NamesRead, SegmentsRead, TermsRead, docs_in, heads_in, name_end, name_in, payload_end, read_heads, read_names, read_payloads, read_segments, read_terms, term_end, term_in}
use Rattle.index_layout.specs.Refusals.{◌>>=◌}
use Rattle.index_layout.specs.Totals.{greatest_in}
use Rattle.index_layout.specs.declared.refusal.OpenRefusal.{OpenRefusal}
use Rattle.index_layout.proofs.Greatest.{greatest_joins}
use Rattle.index_layout.proofs.Judging.{bind_ok}
use Rattle.shared_lemmas.proofs.Numbers.{max_joins}
use Rattle.shared_lemmas.proofs.Results.{ok_same}

-- the value that was answered
of_ok : {A B : Type 0} (f : A → B) (x y : A) → (let r : Result A OpenRefusal = Ok x in r) ≡ Ok y → f y ≡ f x
of_ok f x y is = ap f (sym (ok_same x y is))

pub names_count : (bytes : List ℕ) (k at : ℕ) (x : NamesRead) → read_names bytes k at ≡ Ok x → length x.names ≡ k
names_count bytes zero at x is = of_ok (λ (w : NamesRead). length w.names) (record { names = []; end = at }) x is
names_count bytes (suc k) at x is =
    let one = bind_ok (name_end bytes at) (λ next. (read_names bytes k next >>= λ later. Ok (record { names = name_in bytes at ∷ later.names; end = later.end }))) x is in
    let more = bind_ok (read_names bytes k one.0) (λ later. Ok (record { names = name_in bytes at ∷ later.names; end = later.end })) x one.2 in
    of_ok (λ (w : NamesRead). length w.names) (record { names = name_in bytes at ∷ more.0.names; end = more.0.end }) x more.2
    ∙ ap suc (names_count bytes k one.0 more.0 more.1)

pub terms_count : (bytes : List ℕ) (d k : ℕ) (before : Option (List ℕ)) (at : ℕ) (x : TermsRead) → read_terms bytes d k before at ≡ Ok x → length x.terms ≡ k
terms_count bytes d zero before at x is = of_ok (λ (w : TermsRead). length w.terms) (record { terms = []; end = at }) x is
terms_count bytes d (suc k) before at x is =
    let t = term_in bytes before at in
    let one = bind_ok (term_end bytes before at) (λ place. (read_heads bytes d (heads_in bytes at) 65536 place >>= λ here. (read_terms bytes d k (Some t) here.end >>= λ later.
    Ok (record { terms = record { term = t; heads = here.heads } ∷ later.terms; end = later.end })))) x is in
    let two = bind_ok (read_heads bytes d (heads_in bytes at) 65536 one.0) (λ here. (read_terms bytes d k (Some t) here.end >>= λ later.
    Ok (record { terms = record { term = t; heads = here.heads } ∷ later.terms; end = later.end }))) x one.2 in
    let here : HeadsRead = two.0 in
    let more = bind_ok (read_terms bytes d k (Some t) here.end) (λ (later : TermsRead). (let r : Result TermsRead OpenRefusal = Ok (record { terms = record { term = t; heads = here.heads } ∷ later.terms; end = later.end }) in r)) x two.2 in
    let later : TermsRead = more.0 in
    let all : TermsRead = record { terms = record { term = t; heads = here.heads } ∷ later.terms; end = later.end } in
    let one_more : length x.terms ≡ suc (length later.terms) = of_ok (λ (w : TermsRead). length w.terms) all x more.2 in
    one_more ∙ ap suc (terms_count bytes d k (Some t) here.end later more.1)

-- what the first term and the later ones are read as
record PayloadsApart (bytes : List ℕ) (d : ℕ) (t : TermHeads) (terms : List TermHeads) (at : ℕ) (z : IndexRead) : Type 0 where
  here : SegmentsRead
  later : IndexRead
  first : read_segments bytes d [] t.heads at ≡ Ok here
  rest : read_payloads bytes d terms here.end ≡ Ok later
  parted : z.terms ≡ record { term = t.term; segments = here.segments } ∷ later.terms

payloads_apart : (bytes : List ℕ) (d : ℕ) (t : TermHeads) (terms : List TermHeads) (at : ℕ) (z : IndexRead) → read_payloads bytes d (t ∷ terms) at ≡ Ok z → PayloadsApart bytes d t terms at z
payloads_apart bytes d t terms at z is =
    let one = bind_ok (read_segments bytes d [] t.heads at) (λ here. (read_payloads bytes d terms here.end >>= λ later.
    Ok (record { terms = record { term = t.term; segments = here.segments } ∷ later.terms; end = later.end }))) z is in
    let here : SegmentsRead = one.0 in
    let more = bind_ok (read_payloads bytes d terms here.end) (λ (later : IndexRead). (let r : Result IndexRead OpenRefusal = Ok (record { terms = record { term = t.term; segments = here.segments } ∷ later.terms; end = later.end }) in r)) z one.2 in
    let later : IndexRead = more.0 in
    record {
      here = here;
      later = later;
      first = one.1;
      rest = more.1;
      parted = of_ok (λ (w : IndexRead). w.terms) (record { terms = record { term = t.term; segments = here.segments } ∷ later.terms; end = later.end }) z more.2;
    }

pub payloads_count : (bytes : List ℕ) (d : ℕ) (terms : List TermHeads) (at : ℕ) (z : IndexRead) → read_payloads bytes d terms at ≡ Ok z → length z.terms ≡ length terms
payloads_count bytes d [] at z is = of_ok (λ (w : IndexRead). length w.terms) (record { terms = []; end = at }) z is
payloads_count bytes d (t ∷ terms) at z is =
    let parts = payloads_apart bytes d t terms at z is in
    ap length parts.parted ∙ ap suc (payloads_count bytes d terms parts.here.end parts.later parts.rest)

-- the segments have the impacts of the heads
segments_greatest : (bytes : List ℕ) (d : ℕ) (earlier : List ℕ) (heads : List HeadData) (at : ℕ) (x : SegmentsRead) → read_segments bytes d earlier heads at ≡ Ok x → greatest_in x.segments ≡ greatest_of heads
segments_greatest bytes d earlier [] at x is = of_ok (λ (w : SegmentsRead). greatest_in w.segments) (record { segments = []; end = at }) x is
segments_greatest bytes d earlier (h ∷ heads) at x is =
    let docs = docs_in bytes d h at in
    let one = bind_ok (payload_end bytes d earlier h at) (λ next. (read_segments bytes d (earlier ++ docs) heads next >>= λ later.
    Ok (record { segments = record { impact = h.impact; docs = docs } ∷ later.segments; end = later.end }))) x is in
    let more = bind_ok (read_segments bytes d (earlier ++ docs) heads one.0) (λ (later : SegmentsRead). (let r : Result SegmentsRead OpenRefusal = Ok (record { segments = record { impact = h.impact; docs = docs } ∷ later.segments; end = later.end }) in r)) x one.2 in
    let later : SegmentsRead = more.0 in
    of_ok (λ (w : SegmentsRead). greatest_in w.segments) (record { segments = record { impact = h.impact; docs = docs } ∷ later.segments; end = later.end }) x more.2
    ∙ ap (max h.impact) (segments_greatest bytes d (earlier ++ docs) heads one.0 later more.1)

segments_join : (segments more : List SegmentData) → greatest_in (segments ++ more) ≡ max (greatest_in segments) (greatest_in more)
segments_join [] more = omega arith
segments_join (s ∷ segments) more = ap (max s.impact) (segments_join segments more) ∙ sym (max_joins s.impact (greatest_in segments) (greatest_in more))

abbrev segments_of : TermData → List SegmentData
segments_of t = t.segments

pub payloads_greatest : (bytes : List ℕ) (d : ℕ) (terms : List TermHeads) (at : ℕ) (z : IndexRead) → read_payloads bytes d terms at ≡ Ok z
    → greatest_in (flat_map (λ (t : TermData). t.segments) z.terms) ≡ greatest_of (all_heads terms)
payloads_greatest bytes d [] at z is = of_ok (λ (w : IndexRead). greatest_in (flat_map segments_of w.terms)) (record { terms = []; end = at }) z is
payloads_greatest bytes d (t ∷ terms) at z is =
    let parts = payloads_apart bytes d t terms at z is in
    ap (λ (terms : List TermData). greatest_in (flat_map segments_of terms)) parts.parted
    ∙ segments_join parts.here.segments (flat_map segments_of parts.later.terms)
    ∙ ap₂ max (segments_greatest bytes d [] t.heads at parts.here parts.first) (payloads_greatest bytes d terms parts.here.end parts.later parts.rest)
    ∙ sym (greatest_joins t.heads (all_heads terms))
