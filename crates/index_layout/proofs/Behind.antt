-- What is read behind what was read before.
use Rattle.std.proofs.Common.{◌≡◌, List, [], ◌∷◌, ◌++◌, Result, Ok, Err, append_assoc, ap, sym, refl, ℕ, suc, ◌∙◌}
use Rattle.index_model.specs.Index.{SegmentData, TermData}
use Rattle.index_layout.specs.declared.refusal.OpenRefusal.{OpenRefusal}
use Rattle.index_layout.specs.Heads.{HeadData, TermHeads}
use Rattle.index_layout.specs.Refusals.{◌>>=◌}
use Rattle.index_layout.specs.Reading.{HeadsRead, TermsRead, SegmentsRead, IndexRead, head_end, head_in, read_heads}
use Rattle.index_layout.specs.Bytes.{u16_in}
use Rattle.index_layout.proofs.HeadLaws.{head_impact}

-- ---- heads

abbrev pub with_heads : List HeadData → Result HeadsRead OpenRefusal → Result HeadsRead OpenRefusal
with_heads front read = read >>= λ x. Ok (record { heads = front ++ x.heads; end = x.end })

pub behind_heads : (front : List HeadData) (h : HeadData) (read : Result HeadsRead OpenRefusal) → with_heads front (read >>= λ later. Ok (record { heads = h ∷ later.heads; end = later.end })) ≡ with_heads (front ++ h ∷ []) read
behind_heads front h (Ok x) = ap (λ (heads : List HeadData). (let r : Result HeadsRead OpenRefusal = Ok (record { heads = heads; end = x.end }) in r)) (sym (append_assoc front (h ∷ []) x.heads))
behind_heads front h (Err e) = refl

-- one head more
pub heads_on : (bytes : List ℕ) (d : ℕ) (total : Result HeadsRead OpenRefusal) (front : List HeadData) (k left above at next : ℕ) (h : HeadData) → total ≡ with_heads front (read_heads bytes d k above at) → k ≡ suc left
    → head_end bytes d above at ≡ Ok next → h ≡ head_in bytes at
    → total ≡ with_heads (front ++ h ∷ []) (read_heads bytes d left h.impact next)
heads_on bytes d total front k left above at next h is more end head =
    let impact : u16_in bytes at ≡ h.impact = sym (head_impact bytes at) ∙ ap (λ (h : HeadData). h.impact) (sym head) in
    is ∙ ap (λ n. with_heads front (read_heads bytes d n above at)) more
    ∙ ap (λ (e : Result ℕ OpenRefusal). with_heads front (e >>= λ next. (read_heads bytes d left (u16_in bytes at) next >>= λ later. Ok (record { heads = head_in bytes at ∷ later.heads; end = later.end })))) end
    ∙ behind_heads front (head_in bytes at) (read_heads bytes d left (u16_in bytes at) next)
    ∙ ap (λ h. with_heads (front ++ h ∷ []) (read_heads bytes d left (u16_in bytes at) next)) (sym head)
    ∙ ap (λ n. with_heads (front ++ h ∷ []) (read_heads bytes d left n next)) impact

-- ---- terms with their heads

abbrev pub with_terms : List TermHeads → Result TermsRead OpenRefusal → Result TermsRead OpenRefusal
with_terms front read = read >>= λ x. Ok (record { terms = front ++ x.terms; end = x.end })

pub behind_terms : (front : List TermHeads) (t : TermHeads) (read : Result TermsRead OpenRefusal) → with_terms front (read >>= λ later. Ok (record { terms = t ∷ later.terms; end = later.end })) ≡ with_terms (front ++ t ∷ []) read
behind_terms front t (Ok x) = ap (λ (terms : List TermHeads). (let r : Result TermsRead OpenRefusal = Ok (record { terms = terms; end = x.end }) in r)) (sym (append_assoc front (t ∷ []) x.terms))
behind_terms front t (Err e) = refl

-- ---- segments

abbrev pub with_segments : List SegmentData → Result SegmentsRead OpenRefusal → Result SegmentsRead OpenRefusal
with_segments front read = read >>= λ x. Ok (record { segments = front ++ x.segments; end = x.end })

pub behind_segments : (front : List SegmentData) (s : SegmentData) (read : Result SegmentsRead OpenRefusal) → with_segments front (read >>= λ later. Ok (record { segments = s ∷ later.segments; end = later.end })) ≡ with_segments (front ++ s ∷ []) read
behind_segments front s (Ok x) = ap (λ (segments : List SegmentData). (let r : Result SegmentsRead OpenRefusal = Ok (record { segments = segments; end = x.end }) in r)) (sym (append_assoc front (s ∷ []) x.segments))
behind_segments front s (Err e) = refl

-- ---- terms with their segments

abbrev pub with_index : List TermData → Result IndexRead OpenRefusal → Result IndexRead OpenRefusal
with_index front read = read >>= λ x. Ok (record { terms = front ++ x.terms; end = x.end })

pub behind_index : (front : List TermData) (t : TermData) (read : Result IndexRead OpenRefusal) → with_index front (read >>= λ later. Ok (record { terms = t ∷ later.terms; end = later.end })) ≡ with_index (front ++ t ∷ []) read
behind_index front t (Ok x) = ap (λ (terms : List TermData). (let r : Result IndexRead OpenRefusal = Ok (record { terms = terms; end = x.end }) in r)) (sym (append_assoc front (t ∷ []) x.terms))
behind_index front t (Err e) = refl
