-- Terms whose payloads are read one after the other.
use Rattle.shared_lemmas.proofs.Common.{◌≡◌, ℕ, ◌≤◌, List, [], ◌∷◌, ◌++◌, length, map, Option, Some, Result, Ok, ap, sym, subst, ◌∙◌, map_push, length-map}
use Rattle.index_version1.proofs.Below.{TermSegments, TermData, segment_data, term_data, OpenRefusal, ◌>>=◌, SegmentsRead, IndexRead, read_segments, read_payloads, HeadsFall, TermsRise, with_index, behind_index}
use Rattle.index_version1.specs.declared.old_term.OldTerm.{OldTerm}
use Rattle.index_version1.specs.Private.Tables.{head_data, term_heads}

-- one term more
pub filled_on : (bytes : List ℕ) (d : ℕ) (total : Result IndexRead OpenRefusal) (done new : List TermSegments) (t : TermSegments) (old : OldTerm) (from rest : List OldTerm) (at end : ℕ) → new ≡ done ++ t ∷ [] → from ≡ old ∷ rest
    → total ≡ with_index (map term_data done) (read_payloads bytes d (map term_heads from) at) → t.term ≡ old.term
    → read_segments bytes d [] (map head_data old.heads) at ≡ Ok (record { segments = map segment_data t.segments; end = end })
    → total ≡ with_index (map term_data new) (read_payloads bytes d (map term_heads rest) end)
filled_on bytes d total done new t old from rest at end put split is term segments =
    let front = map term_data done in
    is ∙ ap (λ (ts : List OldTerm). with_index front (read_payloads bytes d (map term_heads ts) at)) split
    ∙ ap (λ (e : Result SegmentsRead OpenRefusal). with_index front (e >>= λ here. (read_payloads bytes d (map term_heads rest) here.end >>= λ later. Ok (record { terms = record { term = old.term; segments = here.segments } ∷ later.terms; end = later.end })))) segments
    ∙ behind_index front (record { term = old.term; segments = map segment_data t.segments }) (read_payloads bytes d (map term_heads rest) end)
    ∙ ap (λ (xs : List ℕ). with_index (front ++ record { term = xs; segments = map segment_data t.segments } ∷ []) (read_payloads bytes d (map term_heads rest) end)) (sym term)
    ∙ ap (λ (ts : List TermData). with_index ts (read_payloads bytes d (map term_heads rest) end)) (sym (map_push term_data done t) ∙ ap (map term_data) (sym put))

pub first_heads : (d : ℕ) (before : Option (List ℕ)) (old : OldTerm) (from rest : List OldTerm) → from ≡ old ∷ rest → TermsRise d before (map term_heads from) → (1 ≤ length old.heads) × HeadsFall d 65536 (map head_data old.heads) × TermsRise d (Some old.term) (map term_heads rest)
first_heads d before old from rest split rise =
    let r = subst (λ (ts : List OldTerm). TermsRise d before (map term_heads ts)) split rise in
    (subst (λ n. 1 ≤ n) (length-map old.heads head_data) r.1, r.2, r.3)
