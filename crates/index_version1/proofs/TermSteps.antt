-- Terms that are read one after the other.
use Rattle.shared_lemmas.proofs.Common.{◌≡◌, ◌≤◌, ◌+◌, nat_lt, true, false, get_or, arith, zero, ℕ, suc, map, length, List, [], ◌∷◌, ◌++◌, Option, Some, Result, Ok, ap, sym, subst, ◌∙◌, refl, slice_range, map_push, IsUtf8, is_utf8, is_utf8-from_IsUtf8}
use Rattle.index_version1.proofs.Below.{u16_in, u32_in, TermOrder, Heads, OpenRefusal, OpenFault, TermHeads, ◌>>=◌, Fails, judged, refuse, HeadsRead, TermsRead, read_heads, rises_behind, with_terms, behind_terms}
use Rattle.index_layout.specs.declared.refusal.OpenFault.TheVariants as faults
use Rattle.index_version1.specs.declared.old_term.OldTerm.{OldTerm}
use Rattle.index_version1.specs.Reading.{segments1_place, term1_checks, term1_end, term1_in, heads1_in, read_terms1}
use Rattle.index_version1.specs.Private.Tables.{before_of, head_data, term_heads}
use Rattle.shared_lemmas.proofs.Texts.{no_utf8}

-- one term more
pub terms_on : (bytes : List ℕ) (d : ℕ) (total : Result TermsRead OpenRefusal) (front : List TermHeads) (k left : ℕ) (before : Option (List ℕ)) (at place : ℕ) (here : HeadsRead) → total ≡ with_terms front (read_terms1 bytes d k before at) → k ≡ suc left → term1_end bytes before at ≡ Ok place
    → read_heads bytes d (heads1_in bytes at) 65536 place ≡ Ok here
    → total ≡ with_terms (front ++ record { term = term1_in bytes at; heads = here.heads } ∷ []) (read_terms1 bytes d left (Some (term1_in bytes at)) here.end)
terms_on bytes d total front k left before at place here is more end heads =
    is ∙ ap (λ n. with_terms front (read_terms1 bytes d n before at)) more
    ∙ ap (λ (e : Result ℕ OpenRefusal). with_terms front (e >>= λ place. (read_heads bytes d (heads1_in bytes at) 65536 place >>= λ here. (read_terms1 bytes d left (Some (term1_in bytes at)) here.end >>= λ later.
    Ok (record { terms = record { term = term1_in bytes at; heads = here.heads } ∷ later.terms; end = later.end }))))) end
    ∙ ap (λ (e : Result HeadsRead OpenRefusal). with_terms front (e >>= λ here. (read_terms1 bytes d left (Some (term1_in bytes at)) here.end >>= λ later.
    Ok (record { terms = record { term = term1_in bytes at; heads = here.heads } ∷ later.terms; end = later.end })))) heads
    ∙ behind_terms front (record { term = term1_in bytes at; heads = here.heads }) (read_terms1 bytes d left (Some (term1_in bytes at)) here.end)

-- the last term
pub before_pushed : (terms : List OldTerm) (t : OldTerm) → before_of (terms ++ t ∷ []) ≡ Some t.term
before_pushed [] t = refl
before_pushed (u ∷ []) t = refl
before_pushed (u ∷ v ∷ terms) t = before_pushed (v ∷ terms) t

pub last_of : (terms : List OldTerm) (i : ℕ) (t : OldTerm) → i + 1 ≡ length terms → t ≡ get_or terms i t → before_of terms ≡ Some t.term
last_of [] i t size is = absurd (omega (arith, size))
last_of (u ∷ []) zero t size is = ap (λ (t : OldTerm). (let o : Option (List ℕ) = Some t.term in o)) (sym is)
last_of (u ∷ []) (suc i) t size is = absurd (omega (arith, size))
last_of (u ∷ v ∷ terms) zero t size is = absurd (omega (arith, size))
last_of (u ∷ v ∷ terms) (suc i) t size is = last_of (v ∷ terms) i t (omega (arith, size)) is

-- a term that isn't text, and one without segments
pub term_not : (bytes : List ℕ) (before : Option (List ℕ)) (at size : ℕ) (e : OpenFault) → size ≡ u16_in bytes at → e ≡ faults.Refused (record { at = at; why = TermOrder }) → at + 2 ≤ length bytes → at + 2 + size + 4 ≤ length bytes
    → (IsUtf8 (slice_range bytes (at + 2) (at + 2 + size)) → ⊥) → Fails e (term1_end bytes before at)
unfolding term1_end term1_checks term1_in
term_not bytes before at size e is fault one two none =
    let place : at + 2 + size ≡ segments1_place bytes at = ap (λ n. at + 2 + n) is in
    let x : nat_lt (length bytes) (at + 2) ≡ false = grind (arith, one) in
    let y : nat_lt (length bytes) (segments1_place bytes at + 4) ≡ false = rw (← place) (grind (arith, two)) in
    let no : is_utf8 (slice_range bytes (at + 2) (segments1_place bytes at)) ≡ false = subst (λ n. is_utf8 (slice_range bytes (at + 2) n) ≡ false) place (no_utf8 (slice_range bytes (at + 2) (at + 2 + size)) none) in
    subst (λ e. Fails e (judged (term1_checks bytes before at) (segments1_place bytes at + 4))) (sym fault) (rw (x, y, no) refl)

pub term_empty : (bytes : List ℕ) (before : Option (List ℕ)) (at size : ℕ) (e : OpenFault) → size ≡ u16_in bytes at → e ≡ faults.Refused (record { at = at + 2 + size; why = Heads }) → at + 2 ≤ length bytes → at + 2 + size + 4 ≤ length bytes
    → IsUtf8 (slice_range bytes (at + 2) (at + 2 + size)) → rises_behind before (slice_range bytes (at + 2) (at + 2 + size)) ≡ true → u32_in bytes (at + 2 + size) ≡ 0 → Fails e (term1_end bytes before at)
unfolding term1_end term1_checks term1_in
term_empty bytes before at size e is fault one two text rise none =
    let place : at + 2 + size ≡ segments1_place bytes at = ap (λ n. at + 2 + n) is in
    let x : nat_lt (length bytes) (at + 2) ≡ false = grind (arith, one) in
    let y : nat_lt (length bytes) (segments1_place bytes at + 4) ≡ false = rw (← place) (grind (arith, two)) in
    let yes : is_utf8 (slice_range bytes (at + 2) (segments1_place bytes at)) ≡ true = subst (λ n. is_utf8 (slice_range bytes (at + 2) n) ≡ true) place (is_utf8-from_IsUtf8 (slice_range bytes (at + 2) (at + 2 + size)) text) in
    let above : rises_behind before (slice_range bytes (at + 2) (segments1_place bytes at)) ≡ true = subst (λ n. rises_behind before (slice_range bytes (at + 2) n) ≡ true) place rise in
    let zero_is : u32_in bytes (segments1_place bytes at) ≡ 0 = ap (u32_in bytes) (sym place) ∙ none in
    subst (λ e. Fails e (judged (term1_checks bytes before at) (segments1_place bytes at + 4))) (sym fault) (rw (x, y, yes, above, zero_is) (ap (λ n. (let r : Result ℕ OpenRefusal = refuse n Heads in r)) (sym place)))

-- a term is put behind others
pub old_turn : (bytes : List ℕ) (d : ℕ) (total : Result TermsRead OpenRefusal) (terms new : List OldTerm) (t : OldTerm) (k left at place end : ℕ) → new ≡ terms ++ t ∷ [] → total ≡ with_terms (map term_heads terms) (read_terms1 bytes d k (before_of terms) at) → k ≡ suc left
    → term1_end bytes (before_of terms) at ≡ Ok place → t.term ≡ term1_in bytes at → read_heads bytes d (heads1_in bytes at) 65536 place ≡ Ok (record { heads = map head_data t.heads; end = end })
    → total ≡ with_terms (map term_heads new) (read_terms1 bytes d left (before_of new) end)
old_turn bytes d total terms new t k left at place end put is more stands term heads =
    let here : HeadsRead = record { heads = map head_data t.heads; end = end } in
    terms_on bytes d total (map term_heads terms) k left (before_of terms) at place here is more stands heads
    ∙ ap (λ (xs : List ℕ). with_terms (map term_heads terms ++ record { term = xs; heads = map head_data t.heads } ∷ []) (read_terms1 bytes d left (Some xs) end)) (sym term)
    ∙ ap (λ (o : Option (List ℕ)). with_terms (map term_heads terms ++ term_heads t ∷ []) (read_terms1 bytes d left o end)) (sym (before_pushed terms t))
    ∙ ap (λ (ts : List TermHeads). with_terms ts (read_terms1 bytes d left (before_of (terms ++ t ∷ [])) end)) (sym (map_push term_heads terms t))
    ∙ ap (λ (ts : List OldTerm). with_terms (map term_heads ts) (read_terms1 bytes d left (before_of ts) end)) (sym put)
