-- One document more, and one block more.
use Rattle.shared_lemmas.proofs.Common.{◌≡◌, ℕ, ◌+◌, ◌-◌, ◌*◌, ◌<◌, ◌≤◌, List, [], ◌∷◌, ◌++◌, length, get_or, take, drop, set, append-nil, sym, ap, ◌∙◌, append_assoc, arith, subst, drop_more, drop_all, length-take, length-append, take-append-le, take-take, take_more_set, take_all}
use Rattle.jass_base.specs.Gaps.{gaps_from, spelled_gaps}
use Rattle.jass_base.specs.Wire.{short_varint}
use Rattle.codec_packed.specs.Giving.{AreFrom}
use Rattle.jass_base.proofs.ShortVarints.{short_size}

-- ---- one document more
pub record Turn (d next i : ℕ) (docs : List ℕ) : Type 0 where
  pub least : next ≤ get_or docs i 0
  pub below : get_or docs i 0 < d
  pub are : AreFrom d (get_or docs i 0 + 1) (drop (i + 1) docs)
  pub gaps : gaps_from next (drop i docs) ≡ (get_or docs i 0 - next) ∷ gaps_from (get_or docs i 0 + 1) (drop (i + 1) docs)

pub turn : (d next i : ℕ) (docs : List ℕ) → AreFrom d next (drop i docs) → i < length docs → Turn d next i docs
turn d next i docs are inside =
    let is = drop_more docs i 0 inside in
    let first : AreFrom d next (get_or docs i 0 ∷ drop (i + 1) docs) = subst (AreFrom d next) is are in
    record { least = first.0; below = first.1; are = first.2; gaps = ap (gaps_from next) is }

-- the gaps so far, and those that are left
pub gaps_more : (d next i : ℕ) (docs gaps all : List ℕ) → Turn d next i docs → i < length gaps → take i gaps ++ gaps_from next (drop i docs) ≡ all
    → take (i + 1) (set gaps i (get_or docs i 0 - next)) ++ gaps_from (get_or docs i 0 + 1) (drop (i + 1) docs) ≡ all
gaps_more d next i docs gaps all t inside is =
    let gap = get_or docs i 0 - next in
    let left = gaps_from (get_or docs i 0 + 1) (drop (i + 1) docs) in
    ap (λ (xs : List ℕ). xs ++ left) (take_more_set gaps i gap inside)
    ∙ append_assoc (take i gaps) (gap ∷ []) left
    ∙ ap (λ (xs : List ℕ). take i gaps ++ xs) (sym t.gaps)
    ∙ is

pub gaps_all : (next i : ℕ) (docs gaps all : List ℕ) → length docs ≡ 128 → length gaps ≡ 128 → 128 ≤ i → take i gaps ++ gaps_from next (drop i docs) ≡ all → gaps ≡ all
gaps_all next i docs gaps all many full past is =
    sym (append-nil gaps)
    ∙ ap (λ (xs : List ℕ). xs ++ []) (sym (take_all i gaps (omega arith)))
    ∙ ap (λ (xs : List ℕ). take i gaps ++ gaps_from next xs) (sym (drop_all i docs (omega arith)))
    ∙ is

-- ---- bytes that are written behind others
pub front_more : (front bytes more : List ℕ) → take (length front) bytes ≡ front → take (length front) (bytes ++ more) ≡ front
front_more front bytes more is =
    let size = length-take (length front) bytes in
    let long : length front ≤ length bytes = omega (arith, size, ap length is) in
    take-append-le (length front) bytes more long ∙ is

pub front_kept : (front bytes more : List ℕ) → take (length front) bytes ≡ front → take (length bytes) more ≡ bytes → take (length front) more ≡ front
front_kept front bytes more is kept =
    let size = length-take (length front) bytes in
    let long : length front ≤ length bytes = omega (arith, size, ap length is) in
    sym (take-take (length front) (length bytes) more long) ∙ ap (take (length front)) kept ∙ is

-- ---- sizes

pub spelled_size : (gaps : List ℕ) → length (spelled_gaps gaps) ≤ 10 * length gaps
spelled_size [] = omega arith
spelled_size (gap ∷ gaps) = omega (arith, length-append (short_varint gap) (spelled_gaps gaps), short_size gap, spelled_size gaps)

pub few_docs : (d least : ℕ) (docs : List ℕ) → AreFrom d least docs → length docs ≤ d - least
few_docs d least [] are = omega arith
few_docs d least (doc ∷ docs) are = omega (arith, are.0, are.1, few_docs d (doc + 1) docs are.2)

pub size_more : (d next i size total : ℕ) (docs : List ℕ) → Turn d next i docs → size + length (spelled_gaps (gaps_from next (drop i docs))) ≡ total
    → size + length (short_varint (get_or docs i 0 - next)) + length (spelled_gaps (gaps_from (get_or docs i 0 + 1) (drop (i + 1) docs))) ≡ total
size_more d next i size total docs t is =
    let gap = get_or docs i 0 - next in
    let left = spelled_gaps (gaps_from (get_or docs i 0 + 1) (drop (i + 1) docs)) in
    omega (arith, is, ap (λ (xs : List ℕ). length (spelled_gaps xs)) t.gaps, length-append (short_varint gap) left)
