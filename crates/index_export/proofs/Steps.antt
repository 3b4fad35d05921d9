-- One step of a loop that builds a list.
use Rattle.shared_lemmas.proofs.Common.{◌≡◌, ℕ, zero, suc, ◌+◌, ◌≤◌, List, [], ◌∷◌, ◌++◌, length, map, take, drop, sym, ap, ◌∙◌, arith, append_assoc, Some, slice_get, map-append, take-append-drop, length-take, length-drop}
use Rattle.jass_base.specs.declared.posting.Posting.{Posting}
use Rattle.index_export.specs.Private.Gathering.{doc_postings}

behind : {A : Type 0} (xs : List A) (i : ℕ) (x : A) → slice_get xs i ≡ Some x → drop i xs ≡ x ∷ drop (suc i) xs
behind [] i x is = cc
behind (y ∷ ys) zero x is = let e : y ≡ x = cc in ap (λ z. z ∷ ys) e
behind (y ∷ ys) (suc i) x is = behind ys i x is

pub there : {A : Type 0} (xs : List A) (i : ℕ) (x : A) → slice_get xs i ≡ Some x → drop i xs ≡ x ∷ drop (i + 1) xs
there {A} xs i x is = let e : suc i ≡ i + 1 = omega arith in behind xs i x is ∙ ap (λ n. x ∷ drop n xs) e

-- one item more, and one fewer to come
pub one_more : {A B C : Type 0} (f : A → C) (g : B → C) (xs now : List A) (x : A) (ys : List B) (i : ℕ) (y : B) (whole : List C)
    → drop i ys ≡ y ∷ drop (i + 1) ys → now ≡ xs ++ x ∷ [] → f x ≡ g y → map f xs ++ map g (drop i ys) ≡ whole → map f now ++ map g (drop (i + 1) ys) ≡ whole
one_more {A} {B} {C} f g xs now x ys i y whole at is same before =
    ap (λ (l : List A). map f l ++ map g (drop (i + 1) ys)) is
    ∙ ap (λ (l : List C). l ++ map g (drop (i + 1) ys)) (map-append f xs (x ∷ []))
    ∙ append_assoc (map f xs) (f x ∷ []) (map g (drop (i + 1) ys))
    ∙ ap (λ (c : C). map f xs ++ c ∷ map g (drop (i + 1) ys)) same
    ∙ ap (λ (l : List B). map f xs ++ map g l) (sym at)
    ∙ before

-- a block more
pub block_more : (impact n : ℕ) (postings now whole : List Posting) (given docs : List ℕ)
    → given ≡ take n docs → now ≡ postings ++ doc_postings impact given → postings ++ doc_postings impact docs ≡ whole → now ++ doc_postings impact (drop n docs) ≡ whole
block_more impact n postings now whole given docs block is before =
    ap (λ (l : List Posting). l ++ doc_postings impact (drop n docs)) (is ∙ ap (λ (l : List ℕ). postings ++ doc_postings impact l) block)
    ∙ append_assoc postings (doc_postings impact (take n docs)) (doc_postings impact (drop n docs))
    ∙ ap (λ (l : List Posting). postings ++ l) (sym (map-append (λ (doc : ℕ). record { doc = doc; tf = impact }) (take n docs) (drop n docs)))
    ∙ ap (λ (l : List ℕ). postings ++ doc_postings impact l) (take-append-drop n docs)
    ∙ before

-- so many documents were there
pub block_counted : (n : ℕ) (block docs : List ℕ) → take n block ≡ take n docs → n ≤ length block → length (drop n docs) + n ≡ length docs
block_counted n block docs same within =
    let a = length-take n block in
    let b = length-take n docs in
    let c = ap length same in
    let d = length-drop n docs in
    omega (arith, a, b, c, d, within)
