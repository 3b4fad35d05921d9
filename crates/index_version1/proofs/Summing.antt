-- The sums over the heads of terms.
use Rattle.shared_lemmas.proofs.Common.{suc, add-one, ◌≡◌, ℕ, ◌+◌, ◌<◌, ◌≤◌, ◌==◌, false, List, [], ◌∷◌, ◌++◌, length, map, take, drop, get_or, ap, sym, ◌∙◌, refl, arith, max, sum_by, take-suc, nat_tests, flat_map-append, map-append, take-append-drop, sum_by-append, sum_by-cons}
use Rattle.std.proofs.Math.Seq.{drop-cons}
use Rattle.std.proofs.lemmas.List.{append-nil}
use Rattle.index_version1.proofs.Below.{HeadData, TermHeads, all_heads, head_postings, greatest_of, greatest_impact, greatest_joins}
use Rattle.index_version1.specs.declared.head.Head.{Head}
use Rattle.index_version1.specs.declared.old_term.OldTerm.{OldTerm}
use Rattle.index_version1.specs.Private.Tables.{head_data, term_heads}

abbrev count_of : HeadData → ℕ
count_of h = h.count

counts_map : (heads : List Head) → sum_by count_of (map head_data heads) ≡ sum_by (λ (h : Head). h.count) heads
counts_map [] = refl
counts_map (h ∷ heads) = sum_by-cons count_of (head_data h) (map head_data heads) ∙ ap (λ n. h.count + n) (counts_map heads) ∙ sym (sum_by-cons (λ (h : Head). h.count) h heads)

postings_join : (one two : List OldTerm) → head_postings (map term_heads (one ++ two)) ≡ head_postings (map term_heads one) + head_postings (map term_heads two)
postings_join one two =
    ap head_postings (map-append term_heads one two) ∙ ap (sum_by count_of) (flat_map-append (λ (t : TermHeads). t.heads) (map term_heads one) (map term_heads two))
    ∙ sum_by-append count_of (all_heads (map term_heads one)) (all_heads (map term_heads two))

pub postings_more : (terms : List OldTerm) (i : ℕ) (t : OldTerm) → i < length terms → t ≡ get_or terms i t
    → head_postings (map term_heads (take (i + 1) terms)) ≡ head_postings (map term_heads (take i terms)) + sum_by (λ (h : Head). h.count) t.heads
postings_more terms i t inside is =
    ap (λ n. head_postings (map term_heads (take n terms))) (add-one i)
    ∙ ap (λ (ts : List OldTerm). head_postings (map term_heads ts)) (take-suc terms i t inside ∙ ap (λ x. take i terms ++ x ∷ []) (sym is))
    ∙ postings_join (take i terms) (t ∷ []) ∙ ap (λ n. head_postings (map term_heads (take i terms)) + n) (ap (sum_by count_of) (append-nil (map head_data t.heads)) ∙ counts_map t.heads)

pub postings_front : (terms : List OldTerm) (n : ℕ) → head_postings (map term_heads (take n terms)) ≤ head_postings (map term_heads terms)
postings_front terms n =
    let e = ap (λ (ts : List OldTerm). head_postings (map term_heads ts)) (sym (take-append-drop n terms)) ∙ postings_join (take n terms) (drop n terms) in
    omega (arith, e)

pub unequal : (m n : ℕ) → m < n → false ≡ (m == n)
unequal m n less = grind (arith, nat_tests, less)

pub next_term : (terms : List OldTerm) (i : ℕ) (t : OldTerm) → i < length terms → t ≡ get_or terms i t → drop i terms ≡ t ∷ drop (i + 1) terms
next_term terms i t inside is = drop-cons terms i t inside ∙ ap (λ x. x ∷ drop (suc i) terms) (sym is) ∙ ap (λ n. t ∷ drop n terms) (sym (add-one i))

pub greatest_next : (terms : List OldTerm) (i : ℕ) (t : OldTerm) → i < length terms → t ≡ get_or terms i t
    → greatest_impact (map term_heads (drop i terms)) ≡ max (greatest_of (map head_data t.heads)) (greatest_impact (map term_heads (drop (i + 1) terms)))
greatest_next terms i t inside is =
    ap (λ (ts : List OldTerm). greatest_impact (map term_heads ts)) (next_term terms i t inside is)
    ∙ greatest_joins (map head_data t.heads) (all_heads (map term_heads (drop (i + 1) terms)))
