-- Parts that are put one after the other.
use Rattle.shared_lemmas.proofs.Common.{◌≡◌, ℕ, List, [], ◌++◌, length, ap, sym, refl, ◌∙◌, append-nil, append_assoc, drop, sum_by, length-map}
use Rattle.index_write.proofs.Below.{Totals, IndexData, u32_bytes, u64_bytes, HeadData, TermHeads, head_postings, greatest_of, greatest_impact, magic, file_length, names_bytes, shared_with, terms_bytes, index_greatest, totals_of, index_postings}
use Rattle.index_layout.specs.Bytes.{u16_bytes}
use Rattle.index_layout.specs.Layout.{front_bytes, totals_bytes, term_bytes}
use Rattle.index_write.specs.Chosen.{chosen_entry, chosen_terms}
use Rattle.index_write.specs.Streaming.{entries_totals}
use Rattle.index_write.specs.Private.Front.{first_bytes}
use Rattle.index_write.proofs.Texts.{table_is, all_counted, greatest_chosen}

-- what two calls put
pub both_put : (old a b x y : List ℕ) → x ≡ old ++ a → y ≡ x ++ b → y ≡ old ++ (a ++ b)
both_put old a b x y first second = second ∙ ap (λ xs. xs ++ b) first ∙ append_assoc old a b

pub four_put : (old a b c d w x y z : List ℕ) → w ≡ old ++ a → x ≡ w ++ b → y ≡ x ++ c → z ≡ y ++ d → z ≡ old ++ ((a ++ (b ++ c)) ++ d)
four_put old a b c d w x y z first second third fourth = both_put old (a ++ (b ++ c)) d y z (both_put old a (b ++ c) w y first (both_put w b c x y second third)) fourth

-- seven pieces, each spelled
pub seven : (a b c d e f g i j k l m n : List ℕ) → b ≡ i → c ≡ j → d ≡ k → e ≡ l → f ≡ m → g ≡ n
    → a ++ (b ++ (c ++ (d ++ (e ++ (f ++ (g ++ [])))))) ≡ a ++ (i ++ (j ++ (k ++ (l ++ (m ++ n)))))
seven a b c d e f g i j k l m n bi cj dk el fm gn = rw (bi, cj, dk, el, fm, gn) (ap (λ xs. a ++ (i ++ (j ++ (k ++ (l ++ (m ++ xs)))))) (append-nil n))

same_first : (l l2 : ℕ) (t : Totals) (d n p g : ℕ) → l ≡ l2 → t.docs ≡ d → t.terms ≡ n → t.postings ≡ p → t.greatest ≡ g
    → first_bytes l t ≡ magic ++ (u64_bytes l2 ++ (u32_bytes d ++ (u32_bytes n ++ (u64_bytes p ++ (u32_bytes g ++ u32_bytes 0)))))
same_first l l2 t d n p g a b c e f = rw (a, b, c, e, f) refl

-- the first 40 bytes of an index, and of names, terms and heads
pub totals_are : (index : IndexData) (l : ℕ) (t : Totals) → l ≡ file_length index.names (chosen_terms (length index.names) index.terms) → t ≡ totals_of index
    → first_bytes l t ≡ totals_bytes index.names (chosen_terms (length index.names) index.terms)
unfolding totals_bytes
totals_are index l t a is =
    let k = length index.names in
    let terms = chosen_terms k index.terms in
    let count : length index.terms ≡ length terms = sym (length-map index.terms (chosen_entry k)) in
    let table = table_is k index.terms in
    let postings : index_postings index ≡ head_postings terms = sym (ap (sum_by (λ (h : HeadData). h.count)) table ∙ all_counted k index.terms) in
    let greatest : index_greatest index ≡ greatest_impact terms = sym (ap greatest_of table ∙ greatest_chosen k index.terms) in
    same_first l (file_length index.names terms) t k (length terms) (head_postings terms) (greatest_impact terms) a
    (ap (λ (t : Totals). t.docs) is) (ap (λ (t : Totals). t.terms) is ∙ count) (ap (λ (t : Totals). t.postings) is ∙ postings) (ap (λ (t : Totals). t.greatest) is ∙ greatest)

pub entries_first : (names : List (List ℕ)) (entries : List TermHeads) (l : ℕ) (t : Totals) → l ≡ file_length names entries → t ≡ entries_totals (length names) entries
    → first_bytes l t ≡ totals_bytes names entries
unfolding totals_bytes
entries_first names entries l t a is =
    same_first l (file_length names entries) t (length names) (length entries) (head_postings entries) (greatest_impact entries) a
    (ap (λ (t : Totals). t.docs) is) (ap (λ (t : Totals). t.terms) is) (ap (λ (t : Totals). t.postings) is) (ap (λ (t : Totals). t.greatest) is)

-- what stands before the payloads, from its three parts
pub front_joined : (names : List (List ℕ)) (entries : List TermHeads) (first : List ℕ) → first ≡ totals_bytes names entries
    → first ++ (names_bytes names ++ (terms_bytes [] entries ++ [])) ≡ front_bytes names entries
unfolding front_bytes
front_joined names entries first is = ap (λ xs. first ++ (names_bytes names ++ xs)) (append-nil (terms_bytes [] entries)) ∙ ap (λ xs. xs ++ (names_bytes names ++ terms_bytes [] entries)) is

-- a term behind the one before it, from its numbers and the rest
pub term_joined : (before term head rest : List ℕ) (k : ℕ) → k ≡ shared_with before term → head ≡ u16_bytes k ++ u16_bytes (length rest) → rest ≡ drop k term → head ++ rest ≡ term_bytes before term
unfolding term_bytes
term_joined before term head rest k shared is behind =
    ap (λ xs. xs ++ rest) is ∙ append_assoc (u16_bytes k) (u16_bytes (length rest)) rest
    ∙ ap (λ r. u16_bytes k ++ (u16_bytes (length r) ++ r)) behind ∙ ap (λ n. u16_bytes n ++ (u16_bytes (length (drop n term)) ++ drop n term)) shared
