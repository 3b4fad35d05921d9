-- The mentions of words as they stand, one word after the other.
use Rattle.shared_lemmas.proofs.Common.{◌≡◌, ℕ, ◌+◌, ◌<◌, ◌≤◌, cond, List, [], ◌∷◌, ◌++◌, length, get_or, take, map, refl, ap, sym, subst, ◌∙◌, arith, map-append, map_more, length-map, length-take-le, recursion_from_All, sum_by-append, Option, Some, None, String, is_none, All, AllPairs}
use Rattle.shared_lemmas.proofs.Common.{string_bytes, Global}
use Rattle.jass_base.specs.declared.query_term.QueryTerm.{QueryTerm}
use Rattle.query_reader.specs.Mentions.{Mention, words_as_mentions, term_number, named_of, unknown_of}
use Rattle.query_reader.specs.declared.refusal.QueryWhy.{QueryWhy}
use Rattle.query_reader.specs.Reading.{broken_limit}
use Rattle.query_reader.specs.Private.Tally.{tallied}
use Rattle.query_reader.proofs.Limits.{limit-none}
use Rattle.query_reader.proofs.QueryLaws.{few-over}
use Rattle.query_reader.proofs.NamedTerms.{named-known, named-unknown}
use Rattle.query_reader.proofs.Facts.{named-below, named-few, named-some, named-differ, named-bounded, words-once, words-factors}

-- the mentions of words
abbrev pub said : List (String Global) → List Mention
said words = words_as_mentions (map string_bytes words)

abbrev once : List ℕ → Mention
once word = record { term = word; factor = 1 }

said-more : (words : List (String Global)) (i : ℕ) (word : String Global) → i < length words → word ≡ get_or words i word → said (take (i + 1) words) ≡ said (take i words) ++ once (string_bytes word) ∷ []
said-more words i word inside read = ap words_as_mentions (map_more string_bytes words i word inside)
    ∙ map-append once (map string_bytes (take i words)) (string_bytes (get_or words i word) ∷ [])
    ∙ ap (λ w. said (take i words) ++ once (string_bytes w) ∷ []) (sym read)

-- a word that is a known term
pub named-more : (terms : List (List ℕ)) (words : List (String Global)) (i : ℕ) (word : String Global) (ns new : List QueryTerm) (k : ℕ) → i < length words
    → word ≡ get_or words i word → term_number terms (once (string_bytes word)) ≡ Some k → ns ≡ named_of terms (said (take i words)) → new ≡ tallied ns k 1
    → new ≡ named_of terms (said (take (i + 1) words))
named-more terms words i word ns new k inside read known so_far put = put ∙ ap (λ xs. tallied xs k 1) so_far
    ∙ sym (named-known (term_number terms) (said (take i words)) (once (string_bytes word)) k known)
    ∙ ap (named_of terms) (sym (said-more words i word inside read))

-- a word that is none
pub named-same : (terms : List (List ℕ)) (words : List (String Global)) (i : ℕ) (word : String Global) (ns : List QueryTerm) → i < length words
    → word ≡ get_or words i word → term_number terms (once (string_bytes word)) ≡ None → ns ≡ named_of terms (said (take i words))
    → ns ≡ named_of terms (said (take (i + 1) words))
named-same terms words i word ns inside read none so_far = so_far
    ∙ sym (named-unknown (term_number terms) (said (take i words)) (once (string_bytes word)) none)
    ∙ ap (named_of terms) (sym (said-more words i word inside read))

-- the unknown words are counted
pub unknown-more : (terms : List (List ℕ)) (words : List (String Global)) (i : ℕ) (word : String Global) (number : Option ℕ) → i < length words
    → word ≡ get_or words i word → term_number terms (once (string_bytes word)) ≡ number → unknown_of terms (said (take (i + 1) words)) ≡ unknown_of terms
    (said (take i words)) + cond (is_none number) 1 0
unknown-more terms words i word number inside read is = ap (unknown_of terms) (said-more words i word inside read)
    ∙ sum_by-append (λ m. cond (is_none (term_number terms m)) 1 0) (said (take i words)) (once (string_bytes word) ∷ [])
    ∙ ap (λ o. unknown_of terms (said (take i words)) + (0 + cond (is_none o) 1 0)) is ∙ omega arith

said-long : (words : List (String Global)) → length (said words) ≡ length words
said-long words = length-map (map string_bytes words) once ∙ length-map words string_bytes

pub named-fit : (terms : List (List ℕ)) (words : List (String Global)) (ns : List QueryTerm) → ns ≡ named_of terms (said words) → All (λ (n : QueryTerm). n.times ≤ length words) ns
named-fit terms words ns is = subst (λ xs. All (λ (n : QueryTerm). n.times ≤ length words) xs) (sym is)
    (λ k d inside. omega (arith, named-bounded (term_number terms) (said words) k d inside, words-factors (map string_bytes words), length-map words (string_bytes {Z = Global})))

pub said-few : (terms : List (List ℕ)) (words : List (String Global)) (ns : List QueryTerm) → ns ≡ named_of terms (said words) → length ns ≤ length words
said-few terms words ns is = omega (arith, ap length is, named-few (term_number terms) (said words), said-long words)

pub said-some : (terms : List (List ℕ)) (words : List (String Global)) (ns : List QueryTerm) → ns ≡ named_of terms (said words) → All (λ (n : QueryTerm). 1 ≤ n.times) ns
said-some terms words ns is = subst (All (λ (n : QueryTerm). 1 ≤ n.times)) (sym is) (named-some (term_number terms) (said words) (words-once (map string_bytes words)))

pub said-differ : (terms : List (List ℕ)) (words : List (String Global)) (ns : List QueryTerm) → ns ≡ named_of terms (said words) → AllPairs (λ (m n : QueryTerm). m.term ≡ n.term → ⊥) ns
said-differ terms words ns is = subst (AllPairs (λ (m n : QueryTerm). m.term ≡ n.term → ⊥)) (sym is) (named-differ (term_number terms) (said words))

-- few words break no limit
pub said-within : (terms : List (List ℕ)) (words : List (String Global)) → length words ≤ 255 → broken_limit (named_of terms (said words)) ≡ None
said-within terms words few =
    let ns = named_of terms (said words) in
    limit-none ns (omega (arith, said-few terms words ns refl, few))
    (few-over ns (recursion_from_All (λ (n : QueryTerm). n.times ≤ 255) ns (λ k d inside. omega (arith, named-fit terms words ns refl k d inside, few))))

pub so-far-within : (terms : List (List ℕ)) (words : List (String Global)) (i : ℕ) (ns : List QueryTerm) → i ≤ length words → length words ≤ 255 → ns ≡ named_of terms (said (take i words)) → broken_limit ns ≡ None
so-far-within terms words i ns inside few is = ap broken_limit is ∙ said-within terms (take i words) (omega (arith, length-take-le i words inside, few))

-- so a known word never does
pub never-refused : (terms : List (List ℕ)) (words : List (String Global)) (i : ℕ) (word : String Global) (ns : List QueryTerm) (k : ℕ) (why : QueryWhy) → i < length words → word ≡ get_or words i word → length words ≤ 255
    → term_number terms (once (string_bytes word)) ≡ Some k → ns ≡ named_of terms (said (take i words)) → broken_limit (tallied ns k 1) ≡ Some why → ⊥
never-refused terms words i word ns k why inside read few known so_far broken = impossible (so-far-within terms words (i + 1) (tallied ns k 1) (omega (arith, inside)) few (named-more terms words i word ns (tallied ns k 1) k inside read known so_far refl))
  where
    impossible : broken_limit (tallied ns k 1) ≡ None → ⊥
    impossible none = cc

pub said-known : (terms : List (List ℕ)) (words : List (String Global)) (ns : List QueryTerm) → ns ≡ named_of terms (said words) → All (λ (n : QueryTerm). n.term < length terms) ns
said-known terms words ns is = subst (All (λ (n : QueryTerm). n.term < length terms)) (sym is) (named-below terms (said words))
