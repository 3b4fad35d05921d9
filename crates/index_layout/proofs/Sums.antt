-- The totals of heads and of what they stand for.
use Rattle.shared_lemmas.proofs.Common.{◌≡◌, ℕ, suc, ◌+◌, ◌≤◌, List, [], ◌∷◌, ◌++◌, length, Option, Some, ap, sym, ◌∙◌, refl, arith, map, max, sum_by, length-append, sum_by-cons, sum_by-append}
use Rattle.segment_codecs.specs.declared.codec.Codec.{Codec}
use Rattle.segment_codecs.specs.Codecs.{payload_of}
use Rattle.index_model.specs.Index.{SegmentData, TermData}
use Rattle.index_layout.specs.Heads.{HeadData, TermHeads, head_of, heads_of, terms_heads, all_heads, head_postings, payloads_size, greatest_of, greatest_impact}
use Rattle.index_layout.specs.Layout.{segments_payloads, terms_payloads}
use Rattle.index_layout.specs.View.{HaveCodecs, term_postings}
use Rattle.index_layout.specs.Reading.{head_codecs}
use Rattle.index_layout.proofs.HeadLaws.{HeadsFall}
use Rattle.index_layout.proofs.TermLaws.{TermsRise}
use Rattle.index_layout.proofs.PayloadLaws.{first_codecs}

abbrev count_of : HeadData → ℕ
count_of h = h.count

abbrev size_of : HeadData → ℕ
size_of h = h.size

abbrev docs_of : SegmentData → ℕ
docs_of s = length s.docs

codecs_back : (d : ℕ) (segments : List SegmentData) (codecs : List Codec) → length codecs ≡ length segments → map (λ (h : HeadData). h.codec) (heads_of d segments codecs) ≡ codecs
codecs_back d [] [] same = refl
codecs_back d [] (codec ∷ codecs) same = absurd (omega (arith, same))
codecs_back d (s ∷ segments) [] same = absurd (omega (arith, same))
codecs_back d (s ∷ segments) (codec ∷ codecs) same = ap (λ cs. codec ∷ cs) (codecs_back d segments codecs (omega (arith, same)))

pub all_codecs_back : (d : ℕ) (terms : List TermData) (codecs : List (List Codec)) → HaveCodecs terms codecs → head_codecs (terms_heads d terms codecs) ≡ codecs
all_codecs_back d [] [] have = refl
all_codecs_back d [] (here ∷ codecs) have = absurd cc
all_codecs_back d (t ∷ terms) [] have = absurd cc
all_codecs_back d (t ∷ terms) (here ∷ codecs) have =
    let first = first_codecs t terms here codecs have in
    rw (codecs_back d t.segments here first.0, all_codecs_back d terms codecs first.1) refl

counted : (d : ℕ) (segments : List SegmentData) (codecs : List Codec) → length codecs ≡ length segments → sum_by count_of (heads_of d segments codecs) ≡ sum_by docs_of segments
counted d [] codecs same = refl
counted d (s ∷ segments) [] same = absurd (omega (arith, same))
counted d (s ∷ segments) (codec ∷ codecs) same =
    let a = sum_by-cons count_of (head_of d s codec) (heads_of d segments codecs) in
    let b = sum_by-cons docs_of s segments in
    let later = counted d segments codecs (omega (arith, same)) in
    a ∙ ap (λ n. length s.docs + n) later ∙ sym b

pub all_counted : (d : ℕ) (terms : List TermData) (codecs : List (List Codec)) → HaveCodecs terms codecs → head_postings (terms_heads d terms codecs) ≡ sum_by term_postings terms
all_counted d [] codecs have = refl
all_counted d (t ∷ terms) [] have = absurd cc
all_counted d (t ∷ terms) (here ∷ codecs) have =
    let first = first_codecs t terms here codecs have in
    let heads = heads_of d t.segments here in
    sum_by-append count_of heads (all_heads (terms_heads d terms codecs))
    ∙ ap (λ n. n + head_postings (terms_heads d terms codecs)) (counted d t.segments here first.0)
    ∙ ap (λ n. term_postings t + n) (all_counted d terms codecs first.1)
    ∙ sym (sum_by-cons term_postings t terms)

sized : (d : ℕ) (segments : List SegmentData) (codecs : List Codec) → sum_by size_of (heads_of d segments codecs) ≡ length (segments_payloads d segments codecs)
sized d [] codecs = refl
sized d (s ∷ segments) [] = refl
sized d (s ∷ segments) (codec ∷ codecs) =
    sum_by-cons size_of (head_of d s codec) (heads_of d segments codecs)
    ∙ ap (λ n. length (payload_of codec d s.docs) + n) (sized d segments codecs)
    ∙ sym (length-append (payload_of codec d s.docs) (segments_payloads d segments codecs))

pub all_sized : (d : ℕ) (terms : List TermData) (codecs : List (List Codec)) → payloads_size (terms_heads d terms codecs) ≡ length (terms_payloads d terms codecs)
all_sized d [] codecs = refl
all_sized d (t ∷ terms) [] = refl
all_sized d (t ∷ terms) (here ∷ codecs) =
    sum_by-append size_of (heads_of d t.segments here) (all_heads (terms_heads d terms codecs))
    ∙ ap (λ n. n + payloads_size (terms_heads d terms codecs)) (sized d t.segments here)
    ∙ ap (λ n. length (segments_payloads d t.segments here) + n) (all_sized d terms codecs)
    ∙ sym (length-append (segments_payloads d t.segments here) (terms_payloads d terms codecs))

max_small : (a b m : ℕ) → a ≤ m → b ≤ m → max a b ≤ m
max_small a b m one two = omega (arith, one, two)

greatest_falls : (d above m : ℕ) (heads more : List HeadData) → HeadsFall d above heads → above ≤ m → greatest_of more ≤ m → greatest_of (heads ++ more) ≤ m
greatest_falls d above m [] more fall below small = small
greatest_falls d above m (h ∷ heads) more fall below small =
    let falls = fall.0.falls in
    max_small h.impact (greatest_of (heads ++ more)) m (omega (arith, falls, below)) (greatest_falls d h.impact m heads more fall.1 (omega (arith, falls, below)) small)

pub greatest_small : (d : ℕ) (before : Option (List ℕ)) (terms : List TermHeads) → TermsRise d before terms → greatest_impact terms ≤ 65536
greatest_small d before [] rise = omega arith
greatest_small d before (t ∷ terms) rise = greatest_falls d 65536 65536 t.heads (all_heads terms) rise.2 (omega arith) (greatest_small d (Some t.term) terms rise.3)

pub heads_length : (d : ℕ) (terms : List TermData) (codecs : List (List Codec)) → HaveCodecs terms codecs → length (terms_heads d terms codecs) ≡ length terms
heads_length d [] codecs have = refl
heads_length d (t ∷ terms) [] have = absurd cc
heads_length d (t ∷ terms) (here ∷ codecs) have = ap suc (heads_length d terms codecs (first_codecs t terms here codecs have).1)
