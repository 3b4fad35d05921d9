-- The greatest impact of what was read.
use Rattle.std.proofs.Common.{◌≡◌, ℕ, ◌≤◌, ◌^◌, List, [], ◌∷◌, ◌++◌, length, map, None, Ok, ap, sym, ◌∙◌, refl, arith, flat_map, max}
use Rattle.index_version1.proofs.Below.{TermSegments, Codec, SegmentData, TermData, term_data, HeadData, TermHeads, heads_of, terms_heads, all_heads, greatest_of, greatest_impact, greatest_in, HaveCodecs, IndexRead, head_codecs, read_payloads, Only, Fit, first_codecs, payloads_only, TermsRise}
use Rattle.index_version1.proofs.Below.{greatest_kept}
use Rattle.jass_base.specs.Terms as memory

heads_greatest : (d : ℕ) (segments : List SegmentData) (codecs : List Codec) (more : List HeadData) (rest : List SegmentData) → length codecs ≡ length segments → greatest_of more ≡ greatest_in rest → greatest_of (heads_of d segments codecs ++ more) ≡ greatest_in (segments ++ rest)
heads_greatest d [] codecs more rest same is = is
heads_greatest d (s ∷ segments) [] more rest same is = absurd (omega (arith, same))
heads_greatest d (s ∷ segments) (codec ∷ codecs) more rest same is = ap (max s.impact) (heads_greatest d segments codecs more rest (omega (arith, same)) is)

terms_greatest : (d : ℕ) (terms : List TermData) (codecs : List (List Codec)) → HaveCodecs terms codecs → greatest_impact (terms_heads d terms codecs) ≡ greatest_in (flat_map (λ (t : TermData). t.segments) terms)
terms_greatest d [] codecs have = refl
terms_greatest d (t ∷ terms) [] have = absurd cc
terms_greatest d (t ∷ terms) (here ∷ codecs) have =
    let first = first_codecs t terms here codecs have in
    heads_greatest d t.segments here (all_heads (terms_heads d terms codecs)) (flat_map (λ (t : TermData). t.segments) terms) first.0 (terms_greatest d terms codecs first.1)

-- the greatest impact of the heads is that of the segments that were read
pub greatest_read : Only → (bytes : List ℕ) (d : ℕ) (heads : List TermHeads) (at end : ℕ) (terms : List TermSegments) → Fit bytes → d ≤ 2 ^ 26 → TermsRise d None heads → at ≤ length bytes
    → read_payloads bytes d heads at ≡ Ok (record { terms = map term_data terms; end = end }) → greatest_impact heads ≡ memory.greatest_impact terms
greatest_read only bytes d heads at end terms fits limit rise from read =
    let x : IndexRead = record { terms = map term_data terms; end = end } in
    let are = payloads_only only bytes d None heads at x fits limit rise from read in
    ap greatest_impact (sym are.same) ∙ terms_greatest d (map term_data terms) (head_codecs heads) are.have ∙ greatest_kept terms
