-- What reading a term and its heads gives.
use Rattle.shared_lemmas.proofs.Common.{◌≡◌, ℕ, zero, suc, ◌+◌, ◌*◌, ◌≤◌, ◌==◌, false, nat_lt, List, [], ◌∷◌, length, map, range_with_len, Option, Ok, refl, sym, ap₂, subst, arith, nat_tests, All, All-cons, All-nil, or_parts}
use Rattle.index_layout.specs.Bytes.{u16_in, u32_in}
use Rattle.index_layout.specs.Heads.{HeadData}
use Rattle.index_layout.specs.Reading.{HeadsRead, head_in, head_checks, head_end, read_heads, segments_place, term_checks, term_end}
use Rattle.index_layout.specs.Refusals.{◌>>=◌}
use Rattle.index_layout.proofs.Judging.{bind_ok, judged_ok}
use Rattle.index_file.specs.Parts.{IsCounted, heads_from}
use Rattle.index_check.proofs.HeadMoves.{head_after}
use Rattle.shared_lemmas.proofs.Results.{ok_same}

-- a head that no check refuses has a document or more, and at most d
head_counted : (bytes : List ℕ) (d above at next : ℕ) → head_end bytes d above at ≡ Ok next → IsCounted d (head_in bytes at)
unfolding head_end head_checks head_in
head_counted bytes d above at next is =
    let passed = judged_ok (head_checks bytes d above at) (at + 11) next is in
    let count = or_parts (u32_in bytes (at + 2) == 0) (nat_lt d (u32_in bytes (at + 2))) passed.0.1.1.0 in
    (grind (arith, nat_tests, count.0), grind (arith, nat_tests, count.1))

-- heads from the one numbered j on, of those from a place on
abbrev heads_behind : List ℕ → ℕ → ℕ → ℕ → List HeadData
heads_behind bytes at j k = map (λ s. head_in bytes (at + 11 * s)) (range_with_len j k)

record AreHeads (bytes : List ℕ) (d at j k : ℕ) (x : HeadsRead) : Type 0 where
  heads : x.heads ≡ heads_behind bytes at j k
  end : x.end ≡ at + 11 * (j + k)
  within : at + 11 * (j + k) ≤ length bytes
  counted : All (IsCounted d) x.heads

heads_on : (bytes : List ℕ) (d k above at j place : ℕ) (x : HeadsRead) → place ≡ at + 11 * j → place ≤ length bytes → read_heads bytes d k above place ≡ Ok x → AreHeads bytes d at j k x
heads_on bytes d zero above at j place x here inside is =
    subst (AreHeads bytes d at j 0) (ok_same (record { heads = []; end = place }) x is) (record {
      heads = refl;
      end = omega (arith, here);
      within = omega (arith, here, inside);
      counted = All-nil (IsCounted d);
    })
heads_on bytes d (suc k) above at j place x here inside is =
    let h = head_in bytes place in
    let one = bind_ok (head_end bytes d above place) (λ next. (read_heads bytes d k (u16_in bytes place) next >>= λ later. Ok (record { heads = head_in bytes place ∷ later.heads; end = later.end }))) x is in
    let more = bind_ok (read_heads bytes d k (u16_in bytes place) one.0) (λ later. Ok (record { heads = head_in bytes place ∷ later.heads; end = later.end })) x one.2 in
    let after = head_after bytes d above place one.0 one.1 in
    let next : one.0 ≡ at + 11 * (j + 1) = (let e = after.0 in omega (arith, e, here)) in
    let reach : one.0 ≤ length bytes = (let e = after.0 in let f = after.1 in omega (arith, e, f)) in
    let later = heads_on bytes d k (u16_in bytes place) at (j + 1) one.0 more.0 next reach more.1 in
    subst (AreHeads bytes d at j (suc k)) (ok_same (record { heads = h ∷ more.0.heads; end = more.0.end }) x more.2) (record {
      heads = ap₂ (λ n (heads : List HeadData). head_in bytes n ∷ heads) here later.heads;
      end = (let e = later.end in omega (arith, e));
      within = (let e = later.within in omega (arith, e));
      counted = All-cons (IsCounted d) h more.0.heads (head_counted bytes d above place one.0 one.1) later.counted;
    })

pub heads_read : (bytes : List ℕ) (d k above at : ℕ) (x : HeadsRead) → at ≤ length bytes → read_heads bytes d k above at ≡ Ok x
    → (x.heads ≡ heads_from bytes k at) × (x.end ≡ at + 11 * k) × (at + 11 * k ≤ length bytes) × All (IsCounted d) x.heads
heads_read bytes d k above at x inside is =
    let here : at ≡ at + 11 * 0 = omega arith in
    let are = heads_on bytes d k above at 0 at x here inside is in
    (are.heads, (let e = are.end in omega (arith, e)), (let e = are.within in omega (arith, e)), are.counted)

-- where a term's heads begin
pub term_read : (content : List ℕ) (before : Option (List ℕ)) (at place : ℕ) → term_end content before at ≡ Ok place → (place ≡ segments_place content at + 4) × (place ≤ length content)
unfolding term_end term_checks
term_read content before at place is =
    let passed = judged_ok (term_checks content before at) (segments_place content at + 4) place is in
    let fits : nat_lt (length content) (segments_place content at + 4) ≡ false = passed.0.1.0 in
    let same : segments_place content at + 4 ≡ place = passed.1 in
    (sym same, grind (arith, nat_tests, fits, same))
