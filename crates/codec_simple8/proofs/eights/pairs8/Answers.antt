use Rattle.shared_lemmas.proofs.Common.{◌≡◌, ℕ, List, ◌-◌, ◌*◌, ◌/◌, ◌<◌, ◌≤◌, [], length, get_or, suc, refl, sym, ap, subst, ◌∙◌, arith}
use Rattle.std.proofs.lemmas.Simd.{Each1-from_get_or, SwzOk-from_below}
use Rattle.codec_simple8.specs.Simple8.{width_of}
use Rattle.codec_simple8.proofs.LaneValues.{lane, pair_at, places, places_few, rows_long, whole_row}
use Rattle.codec_simple8.proofs.eights.pairs8.Goals as goal
use lib.Lanes.{chunk}
use mir.Syntax.{w8}

same : (s : ℕ) → 5 ≤ s → s ≤ 11 → chunk 0 16 (get_or places (s - 5) []) ≡ get_or places (s - 5) []
same s from to = whole_row (get_or places (s - 5) []) 16 (rows_long s from to).0

few : (s m : ℕ) → 5 ≤ s → s ≤ 11 → m < 16 → get_or (chunk 0 16 (get_or places (s - 5) [])) m 0 < 16
few s m from to inside = subst (λ (js : List ℕ). get_or js m 0 < 16) (sym (same s from to)) (places_few s m from to inside)

long : (s : ℕ) → 5 ≤ s → s ≤ 11 → length (chunk 0 16 (get_or places (s - 5) [])) ≡ 16
long s from to = ap length (same s from to) ∙ (rows_long s from to).0

pub swizzle : goal.swizzle
unfolding places
swizzle c =
    let s = c.args.selector.number in
    let size = long s c.requires.from c.requires.to in
    SwzOk-from_below w8 16 1 16 0 (chunk 0 16 (get_or places (s - 5) [])) refl (omega (arith, size))
    (Each1-from_get_or (λ j. j < 16) (chunk 0 16 (get_or places (s - 5) [])) 0 (λ m inside. few s m c.requires.from c.requires.to (omega (arith, inside, size))))

pub returns-clause-pairs : goal.returns-clause-pairs
unfolding places
returns-clause-pairs c = λ k within.
    let s = c.args.selector.number in
    let l = lane s k c.requires.from c.requires.to within in
    let is = same s c.requires.from c.requires.to in
    pair_at c.bytes_of.result (chunk 0 16 (get_or places (s - 5) [])) c.args.values k (k * width_of s / 8) c.bytes_of.ensures (long s c.requires.from c.requires.to) within
    (ap (λ (js : List ℕ). get_or js (2 * k) 0) is ∙ l.low) (ap (λ (js : List ℕ). get_or js (suc (2 * k)) 0) is ∙ l.high) l.within
    (λ m inside. few s m c.requires.from c.requires.to inside)
