-- Documents that are handed out while words are read.
use Rattle.std.proofs.Common.{◌≡◌, ℕ, ◌+◌, ◌-◌, ◌<◌, ◌≤◌, List, [], ◌++◌, length, take, drop, Ok, refl, sym, ap, ◌∙◌, append-nil, length-append, arith}
use Rattle.std.proofs.lemmas.List.Sums.{sum_by-append}
use Rattle.jass_base.specs.Gaps.{docs_from}
use Rattle.codec_simple8.specs.Simple8.{least_behind, read_word, read_words}
use Rattle.codec_simple8.proofs.Docs.{docs_parts}
use Rattle.codec_simple8.proofs.Reading.{Read, Walk, walk_start, walk_one, walk_end}
use Rattle.shared_lemmas.proofs.Results.{ok_same}

-- the documents of the gaps that were read stand at the front
pub record Handed (whole : Read) (d : ℕ) (bytes : List ℕ) (count at left least : ℕ) (first out : List ℕ) : Type 0 where
  pub walk : Walk whole d bytes at left least
  pub few : left ≤ count
  pub docs : take (count - left) out ≡ docs_from 0 walk.front
  pub behind : least ≡ least_behind 0 walk.front
  pub long : length out ≡ length first

pub handed_start : (d count : ℕ) (bytes out : List ℕ) → Handed (read_words count d 0 count bytes) d bytes count 0 count 0 out out
unfolding walk_start
handed_start d count bytes out = record {
  walk = walk_start d count bytes;
  few = omega arith;
  docs = (let none : count - count ≡ 0 = omega arith in ap (λ n. take n out) none);
  behind = refl;
  long = refl;
}

behind_parts : (least : ℕ) (front own : List ℕ) → least_behind least (front ++ own) ≡ least_behind (least_behind least front) own
behind_parts least front own = omega (arith, sum_by-append (λ x. x) front own, length-append front own)

pub handed_one : (whole : Read) (d : ℕ) (bytes : List ℕ) (count at left least : ℕ) (first out newest own : List ℕ) → Handed whole d bytes count at left least first out → 0 < left
    → 8 ≤ length (drop at bytes) → 0 < length own → length own ≤ left → least_behind least own ≤ d → read_word d least left (drop at bytes) ≡ Ok own
    → take (count - left + length own) newest ≡ take (count - left) out ++ docs_from least own → length newest ≡ length out
    → Handed whole d bytes count (at + 8) (left - length own) (least_behind least own) first newest
unfolding walk_one
handed_one whole d bytes count at left least first out newest own h some long many fit low is put same =
    let more : count - (left - length own) ≡ count - left + length own = omega (arith, fit, h.few) in
    record {
      walk = walk_one whole d bytes at left least own h.walk some long many low is;
      few = omega (arith, h.few);
      docs = ap (λ n. take n newest) more ∙ put ∙ ap (λ (docs : List ℕ). docs ++ docs_from least own) h.docs ∙ ap (λ n. docs_from 0 h.walk.front ++ docs_from n own) h.behind ∙ sym (docs_parts 0 h.walk.front own);
      behind = ap (λ n. least_behind n own) h.behind ∙ sym (behind_parts 0 h.walk.front own);
      long = same ∙ h.long;
    }

pub handed_end : (whole : Read) (d : ℕ) (bytes : List ℕ) (count at left least : ℕ) (first out gaps : List ℕ) → Handed whole d bytes count at left least first out → left ≡ 0 → length bytes ≤ at → whole ≡ Ok gaps → take count out ≡ docs_from 0 gaps
handed_end whole d bytes count at left least first out gaps h done all is =
    let whole_is = walk_end whole d bytes at left least h.walk done all in
    let gaps_are : h.walk.front ++ [] ≡ gaps = ok_same (h.walk.front ++ []) gaps (sym whole_is ∙ is) in
    let every : count ≡ count - left = omega (arith, done) in
    ap (λ n. take n out) every ∙ h.docs ∙ ap (docs_from 0) (sym (append-nil h.walk.front) ∙ gaps_are)
