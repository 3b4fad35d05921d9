-- Where the heads of a term end, and what they add to sums.
use Rattle.shared_lemmas.proofs.Common.{◌≡◌, ◌≤◌, ◌+◌, ◌*◌, ◌-◌, ◌^◌, refl, ℕ, max, min, List, ◌++◌, Result, Ok, Err, ap, sym, ◌∙◌, arith, sum_by-append}
use Rattle.index_layout.specs.Heads.{HeadData, greatest_of}
use Rattle.index_layout.specs.Reading.{HeadsRead, read_heads}
use Rattle.index_layout.specs.Refusals.{Fails}
use Rattle.index_layout.specs.declared.refusal.OpenFault.{OpenFault}
use Rattle.index_layout.specs.declared.refusal.OpenFault.TheVariants as faults
use Rattle.index_layout.specs.declared.refusal.OpenRefusal.{OpenRefusal}
use Rattle.index_layout.proofs.Greatest.{greatest_joins}
use Rattle.index_file.specs.Parts.{heads_from, moved_fault}
use Rattle.index_file.specs.Sums.{AreSums}
use Rattle.index_file.specs.declared.sums.Sums.{Sums}
use Rattle.index_file.specs.Answers.{Stops}
use Rattle.index_check.specs.Private.Answers.{EndsHeads}
use Rattle.index_file.specs.Pieces.{IsPiece}
use Rattle.index_check.proofs.HeadMoves.{heads_moved, heads_small, moved_heads}

abbrev count_of : HeadData → ℕ
count_of h = h.count

pub sums_joined : (old here new : Sums) (more heads : List HeadData) → AreSums here more → new.postings ≡ old.postings + here.postings → new.greatest ≡ max old.greatest here.greatest
    → AreSums old heads → AreSums new (heads ++ more)
sums_joined old here new more heads are postings greatest before = record {
  postings = (let all = sum_by-append count_of heads more in omega (arith, all, postings, before.postings, are.postings));
  greatest = greatest ∙ ap (λ n. max n here.greatest) before.greatest ∙ ap (max (greatest_of heads)) are.greatest ∙ sym (greatest_joins heads more);
}

module _ (content bytes : List ℕ) (d at count k : ℕ) (piece : IsPiece content at count bytes) (enough : 11 * k ≤ count) where
  pub heads_ended : (size : ℕ) (old here new : Sums) → read_heads bytes d k 65536 0 ≡ Ok (record { heads = heads_from bytes k 0; end = size }) → AreSums here (heads_from bytes k 0)
      → new.postings ≡ old.postings + here.postings → new.greatest ≡ max old.greatest here.greatest → EndsHeads old new (Ok (at + size)) (read_heads content d k 65536 at)
  heads_ended size old here new is are postings greatest =
      let x : HeadsRead = record { heads = heads_from bytes k 0; end = at + size } in
      (x, heads_moved content bytes at count d k 65536 piece enough ∙ ap (moved_heads at) is, refl, λ heads before. sums_joined old here new (heads_from bytes k 0) heads are postings greatest before)

  pub heads_stopped : (fault : OpenFault) → at + 11 * k ≤ 2 ^ 64 - 1 → Fails fault (read_heads bytes d k 65536 0) → Stops (moved_fault at fault) (read_heads content d k 65536 at)
  heads_stopped (faults.Refused refusal) few is =
      let small : refusal.at ≤ 11 * k = heads_small bytes d k 65536 refusal is in
      let place : at + refusal.at ≡ min (refusal.at + at) (2 ^ 64 - 1) = omega (arith, small, few) in
      heads_moved content bytes at count d k 65536 piece enough ∙ ap (moved_heads at) is ∙ ap (λ n. (let r : Result HeadsRead OpenRefusal = Err (record { at = n; why = refusal.why }) in r)) place
  heads_stopped faults.ReadFault few is = tt
  heads_stopped faults.NoMemory few is = tt
