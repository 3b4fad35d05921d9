-- What is held from a place on is a piece of the content.
use Rattle.shared_lemmas.proofs.Common.{◌≡◌, ◌≤◌, ◌+◌, ◌-◌, ◌⊎◌, inl, inr, ℕ, min, List, length, take, drop, ap, ◌∙◌, arith, length-take-le, length-drop}
use Rattle.whole_files.specs.Windows.{AreFrom}
use Rattle.whole_files.proofs.Windows.{later_from}
use Rattle.index_file.specs.Pieces.{IsPiece}
use Rattle.index_file.proofs.ContentReads.{first_from}

least : (a b n : ℕ) → n ≡ min a b → (n ≤ a) × (n ≤ b)
least a b n is = (omega (arith, is), omega (arith, is))

least_left : (a b n : ℕ) → n ≡ min a b → a ≤ b → n ≡ a
least_left a b n is less = omega (arith, is, less)

least_right : (a b n : ℕ) → n ≡ min a b → b ≤ a → n ≡ b
least_right a b n is less = omega (arith, is, less)

-- so many are enough, where the window reaches so far
enough : (count length_taken at start window whole : ℕ) → length_taken ≤ whole - at → window ≤ whole - start → start ≤ at → at ≤ whole
    → length_taken ≡ min (whole - at) (window - (at - start)) → at ≤ start + window
    → ((at + count ≤ start + window) ⊎ (whole ≤ start + window)) → (count ≤ length_taken) ⊎ (at + length_taken ≡ whole)
enough count n at start window whole few room first within is last (inl reach) =
    let less : window - (at - start) ≤ whole - at = omega arith in
    let same : n ≡ window - (at - start) = least_right (whole - at) (window - (at - start)) n is less in
    inl (omega (arith, same, reach, first, last))
enough count n at start window whole few room first within is last (inr reach) =
    let less : whole - at ≤ window - (at - start) = omega (arith, reach, first, last) in
    let same : n ≡ whole - at = least_left (whole - at) (window - (at - start)) n is less in
    inr (omega (arith, same, within))

-- what is held from a place on, without what stands behind the size
pub held_piece : (content bytes held : List ℕ) (start at count size m : ℕ) → AreFrom content start bytes → held ≡ bytes → start ≤ at → at ≤ start + length bytes → at ≤ size → size ≡ length content
    → m ≡ min (size - at) (length held - (at - start)) → ((at + count ≤ start + length bytes) ⊎ (length content ≤ start + length bytes))
    → IsPiece content at count (take (at - start + m - (at - start)) (drop (at - start) held))
held_piece content bytes held start at count size m is same first last within whole least_of reach =
    let cut : ℕ = at - start in
    let rest : List ℕ = drop cut held in
    let from : AreFrom content at rest = later_from content bytes rest start at is first last (ap (drop cut) same) in
    let lengths : length held ≡ length bytes = ap length same in
    let long : length rest ≡ length held - cut = length-drop cut held in
    let both = least (size - at) (length held - cut) m least_of in
    let n : ℕ = cut + m - cut in
    let n_is : n ≡ m = omega arith in
    let few : n ≤ length rest = omega (arith, n_is, long, both.1) in
    let taken : length (take n rest) ≡ n = length-take-le n rest few in
    let room : length bytes ≤ length content - start = omega (arith, is.within, length-drop start content) in
    record {
      from = first_from content rest at n from few;
      within = omega (arith, taken, n_is, both.0, whole, within);
      enough = enough count (length (take n rest)) at start (length bytes) (length content)
          (omega (arith, taken, n_is, both.0, whole)) room first (omega (arith, within, whole))
          (taken ∙ n_is ∙ least_of ∙ ap (λ k. min (k - at) (length held - cut)) whole ∙ ap (λ k. min (length content - at) (k - cut)) lengths)
          last reach;
    }
