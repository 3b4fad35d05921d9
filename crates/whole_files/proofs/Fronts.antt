-- A content that is read piece by piece.
use Rattle.shared_lemmas.proofs.Common.{◌≡◌, ℕ, ◌+◌, ◌<◌, ◌≤◌, List, ◌++◌, length, take, drop, Option, Some, None, sym, ap, subst, ◌∙◌, arith, take-take, IsSomeAnd, IfSome, get, take-add, min-eq_left}
use Rattle.std.proofs.Common.{length-take, length-drop, length-append, take_all}
use Rattle.jass_base.specs.Outside.{Files, OnContent, ForContent, AreBytesAt}
use Rattle.whole_files.specs.Private.Fronts.{IsFrontOf}

-- what holds of the front and what holds of the content of a name that is there
pub there : (files : Option Files) (name : List ℕ) (P Q R : List ℕ → Type 0) → ((content : List ℕ) → P content → Q content → R content) → ForContent files name P → OnContent files name Q → OnContent files name R
there None name P Q R both p q = tt
there (Some files) name P Q R both p q = at (get files name) p q
  where
    at : (o : Option (List ℕ)) → IfSome o P → IsSomeAnd o Q → IsSomeAnd o R
    at None p q = q
    at (Some content) p q = both content p q

-- one piece more
pub front_more : (row piece grown content : List ℕ) (at count : ℕ) → at ≡ length row → grown ≡ row ++ take count piece → IsFrontOf row content → AreBytesAt content at count piece → IsFrontOf grown content
front_more row piece grown content at count behind is front read =
    let bytes : AreBytesAt content (length row) count piece = subst (λ n. AreBytesAt content n count piece) behind read in
    let size : length grown ≡ length row + count
    = ap length is ∙ length-append row (take count piece) ∙ ap (λ n. length row + n) (ap length bytes.bytes ∙ length-take count (drop (length row) content) ∙ min-eq_left bytes.within) in
    record {
      front = is ∙ ap (λ (xs : List ℕ). xs ++ take count piece) front.front ∙ ap (λ (xs : List ℕ). take (length row) content ++ xs) bytes.bytes ∙ sym (take-add (length row) count content) ∙ ap (λ n. take n content) (sym size);
      within = omega (arith, size, bytes.within, length-drop (length row) content, front.within);
    }

-- nothing is left behind the front
pub front_whole : (row piece content : List ℕ) (at count most : ℕ) → at ≡ length row → count ≡ 0 → 0 < length piece → length row < most → IsFrontOf row content → AreBytesAt content at count piece → row ≡ take most content
front_whole row piece content at count most behind none room few front bytes =
    let all : length content ≤ length row = omega (arith, bytes.end none room) in
    front.front ∙ take_all (length row) content all ∙ sym (take_all most content (omega arith))

-- a front that is longer than what is read
pub front_cut : (row cut content : List ℕ) (most : ℕ) → cut ≡ take most row → most ≤ length row → IsFrontOf row content → cut ≡ take most content
front_cut row cut content most is many front = is ∙ ap (take most) front.front ∙ take-take most (length row) content many
