-- The pairs of one list, and whether its weights lie in a range.
use Rattle.shared_lemmas.proofs.Common.{◌≡◌, ℕ, ◌+◌, ◌<◌, ◌≤◌, List, [], ◌∷◌, ◌++◌, map, length, get_or, drop, Bool, true, false, refl, sym, ap, ◌∙◌, subst, append_assoc, All, Option, Some, None, if◌then◌else◌, AllByRecursion, IsStrictlyIncreasing, arith, recursion_from_All, All-push}
use Rattle.shared_lemmas.proofs.Common.{drop_more, map-map}
use Rattle.shared_lemmas.proofs.Lists.{all_unmap}
use Rattle.impact_segments.proofs.Below.{docs_of, Posting, PostingsList, Bits, Raw, Of, Range, Rule, impact_of, idf}
use Rattle.impact_segments.specs.Collections.{weight_in}
use Rattle.impact_segments.specs.OneList.{ArePostingsOf, IsListOf, Unmade, first_outside, has_weight, nearer_end, outside}
use Rattle.impact_segments.specs.Pairs.{pair_docs, with_impact}
use Rattle.impact_segments.specs.declared.doc_impact.DocImpact.{DocImpact}
use Rattle.impact_segments.specs.declared.one_list.SegmentsFault.{SegmentsFault}
use Rattle.impact_segments.specs.declared.one_list.SegmentsFault.TheVariants.{Outside, NoMemory}

module _ (f : Posting → ℕ) (postings : List Posting) where
  abbrev pub pair_by : Posting → DocImpact
  pair_by p = record { doc = p.doc; impact = f p }

  pub docs_rise_by : (pairs : List DocImpact) → pairs ≡ map pair_by postings → IsStrictlyIncreasing (docs_of postings) → IsStrictlyIncreasing (pair_docs pairs)
  docs_rise_by pairs is rising =
      let P : List ℕ → Type 0 = λ (l : List ℕ). IsStrictlyIncreasing l in
      subst P (sym (ap pair_docs is ∙ map-map (λ (p : DocImpact). p.doc) pair_by postings)) rising

  pub docs_below_by : (d : ℕ) (pairs : List DocImpact) → pairs ≡ map pair_by postings → All (λ (doc : ℕ). doc < d) (docs_of postings) → AllByRecursion (λ (p : DocImpact). p.doc < d) pairs
  docs_below_by d pairs is below =
      let P : List ℕ → Type 0 = λ (l : List ℕ). AllByRecursion (λ (doc : ℕ). doc < d) l in
      all_unmap (λ (doc : ℕ). doc < d) (λ (p : DocImpact). p.doc) pairs
      (subst P (sym (ap pair_docs is ∙ map-map (λ (p : DocImpact). p.doc) pair_by postings)) (recursion_from_All (λ (doc : ℕ). doc < d) (docs_of postings) below))

-- the postings of a list, whose terms and documents are in range by themselves
pub of_list : (lengths : List ℕ) (terms : ℕ) (list : PostingsList) → IsListOf lengths terms list → ArePostingsOf lengths terms list.postings
of_list lengths terms list is = record {
  few = is.few;
  small = is.small;
  total = is.total;
  some = is.some;
  rising = list.rising;
  below = is.below;
  tf = list.tf_in_range;
}

-- a weight by what the weigher of a list keeps
pub weight_same : (rule kept : Rule) (lengths others : List ℕ) (total sum count rare w : ℕ) (p : Posting) → kept ≡ rule → others ≡ lengths → sum ≡ total → rare ≡ idf (length lengths) count
    → (rare ≡ idf (length others) count → w ≡ weight_in kept others sum count p) → w ≡ weight_in rule lengths total count p
weight_same rule kept lengths others total sum count rare w p a b c rare_is value =
    value (rare_is ∙ ap (λ (l : List ℕ). idf (length l) count) (sym b))
    ∙ ap (λ (r : Rule). weight_in r others sum count p) a ∙ ap (λ (l : List ℕ). weight_in rule l sum count p) b ∙ ap (λ (n : ℕ). weight_in rule lengths n count p) c

-- one pair more
pub pairs_more : (f : Posting → DocImpact) (pairs longer whole : List DocImpact) (items : List Posting) (i : ℕ) (d : Posting) (mine : DocImpact) → i < length items → longer ≡ pairs ++ mine ∷ [] → mine ≡ f (get_or items i d)
    → pairs ++ map f (drop i items) ≡ whole → longer ++ map f (drop (i + 1) items) ≡ whole
pairs_more f pairs longer whole items i d mine low is one so_far =
    ap (λ (l : List DocImpact). l ++ map f (drop (i + 1) items)) is ∙ append_assoc pairs (mine ∷ []) (map f (drop (i + 1) items))
    ∙ ap (λ (x : DocImpact). pairs ++ x ∷ map f (drop (i + 1) items)) one ∙ ap (λ (l : List Posting). pairs ++ map f l) (sym (drop_more items i d low)) ∙ so_far

pub pair_is : (bits : Bits) (range : Range) (doc impact w v : ℕ) → impact ≡ impact_of bits range w → w ≡ v
    → with_impact impact doc ≡ with_impact (impact_of bits range v) doc
pair_is bits range doc impact w v is same = λ j. with_impact ((is ∙ ap (impact_of bits range) same) j) doc

pub positive_more : (pairs longer : List DocImpact) (doc impact : ℕ) → longer ≡ pairs ++ with_impact impact doc ∷ [] → 1 ≤ impact → All (λ (p : DocImpact). 1 ≤ p.impact) pairs → All (λ (p : DocImpact). 1 ≤ p.impact) longer
positive_more pairs longer doc impact is positive all =
    let P : List DocImpact → Type 0 = λ (l : List DocImpact). All (λ (p : DocImpact). 1 ≤ p.impact) l in
    subst P (sym is) (All-push (λ (p : DocImpact). 1 ≤ p.impact) pairs (with_impact impact doc) all positive)

pub greatest_more : (pairs longer : List DocImpact) (doc impact old new : ℕ) → longer ≡ pairs ++ with_impact impact doc ∷ [] → old ≤ new → impact ≤ new
    → All (λ (p : DocImpact). p.impact ≤ old) pairs → All (λ (p : DocImpact). p.impact ≤ new) longer
greatest_more pairs longer doc impact old new is up mine all =
    let P : List DocImpact → Type 0 = λ (l : List DocImpact). All (λ (p : DocImpact). p.impact ≤ new) l in
    subst P (sym is) (All-push (λ (p : DocImpact). p.impact ≤ new) pairs (with_impact impact doc) (λ k d inside. let below = all k d inside in omega (arith, below, up)) mine)

-- a weight in front of others, where it is judged alone
within_more : (b : Bool) (x : ℕ × ℕ) (later : Option (ℕ × ℕ)) → (if b then None else Some x) ≡ None → (if b then later else Some x) ≡ later
within_more true x later none = refl
within_more false x later none = cc

pub inside_more : (bits : Bits) (range : Range) (w : ℕ) (weights : List ℕ) → outside bits range (w ∷ []) ≡ None → outside bits range (w ∷ weights) ≡ outside bits range weights
inside_more Raw range w weights none = refl
inside_more (Of b) range w weights none = within_more (has_weight range w) (nearer_end range w, w) (first_outside range weights) none

-- one weight more was judged
pub judged_more : (weigh : Posting → ℕ) (bits : Bits) (range : Range) (items : List Posting) (i : ℕ) (d : Posting) (w : ℕ) (all : Option (ℕ × ℕ)) → i < length items → w ≡ weigh (get_or items i d) → outside bits range (w ∷ []) ≡ None
    → outside bits range (map weigh (drop i items)) ≡ all → outside bits range (map weigh (drop (i + 1) items)) ≡ all
judged_more weigh bits range items i d w all low is none so_far =
    let rest : List ℕ = map weigh (drop (i + 1) items) in
    sym (inside_more bits range w rest none) ∙ ap (λ (v : ℕ). outside bits range (v ∷ rest)) is
    ∙ ap (λ (l : List Posting). outside bits range (map weigh l)) (sym (drop_more items i d low)) ∙ so_far

-- a weight outside the range is the first one, whatever is behind it
first_more : (b : Bool) (x y : ℕ × ℕ) (later : Option (ℕ × ℕ)) → (if b then None else Some y) ≡ Some x → (if b then later else Some y) ≡ Some x
first_more true x y later is = cc
first_more false x y later is = is

outside_more : (bits : Bits) (range : Range) (w : ℕ) (weights : List ℕ) (x : ℕ × ℕ) → outside bits range (w ∷ []) ≡ Some x → outside bits range (w ∷ weights) ≡ Some x
outside_more Raw range w weights x is = is
outside_more (Of b) range w weights x is = first_more (has_weight range w) x (nearer_end range w, w) (first_outside range weights) is

-- a weight that was refused behind others that weren't
pub refused_there : (weigh : Posting → ℕ) (bits : Bits) (range : Range) (items : List Posting) (i : ℕ) (d : Posting) (w : ℕ) (all : Option (ℕ × ℕ)) (fault : SegmentsFault) → i < length items → w ≡ weigh (get_or items i d)
    → outside bits range (map weigh (drop i items)) ≡ all → Unmade (outside bits range (w ∷ [])) fault → Unmade all fault
refused_there weigh bits range items i d w all NoMemory low is so_far made = tt
refused_there weigh bits range items i d w all (Outside kept found) low is so_far made =
    let rest : List ℕ = map weigh (drop (i + 1) items) in
    sym so_far ∙ ap (λ (l : List Posting). outside bits range (map weigh l)) (drop_more items i d low)
    ∙ ap (λ (v : ℕ). outside bits range (v ∷ rest)) (sym is) ∙ outside_more bits range w rest (kept, found) made
