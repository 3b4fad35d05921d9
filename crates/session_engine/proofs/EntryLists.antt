-- What the entry at a place of a plan tells of its segment.
use Rattle.shared_lemmas.proofs.Common.{◌≡◌, ℕ, suc, ◌≤◌, List, ◌∷◌, map, length, drop, Some, sym, ap, ◌∙◌, subst, arith, All, slice_get, sum_by, option_map, take_all, sum_by-take-le, get_or_from_slice_get, slice_get-map, slice_get_within}
use Rattle.std.proofs.Math.Seq.{drop-cons}
use Rattle.session_engine.proofs.Below.{PlanSegment, size_of_first}

-- the item that is there
pub there : {A : Type 0} (P : A → Type 0) (xs : List A) (n : ℕ) (x : A) → slice_get xs n ≡ Some x → All P xs → P x
there P xs n x is all = subst P (get_or_from_slice_get xs n x x is) (all n x (slice_get_within xs n x is))

pub mapped_there : {A B : Type 0} (f : A → B) (xs : List A) (ys : List B) (n : ℕ) (x : A) → ys ≡ map f xs → slice_get xs n ≡ Some x → slice_get ys n ≡ Some (f x)
mapped_there f xs ys n x mapped is = ap (λ zs. slice_get zs n) mapped ∙ slice_get-map f xs n ∙ ap (option_map f) is

abbrev size : PlanSegment → ℕ
size segment = length segment.docs

pub size_most : (n : ℕ) (segments : List PlanSegment) → size_of_first n segments ≤ size_of_first (length segments) segments
size_most n segments = subst (λ (cs : List PlanSegment). size_of_first n segments ≤ sum_by size cs) (sym (take_all (length segments) segments (omega arith))) (sum_by-take-le size segments n)

one_first : (segment : PlanSegment) (rest segments : List PlanSegment) → segments ≡ segment ∷ rest → size_of_first 1 segments ≡ length segment.docs
one_first segment rest segments is = ap (λ (cs : List PlanSegment). size_of_first 1 cs) is ∙ (omega arith)

pub one_size : (n : ℕ) (segments : List PlanSegment) (segment : PlanSegment) → slice_get segments n ≡ Some segment → size_of_first 1 (drop n segments) ≡ length segment.docs
one_size n segments segment is = one_first segment (drop (suc n) segments) (drop n segments)
    (drop-cons segments n segment (slice_get_within segments n segment is) ∙ ap (λ (c : PlanSegment). c ∷ drop (suc n) segments) (get_or_from_slice_get segments n segment segment is))
