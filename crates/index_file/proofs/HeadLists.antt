-- Heads, and the payloads and segments that stand one after the other.
use Rattle.shared_lemmas.proofs.Common.{◌≡◌, ◌<◌, ◌≤◌, ◌+◌, ◌-◌, ℕ, zero, suc, List, [], ◌∷◌, ◌++◌, length, take, drop, ap, ◌∙◌, refl, arith, slice_index_or, slice_range, sum_by, sum_by-append, sum_by-cons, take_more, take-take, length-take-le, get_or-take, get_or-drop, drop_more}
use Rattle.std.proofs.Math.Seq.{take-add}
use Rattle.std.proofs.lemmas.List.{length-drop}
use Rattle.index_file.proofs.Below.{HeadData, SegmentData}
use Rattle.index_file.specs.Private.Payloads.{payload_place, segment_in, segments_from}
use Rattle.index_file.specs.Private.Tables.{head_at}

abbrev pub size_of : HeadData → ℕ
size_of h = h.size

abbrev none : HeadData
none = head_at [] 0

-- places
pub place_first : (heads : List HeadData) (at : ℕ) → payload_place heads at 0 ≡ at
place_first heads at = omega arith

pub place_more : (heads : List HeadData) (at k : ℕ) → k < length heads → payload_place heads at (k + 1) ≡ payload_place heads at k + (head_at heads k).size
place_more heads at k inside =
    let more = ap (sum_by size_of) (take_more heads k none inside) ∙ sum_by-append size_of (take k heads) (head_at heads k ∷ []) in
    omega (arith, more)

-- payloads behind others of the same term
pub places_join : (heads : List HeadData) (at first more : ℕ) → payload_place (drop first heads) (payload_place heads at first) more ≡ payload_place heads at (first + more)
places_join heads at first more =
    let all = ap (sum_by size_of) (take-add first more heads) ∙ sum_by-append size_of (take first heads) (take more (drop first heads)) in
    omega (arith, all)

-- the heads of one term among all
pub part_length : (heads : List HeadData) (from to : ℕ) → from ≤ to → to ≤ length heads → length (slice_range heads from to) ≡ to - from
part_length heads from to order within =
    let long = length-drop from heads in
    length-take-le (to - from) (drop from heads) (omega (arith, long, order, within))

pub part_there : (heads : List HeadData) (from to s : ℕ) → s < to - from → head_at (slice_range heads from to) s ≡ head_at heads (from + s)
part_there heads from to s inside = get_or-take (to - from) (drop from heads) s none inside ∙ get_or-drop from heads s none

pub part_place : (heads : List HeadData) (from to at s : ℕ) → s ≤ to - from → payload_place (slice_range heads from to) at s ≡ payload_place (drop from heads) at s
part_place heads from to at s inside = ap (λ (xs : List HeadData). at + sum_by size_of xs) (take-take s (to - from) (drop from heads) inside)

-- one segment more
segments_push : (bytes : List ℕ) (d : ℕ) (heads : List HeadData) (h : HeadData) (at : ℕ)
    → segments_from bytes d (heads ++ h ∷ []) at ≡ segments_from bytes d heads at ++ segment_in bytes d h (at + sum_by size_of heads) ∷ []
segments_push bytes d [] h at = (let here : at ≡ at + 0 = omega arith in ap (λ place. segment_in bytes d h place ∷ []) here)
segments_push bytes d (x ∷ heads) h at =
    let more = sum_by-cons size_of x heads in
    let far : at + x.size + sum_by size_of heads ≡ at + sum_by size_of (x ∷ heads) = omega (arith, more) in
    ap (λ (segments : List SegmentData). segment_in bytes d x at ∷ segments) (segments_push bytes d heads h (at + x.size)
    ∙ ap (λ place. segments_from bytes d heads (at + x.size) ++ segment_in bytes d h place ∷ []) far)

pub segments_more : (bytes : List ℕ) (d : ℕ) (heads : List HeadData) (at k : ℕ) → k < length heads
    → segments_from bytes d (take (k + 1) heads) at ≡ segments_from bytes d (take k heads) at ++ segment_in bytes d (head_at heads k) (payload_place heads at k) ∷ []
segments_more bytes d heads at k inside =
    ap (λ (some : List HeadData). segments_from bytes d some at) (take_more heads k none inside)
    ∙ segments_push bytes d (take k heads) (head_at heads k) at

pub segments_length : (bytes : List ℕ) (d : ℕ) (heads : List HeadData) (at : ℕ) → length (segments_from bytes d heads at) ≡ length heads
segments_length bytes d [] at = refl
segments_length bytes d (h ∷ heads) at = ap suc (segments_length bytes d heads (at + h.size))

-- the segment with a number
pub segment_from : (bytes : List ℕ) (d : ℕ) (heads : List HeadData) (at s : ℕ) (other : SegmentData) → s < length heads
    → slice_index_or (segments_from bytes d heads at) s other ≡ segment_in bytes d (head_at heads s) (payload_place heads at s)
segment_from bytes d [] at s other inside = absurd (omega (arith, inside))
segment_from bytes d (h ∷ heads) at zero other inside = (let here : at ≡ at + 0 = omega arith in ap (segment_in bytes d h) here)
segment_from bytes d (h ∷ heads) at (suc s) other inside =
    let more = sum_by-cons size_of h (take s heads) in
    let far : payload_place heads (at + h.size) s ≡ payload_place (h ∷ heads) at (suc s) = omega (arith, more) in
    segment_from bytes d heads (at + h.size) s other (omega (arith, inside)) ∙ ap (segment_in bytes d (head_at heads s)) far

-- a term of one head
pub part_one : (heads : List HeadData) (from : ℕ) → from < length heads → slice_range heads from (from + 1) ≡ head_at heads from ∷ []
part_one heads from inside =
    let one : from + 1 - from ≡ 1 = omega arith in
    ap (λ n. take n (drop from heads)) one ∙ ap (take 1) (drop_more heads from none inside)
