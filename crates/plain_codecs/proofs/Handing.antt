-- Documents that are handed out as they are read.
use Rattle.std.proofs.Common.{◌≡◌, ℕ, suc, ◌+◌, ◌-◌, ◌<◌, ◌≤◌, List, [], ◌∷◌, ◌++◌, length, take, drop, slice_set, Ok, Err, refl, sym, ap, ◌∙◌, arith}
use Rattle.std.proofs.lemmas.List.{append-nil, drop-drop, length-drop, length-set, take_more_set}
use Rattle.jass_base.specs.declared.payload_fault.PayloadFault.{PayloadFault}
use Rattle.jass_base.specs.declared.payload_fault.PayloadFault.TheVariants.{Longer, DocRange}
use Rattle.jass_base.specs.Gaps.{gap_in, read_gaps}
use Rattle.plain_codecs.proofs.Reading.{before, before_before, one_fits, one_over, no_gap, bytes_left}

-- the documents up to a place were read and stand in front
pub record Handed (d count : ℕ) (bytes first out : List ℕ) (at least i : ℕ) : Type 0 where
  pub read : read_gaps d 0 count bytes ≡ before (take i out) (read_gaps d least (count - i) (drop at bytes))
  pub low : least ≤ d
  pub within : at ≤ length bytes
  pub long : length out ≡ length first

module _ (d count : ℕ) (bytes first out : List ℕ) (at least i : ℕ) (so_far : Handed d count bytes first out at least i) (more : i < count) where
  next_left : count - i ≡ suc (count - (i + 1))
  next_left = omega (arith, more)

  pub one_handed : (gap next : ℕ) → count ≤ length first → gap_in (drop at bytes) ≡ Ok (record { gap = gap; size = next - at }) → at < next → next ≤ length bytes → least + gap < d
      → Handed d count bytes first (slice_set out i (least + gap)) next (least + gap + 1) (i + 1)
  one_handed gap next room is on inside low =
      let place : at + (next - at) ≡ next = omega (arith, on) in
      let l = so_far.long in
      record {
        read = so_far.read
            ∙ ap (λ n. before (take i out) (read_gaps d least n (drop at bytes))) next_left
            ∙ ap (before (take i out)) (one_fits d least (count - (i + 1)) gap (next - at) (drop at bytes) is low)
            ∙ before_before (take i out) ((least + gap) ∷ []) (read_gaps d (least + gap + 1) (count - (i + 1)) (drop (next - at) (drop at bytes)))
            ∙ ap (λ (xs : List ℕ). before (take i out ++ (least + gap) ∷ []) (read_gaps d (least + gap + 1) (count - (i + 1)) xs)) (drop-drop (next - at) at bytes ∙ ap (λ n. drop n bytes) place)
            ∙ ap (λ (xs : List ℕ). before xs (read_gaps d (least + gap + 1) (count - (i + 1)) (drop next bytes))) (sym (take_more_set out i (least + gap) (omega (arith, more, room, l))));
        low = omega (arith, low);
        within = inside;
        long = length-set out i (least + gap) ∙ l;
      }

  pub none_there : (fault : PayloadFault) → gap_in (drop at bytes) ≡ Err fault → read_gaps d 0 count bytes ≡ Err fault
  none_there fault is = so_far.read ∙ ap (before (take i out)) (no_gap d least (count - i) (drop at bytes) fault (omega (arith, more)) is)

  pub one_above : (gap next : ℕ) → gap_in (drop at bytes) ≡ Ok (record { gap = gap; size = next - at }) → d ≤ least + gap → read_gaps d 0 count bytes ≡ Err DocRange
  one_above gap next is high = so_far.read
      ∙ ap (λ n. before (take i out) (read_gaps d least n (drop at bytes))) next_left
      ∙ ap (before (take i out)) (one_over d least (count - (i + 1)) gap (next - at) (drop at bytes) is high)

module _ (d count : ℕ) (bytes first out : List ℕ) (at least i : ℕ) (so_far : Handed d count bytes first out at least i) (done : i ≡ count) where
  pub more_there : at < length bytes → read_gaps d 0 count bytes ≡ Err Longer
  more_there long =
      let l = length-drop at bytes in
      so_far.read ∙ ap (before (take i out)) (bytes_left d least (count - i) (drop at bytes) (omega (arith, done)) (omega (arith, long, l)))

  pub all_handed : length bytes ≤ at → read_gaps d 0 count bytes ≡ Ok (take count out)
  all_handed end =
      let l = length-drop at bytes in
      let none : length (drop at bytes) ≡ 0 = omega (arith, end, l) in
      let left : count - i ≡ 0 = omega (arith, done) in
      so_far.read
      ∙ ap (λ n. before (take i out) (read_gaps d least n (drop at bytes))) left
      ∙ ap (before (take i out)) (nothing_left (drop at bytes) none)
      ∙ ap (λ (xs : List ℕ). Ok xs) (append-nil (take i out))
      ∙ ap (λ n. Ok (take n out)) done
    where
      nothing_left : (xs : List ℕ) → length xs ≡ 0 → read_gaps d least 0 xs ≡ Ok []
      nothing_left [] none = refl
      nothing_left (x ∷ xs) none = absurd (omega arith)
