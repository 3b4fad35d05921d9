-- Segments that were read are those of a term.
use Rattle.shared_lemmas.proofs.Common.{◌≡◌, ℕ, ◌≤◌, ◌^◌, List, [], length, map, get_or, Ok, sym, subst, ◌∙◌, arith, AllPairs, length-map, get_or-map}
use Rattle.index_version1.proofs.Below.{Segment, FallsTo, SharesNoDocument, segment_data, HeadData, SegmentsRead, read_segments, alone_only, Only, HeadsFall, fall_only, Fit, segments_only}
use Rattle.jass_base.specs.Segments as memory

pub pairs_unmap : {X Y : Type 0} (R : Y → Y → Type 0) (f : X → Y) (xs : List X) → AllPairs R (map f xs) → AllPairs (λ a b. R (f a) (f b)) xs
pairs_unmap R f xs are = λ i j d less inside.
    let one = get_or-map f xs i d (f d) (omega (arith, less, inside)) in
    let two = get_or-map f xs j d (f d) inside in
    subst (R (f (get_or xs i d))) two (subst (λ a. R a (get_or (map f xs) j (f d))) one (are i j (f d) less (omega (arith, inside, length-map xs f))))

pub record SegmentsFit (segments : List Segment) (heads : ℕ) : Type 0 where
  pub falling : AllPairs memory.FallsTo segments
  pub once : AllPairs memory.SharesNoDocument segments
  pub count : length segments ≡ heads

pub segments_fit : Only → (bytes : List ℕ) (d : ℕ) (heads : List HeadData) (at end : ℕ) (segments : List Segment) → Fit bytes → d ≤ 2 ^ 26 → HeadsFall d 65536 heads → at ≤ length bytes
    → read_segments bytes d [] heads at ≡ Ok (record { segments = map segment_data segments; end = end }) → SegmentsFit segments (length heads)
segments_fit only bytes d heads at end segments fits limit fall from read =
    let x : SegmentsRead = record { segments = map segment_data segments; end = end } in
    let are = segments_only only bytes d 65536 [] heads at x fits limit (omega arith) fall from read in
    record {
      falling = pairs_unmap FallsTo segment_data segments (fall_only d 65536 (map segment_data segments) are.fall).1;
      once = pairs_unmap SharesNoDocument segment_data segments (alone_only [] (map segment_data segments) are.alone).1;
      count = sym (length-map segments segment_data) ∙ are.count;
    }
