-- What private functions say of the four lanes at once. No public contract cites it.
use Rattle.std.specs.Prelude.{ℕ, ◌+◌, ◌*◌, ◌/◌, ◌%◌, ◌==◌, Bool, cond, not, List, [], ◌∷◌, slice_index}
use Rattle.lane_kernels.specs.Block.{number_of_bits, lane_word, lane_number, packed_bit}

-- word j of each lane
abbrev pub lane_words : List ℕ → ℕ → List ℕ
lane_words bytes j = lane_word bytes 0 j ∷ lane_word bytes 1 j ∷ lane_word bytes 2 j ∷ lane_word bytes 3 j ∷ []

-- the number that stands in each lane from bit `first` on
abbrev pub lane_numbers : List ℕ → ℕ → ℕ → List ℕ
lane_numbers bytes width first =
    lane_number bytes width 0 first ∷ lane_number bytes width 1 first ∷ lane_number bytes width 2 first ∷ lane_number bytes width 3 first ∷ []

-- the bits of each lane that the values before bit x fill in the word of bit x
abbrev pub pending_lanes : List ℕ → ℕ → ℕ → List ℕ
pending_lanes values width x =
    let lane = λ (l : ℕ). number_of_bits (λ v. packed_bit values width l (32 * (x / 32) + v)) (x % 32) in lane 0 ∷ lane 1 ∷ lane 2 ∷ lane 3 ∷ []

-- whether lane k isn't 0
abbrev pub is_marked : List ℕ → ℕ → Bool
is_marked marks k = not (slice_index marks k == 0)

-- what is added in lane k: w where it is marked
abbrev pub weight_at : ℕ → List ℕ → ℕ → ℕ
weight_at w marks k = cond (is_marked marks k) w 0
