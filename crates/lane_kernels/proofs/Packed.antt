-- A packed block and its values determine each other.
use Rattle.shared_lemmas.proofs.Common.{◌≡◌, ℕ, zero, suc, ◌+◌, ◌*◌, ◌/◌, ◌%◌, ◌^◌, ◌<◌, List, [], ◌∷◌, length, get_or, All, sym, ap, ◌∙◌, arith, bit_at, get_or_default, div-add-mod', div-mul-add, mod-mul-add, div_below, mod_below, mul-add-lt, bit_at-lt}
use Rattle.shared_lemmas.proofs.Places.{reads_below}
use Rattle.lane_kernels.specs.Block.{list_of, word_at, lane_word, lane_bit, block_value, block_values, packed_bit, block_byte, block_bytes}
use Rattle.lane_kernels.proofs.Bits.{bit_at_number, number_below, number_is, length-list_of, get_or-list_of, list_of_all}
use Rattle.lane_kernels.proofs.PackRows.{get_or_of_four}
use Rattle.lane_kernels.proofs.SetBits.{bit_of_number}
use lib.Lanes.{number_l}

-- a list that is made from numbers below a bound
list_of_below : (f : ℕ → ℕ) (n m : ℕ) → ((k : ℕ) → k < n → f k < m) → All (λ x. x < m) (list_of f n)
list_of_below f n m below k d h =
    let inside : k < n = omega (arith, length-list_of f n) in
    omega (arith, get_or_default (list_of f n) k d 0 h, get_or-list_of f n k inside, below k inside)

-- bits of a block are bits
pub value_below : (bytes : List ℕ) (width i : ℕ) → block_value bytes width i < 2 ^ width
value_below bytes width i = number_below _ width (λ v _. bit_at-lt (lane_word bytes (i % 4) ((i / 4 * width + v) / 32)) ((i / 4 * width + v) % 32))

pub byte_below : (values : List ℕ) (width k : ℕ) → block_byte values width k < 256
byte_below values width k =
    number_below _ 8 (λ v _. bit_at-lt (get_or values (4 * ((32 * (k / 16) + 8 * (k % 4) + v) / width) + k % 16 / 4) 0) ((32 * (k / 16) + 8 * (k % 4) + v) % width))

pub values_below : (bytes : List ℕ) (width : ℕ) → All (λ v. v < 2 ^ width) (block_values bytes width)
values_below bytes width = list_of_below (block_value bytes width) 128 (2 ^ width) (λ k _. value_below bytes width k)

pub bytes_below : (values : List ℕ) (width : ℕ) → All (λ b. b < 256) (block_bytes values width)
bytes_below values width = list_of_below (block_byte values width) (16 * width) 256 (λ k _. byte_below values width k)

four_below : (a b c d : ℕ) → a < 256 → b < 256 → c < 256 → d < 256 → (k : ℕ) → get_or (a ∷ b ∷ c ∷ d ∷ []) k 0 < 256
four_below a b c d p q r s zero = p
four_below a b c d p q r s (suc zero) = q
four_below a b c d p q r s (suc (suc zero)) = r
four_below a b c d p q r s (suc (suc (suc zero))) = s
four_below a b c d p q r s (suc (suc (suc (suc k)))) = omega arith

-- bit i of a word is in its byte i / 8
word_bit : (bytes : List ℕ) → ((k : ℕ) → get_or bytes k 0 < 256) → (at i : ℕ) → i < 32 → bit_at (word_at bytes at) i ≡ bit_at (get_or bytes (at + i / 8) 0) (i % 8)
word_bit bytes fits at i h =
    let read = λ (q : ℕ). get_or bytes (at + q) 0 in
    let four : List ℕ = read 0 ∷ read 1 ∷ read 2 ∷ read 3 ∷ [] in
    let first : get_or bytes at 0 ≡ read 0 = ap (λ k. get_or bytes k 0) (omega arith) in
    let word : word_at bytes at ≡ number_l 256 four = omega arith in
    ap (λ n. bit_at n i) word
    ∙ sym (bit_of_number four (four_below (read 0) (read 1) (read 2) (read 3) (fits (at + 0)) (fits (at + 1)) (fits (at + 2)) (fits (at + 3))) i)
    ∙ ap (λ b. bit_at b (i % 8)) (get_or_of_four read (i / 8) (omega arith))

-- ---- a lane of a packed block
packed_lane : (values : List ℕ) (width lane x : ℕ) → lane < 4 → x < 32 * width → lane_bit (block_bytes values width) lane x ≡ packed_bit values width lane x
packed_lane values width lane x l h =
    let bytes : List ℕ = block_bytes values width in
    let i : ℕ = x % 32 in
    let k : ℕ = 16 * (x / 32) + 4 * lane + i / 8 in
    let inside : k < 16 * width = omega arith in
    let bit = λ (v : ℕ). packed_bit values width (k % 16 / 4) (32 * (k / 16) + 8 * (k % 4) + v) in
    word_bit bytes (reads_below bytes (bytes_below values width)) (16 * (x / 32) + 4 * lane) i (omega arith)
    ∙ ap (λ b. bit_at b (i % 8)) (get_or-list_of (block_byte values width) (16 * width) k inside)
    ∙ bit_at_number bit 8 (λ v _. bit_at-lt (get_or values (4 * ((32 * (k / 16) + 8 * (k % 4) + v) / width) + k % 16 / 4) 0) ((32 * (k / 16) + 8 * (k % 4) + v) % width)) (i % 8) (omega arith)
    ∙ ap (λ m. packed_bit values width m (32 * (k / 16) + 8 * (k % 4) + i % 8)) (let e : k % 16 / 4 ≡ lane = omega arith in e)
    ∙ ap (packed_bit values width lane) (let e : 32 * (k / 16) + 8 * (k % 4) + i % 8 ≡ x = omega arith in e)

pub values_of_block : (values : List ℕ) (width : ℕ) → length values ≡ 128 → All (λ v. v < 2 ^ width) values → block_values (block_bytes values width) width ≡ values
values_of_block values width long below =
    let bytes : List ℕ = block_bytes values width in
    sym (list_of_all (block_value bytes width) values 128 long (λ k h.
    number_is (λ v. lane_bit bytes (k % 4) (k / 4 * width + v)) width (get_or values k 0) (below k 0 (omega arith)) (λ v l.
    let place : 4 * (k / 4) + k % 4 ≡ k = omega arith in
    sym (packed_lane values width (k % 4) (k / 4 * width + v) (omega arith) (let e : k / 4 * width + v < 32 * width = omega (arith, mul-add-lt (k / 4) width v 32 (omega arith) l) in e)
    ∙ ap (λ q. bit_at (get_or values (4 * q + k % 4) 0) ((k / 4 * width + v) % width)) (div-mul-add (k / 4) width v l)
    ∙ ap (bit_at (get_or values (4 * (k / 4) + k % 4) 0)) (mod-mul-add (k / 4) width v l)
    ∙ ap (λ n. bit_at (get_or values n 0) v) place))))

-- ---- a bit of the values of a block
value_bit : (bytes : List ℕ) (width lane x : ℕ) → 0 < width → lane < 4 → x < 32 * width → packed_bit (block_values bytes width) width lane x ≡ lane_bit bytes lane x
value_bit bytes width lane x some l h =
    let row : ℕ = x / width in
    let i : ℕ = 4 * row + lane in
    let within : row < 32 = div_below x width 32 some h in
    let bit = λ (v : ℕ). lane_bit bytes (i % 4) (i / 4 * width + v) in
    ap (λ n. bit_at n (x % width)) (get_or-list_of (block_value bytes width) 128 i (omega arith))
    ∙ bit_at_number bit width (λ v _. bit_at-lt (lane_word bytes (i % 4) ((i / 4 * width + v) / 32)) ((i / 4 * width + v) % 32)) (x % width) (mod_below x width some)
    ∙ ap (λ m. lane_bit bytes m (i / 4 * width + x % width)) (let e : i % 4 ≡ lane = omega arith in e)
    ∙ ap (λ r. lane_bit bytes lane (r * width + x % width)) (let e : i / 4 ≡ row = omega arith in e)
    ∙ ap (lane_bit bytes lane) (div-add-mod' x width)

pub block_of_values : (bytes : List ℕ) (width : ℕ) → length bytes ≡ 16 * width → All (λ b. b < 256) bytes → block_bytes (block_values bytes width) width ≡ bytes
block_of_values bytes width long below =
    let values : List ℕ = block_values bytes width in
    sym (list_of_all (block_byte values width) bytes (16 * width) long (λ k h.
    number_is (λ v. packed_bit values width (k % 16 / 4) (32 * (k / 16) + 8 * (k % 4) + v)) 8 (get_or bytes k 0) (reads_below bytes below k) (λ v l.
    let lane : ℕ = k % 16 / 4 in
    let x : ℕ = 32 * (k / 16) + 8 * (k % 4) + v in
    sym (value_bit bytes width lane x (omega arith) (omega arith) (omega arith)
    ∙ word_bit bytes (reads_below bytes below) (16 * (x / 32) + 4 * lane) (x % 32) (omega arith)
    ∙ ap (λ n. bit_at (get_or bytes n 0) (x % 32 % 8)) (let e : 16 * (x / 32) + 4 * lane + x % 32 / 8 ≡ k = omega arith in e)
    ∙ ap (bit_at (get_or bytes k 0)) (let e : x % 32 % 8 ≡ v = omega arith in e)))))

-- a bit of a value is a bit of its lane
pub bit_of_value : (bytes : List ℕ) (width i v : ℕ) → i < 128 → v < width → bit_at (get_or (block_values bytes width) i 0) v ≡ lane_bit bytes (i % 4) (i / 4 * width + v)
bit_of_value bytes width i v h l =
    ap (λ n. bit_at n v) (get_or-list_of (block_value bytes width) 128 i h)
    ∙ bit_at_number (λ u. lane_bit bytes (i % 4) (i / 4 * width + u)) width (λ u _. bit_at-lt (lane_word bytes (i % 4) ((i / 4 * width + u) / 32)) ((i / 4 * width + u) % 32)) v l
