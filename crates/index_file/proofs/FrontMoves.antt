-- The front of a content, read in a piece that holds it.
use Rattle.shared_lemmas.proofs.Common.{◌≡◌, ℕ, ◌+◌, ◌≤◌, ◌<◌, ◌==◌, ◌||◌, not, Bool, true, false, nat_lt, nat_eq, List, length, take, Result, refl, ap, sym, ◌∙◌, arith, inl, inr, ◌⊎◌, take-take, take-length, nat_tests, [], ◌∷◌}
use Rattle.std.specs.Cmp.Lexicographic.{pointwise}
use Rattle.std.specs.List.{starts_with}
use Rattle.jass_base.specs.declared.limits.TheConstants.{LONGEST_FILE, MOST_DOCUMENTS, MOST_POSTINGS, MOST_TERMS}
use Rattle.index_layout.specs.Bytes.{u32_in, u64_in}
use Rattle.index_layout.specs.Layout.{magic, old_magic}
use Rattle.index_layout.specs.Reading.{Front, front_checks, read_front}
use Rattle.index_layout.specs.Refusals.{Check, check, judged}
use Rattle.index_layout.specs.declared.refusal.OpenRefusal.{OpenRefusal}
use Rattle.index_layout.specs.declared.refusal.OpenWhy.TheVariants.{Old, Magic, Length, Totals, Limit}
use Rattle.index_file.proofs.Pieces.{piece_u32, piece_u64}
use Rattle.index_file.specs.Pieces.{IsPiece}

-- the numbers of a front
abbrev pub number_checks : List ℕ → List Check
number_checks bytes =
    check (nat_lt MOST_DOCUMENTS (u32_in bytes 16)) 16 Limit
    ∷ check (nat_lt MOST_TERMS (u32_in bytes 20)) 20 Limit
    ∷ check (nat_lt MOST_POSTINGS (u64_in bytes 24)) 24 Limit
    ∷ check (not (u32_in bytes 36 == 0)) 36 Totals
    ∷ []

-- what is judged of the front's bytes, and of two answers about the whole
abbrev pub bytes_checks : List ℕ → Bool → Bool → List Check
bytes_checks bytes long fits =
    check long LONGEST_FILE Limit
    ∷ check (starts_with nat_eq bytes old_magic) 0 Old
    ∷ check (not (starts_with nat_eq bytes magic)) 0 Magic
    ∷ check (nat_lt (length bytes) 40 || not fits) 8 Length
    ∷ number_checks bytes

abbrev pub judged_bytes : List ℕ → Bool → Bool → Result Front OpenRefusal
judged_bytes bytes long fits = judged (bytes_checks bytes long fits) (record { docs = u32_in bytes 16; terms = u32_in bytes 20 })

-- the content and the piece agree where the front is read
record SameFront (content bytes : List ℕ) (fits : Bool) : Type 0 where
  pub old : starts_with nat_eq content old_magic ≡ starts_with nat_eq bytes old_magic
  pub new : starts_with nat_eq content magic ≡ starts_with nat_eq bytes magic
  pub size : (nat_lt (length content) 40 || not (u64_in content 8 == length content)) ≡ (nat_lt (length bytes) 40 || not fits)
  pub docs : u32_in content 16 ≡ u32_in bytes 16
  pub terms : u32_in content 20 ≡ u32_in bytes 20
  pub postings : u64_in content 24 ≡ u64_in bytes 24
  pub last : u32_in content 36 ≡ u32_in bytes 36

size_told : (content : List ℕ) (fits : Bool) → (40 ≤ length content → fits ≡ (u64_in content 8 == length content))
    → (nat_lt (length content) 40 || not (u64_in content 8 == length content)) ≡ (nat_lt (length content) 40 || not fits)
size_told content fits told = by_answer (nat_lt (length content) 40) refl
  where
    by_answer : (short : Bool) → short ≡ nat_lt (length content) 40 → (nat_lt (length content) 40 || not (u64_in content 8 == length content)) ≡ (nat_lt (length content) 40 || not fits)
    by_answer true short = rw (sym short) refl
    by_answer false short =
        let long : 40 ≤ length content = grind (arith, nat_tests, short) in
        ap (λ b. nat_lt (length content) 40 || not b) (sym (told long))

-- a piece that is the whole
same_whole : (content bytes : List ℕ) (fits : Bool) → bytes ≡ content → (40 ≤ length content → fits ≡ (u64_in content 8 == length content)) → SameFront content bytes fits
same_whole content bytes fits is told =
    let same = sym is in
    record {
      old = ap (λ (xs : List ℕ). starts_with nat_eq xs old_magic) same;
      new = ap (λ (xs : List ℕ). starts_with nat_eq xs magic) same;
      size = size_told content fits told ∙ ap (λ (xs : List ℕ). nat_lt (length xs) 40 || not fits) same;
      docs = ap (λ (xs : List ℕ). u32_in xs 16) same;
      terms = ap (λ (xs : List ℕ). u32_in xs 20) same;
      postings = ap (λ (xs : List ℕ). u64_in xs 24) same;
      last = ap (λ (xs : List ℕ). u32_in xs 36) same;
    }

-- a piece that holds the front
same_long : (content bytes : List ℕ) (count : ℕ) (fits : Bool) → IsPiece content 0 count bytes → 40 ≤ length bytes → (40 ≤ length content → fits ≡ (u64_in content 8 == length content)) → SameFront content bytes fits
same_long content bytes count fits piece long told =
    let eight : take 8 bytes ≡ take 8 content = (let few : 8 ≤ length bytes = omega (arith, long) in ap (take 8) piece.from.front ∙ take-take 8 (length bytes) content few) in
    let reach : 40 ≤ length content = (let e = piece.within in omega (arith, e, long)) in
    let two : nat_lt (length content) 40 ≡ false = grind (arith, nat_tests, reach) in
    let one : nat_lt (length bytes) 40 ≡ false = grind (arith, nat_tests, long) in
    record {
      old = ap (pointwise nat_eq old_magic) (sym eight);
      new = ap (pointwise nat_eq magic) (sym eight);
      size = size_told content fits told ∙ ap (λ b. b || not fits) (two ∙ sym one);
      docs = (let e : 16 + 4 ≤ length bytes = omega (arith, long) in sym (piece_u32 content bytes 0 16 piece.from e));
      terms = (let e : 20 + 4 ≤ length bytes = omega (arith, long) in sym (piece_u32 content bytes 0 20 piece.from e));
      postings = (let e : 24 + 8 ≤ length bytes = omega (arith, long) in sym (piece_u64 content bytes 0 24 piece.from e));
      last = (let e : 36 + 4 ≤ length bytes = omega (arith, long) in sym (piece_u32 content bytes 0 36 piece.from e));
    }

same_front : (content bytes : List ℕ) (fits : Bool) → IsPiece content 0 40 bytes → (40 ≤ length bytes) ⊎ (0 + length bytes ≡ length content) → (40 ≤ length content → fits ≡ (u64_in content 8 == length content)) → SameFront content bytes fits
same_front content bytes fits piece (inl long) told = same_long content bytes 40 fits piece long told
same_front content bytes fits piece (inr end) told =
    let size : length bytes ≡ length content = omega (arith, end) in
    same_whole content bytes fits (piece.from.front ∙ ap (λ n. take n content) size ∙ take-length content) told

pub front_as : (content bytes : List ℕ) (long fits : Bool) → IsPiece content 0 40 bytes → long ≡ nat_lt LONGEST_FILE (length content) → (long ≡ false → 40 ≤ length content → fits ≡ (u64_in content 8 == length content))
    → read_front content ≡ judged_bytes bytes long fits
unfolding read_front front_checks
front_as content bytes true fits piece is told = rw (sym is) refl
front_as content bytes false fits piece is told =
    let same = same_front content bytes fits piece piece.enough (told refl) in
    rw (sym is, same.old, same.new, same.size, same.docs, same.terms, same.postings, same.last) refl

-- the totals that the front tells
pub totals_as : (content bytes : List ℕ) → IsPiece content 0 40 bytes → 40 ≤ length bytes → (u64_in bytes 24 ≡ u64_in content 24) × (u32_in bytes 32 ≡ u32_in content 32)
totals_as content bytes piece long =
    let one : 24 + 8 ≤ length bytes = omega (arith, long) in
    let two : 32 + 4 ≤ length bytes = omega (arith, long) in
    (piece_u64 content bytes 0 24 piece.from one, piece_u32 content bytes 0 32 piece.from two)

pub size_as : (content bytes : List ℕ) → IsPiece content 0 40 bytes → 40 ≤ length bytes → (40 ≤ length content → true ≡ (u64_in content 8 == length content)) → u64_in bytes 8 ≡ length content
size_as content bytes piece long told =
    let one : 8 + 8 ≤ length bytes = omega (arith, long) in
    let there : 40 ≤ length content = (let e = piece.within in omega (arith, e, long)) in
    let test = told there in
    let is : u64_in content 8 ≡ length content = grind (arith, nat_tests, test) in
    piece_u64 content bytes 0 8 piece.from one ∙ is

pub short_or_other : (n : ℕ) (fits : Bool) → (n < 40) ⊎ ((40 ≤ n) × (fits ≡ false)) → (nat_lt n 40 || not fits) ≡ true
short_or_other n fits (inl short) = let e : nat_lt n 40 ≡ true = grind (arith, nat_tests, short) in rw e refl
short_or_other n fits (inr both) =
    let long = both.0 in
    let e : nat_lt n 40 ≡ false = grind (arith, nat_tests, long) in
    rw (e, both.1) refl

pub long_and_fits : (n : ℕ) (fits : Bool) → 40 ≤ n → fits ≡ true → (nat_lt n 40 || not fits) ≡ false
long_and_fits n fits long is = let e : nat_lt n 40 ≡ false = grind (arith, nat_tests, long) in rw (e, is) refl

-- the checks before the numbers are passed
pub front_fits : (bytes : List ℕ) (long fits : Bool) → long ≡ false → starts_with nat_eq bytes old_magic ≡ false → starts_with nat_eq bytes magic ≡ true → 40 ≤ length bytes → fits ≡ true
    → judged_bytes bytes long fits ≡ judged (number_checks bytes) (record { docs = u32_in bytes 16; terms = u32_in bytes 20 })
front_fits bytes long fits few old new many is = rw (few, old, new, long_and_fits (length bytes) fits many is) refl

pub above_is : (most n m : ℕ) → m ≡ n → most < m → nat_lt most n ≡ true
above_is most n m is more = grind (arith, nat_tests, is, more)

pub below_is : (most n m : ℕ) → m ≡ n → m ≤ most → nat_lt most n ≡ false
below_is most n m is few = grind (arith, nat_tests, is, few)
