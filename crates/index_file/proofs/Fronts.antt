-- The first 40 bytes of a content, as they are held.
use Rattle.shared_lemmas.proofs.Common.{◌≡◌, ◌≤◌, ◌+◌, ◌⊎◌, ◌==◌, inl, inr, ℕ, Bool, false, List, length, Result, Ok, Err, IfOk, sym, ap, ◌∙◌, subst, arith, nat_lt, nat_tests, take-length}
use Rattle.whole_files.specs.Windows.{AreFrom}
use Rattle.index_layout.specs.Bytes.{u64_in}
use Rattle.index_file.proofs.Pieces.{piece_u64}
use Rattle.index_file.specs.Answers.{AnswersFront}
use Rattle.index_file.specs.Pieces.{IsPiece}
use Rattle.index_file.specs.declared.front.Front.{Front}
use Rattle.index_layout.specs.Reading.{Front as Read, read_front}
use Rattle.index_layout.specs.declared.refusal.OpenFault.{OpenFault}
use Rattle.index_layout.specs.declared.refusal.OpenRefusal.{OpenRefusal}
use Rattle.jass_base.specs.declared.limits.TheConstants.{LONGEST_FILE}

pub front_piece : (content bytes held : List ℕ) (start : ℕ) → AreFrom content start bytes → start ≤ 0 → held ≡ bytes
    → ((0 + 40 ≤ start + length bytes) ⊎ (length content ≤ start + length bytes)) → IsPiece content 0 40 held
front_piece content bytes held start is first same reach =
    let none : start ≡ 0 = omega (arith, first) in
    let from : AreFrom content 0 held = subst (λ n. AreFrom content n held) none (subst (AreFrom content start) (sym same) is) in
    let size : length held ≡ length bytes = ap length same in
    record { from = from; within = omega (arith, from.within); enough = enough none size from.within reach }
  where
    enough : start ≡ 0 → length held ≡ length bytes → length held ≤ length content → ((0 + 40 ≤ start + length bytes) ⊎ (length content ≤ start + length bytes)) → (40 ≤ length held) ⊎ (0 + length held ≡ length content)
    enough none size few (inl all) = inl (omega (arith, none, size, all))
    enough none size few (inr end) = inr (omega (arith, none, size, end, few))

-- the piece has 40 bytes where the content has
front_whole : (content held : List ℕ) → IsPiece content 0 40 held → 40 ≤ length content → 40 ≤ length held
front_whole content held is many = at is.enough
  where
    at : ((40 ≤ length held) ⊎ (0 + length held ≡ length content)) → 40 ≤ length held
    at (inl all) = all
    at (inr end) = omega (arith, end, many)

-- no longer than a file may be
not_long : (n most : ℕ) (is_long : Bool) → is_long ≡ nat_lt most n → is_long ≡ false → n ≤ most
not_long n most is_long is no_longer = grind (arith, nat_tests)

-- whether the content has the size that is told
pub size_fits : (content held now : List ℕ) (size : ℕ) (is_long fits : Bool) → IsPiece content 0 40 held → now ≡ held → (40 ≤ length now → size ≡ u64_in now 8) → is_long ≡ nat_lt LONGEST_FILE (length content)
    → (40 ≤ length content → length content ≤ LONGEST_FILE → fits ≡ (size == length content))
    → is_long ≡ false → 40 ≤ length content → fits ≡ (u64_in content 8 == length content)
size_fits content held now size is_long fits is same told long has short many =
    let all : 40 ≤ length held = front_whole content held is many in
    let here : 40 ≤ length now = subst (λ (xs : List ℕ). 40 ≤ length xs) (sym same) all in
    let inside : 8 + 8 ≤ length held = omega (arith, all) in
    has many (not_long (length content) LONGEST_FILE is_long long short)
    ∙ ap (λ n. n == length content) (told here ∙ ap (λ (xs : List ℕ). u64_in xs 8) same ∙ piece_u64 content held 0 8 is.from inside)

-- a front is judged as that of each content of so many bytes, of which its bytes are the first
pub record JudgedBy (bytes : List ℕ) (long fits : Bool) (result : Result Front OpenFault) : Type 0 where
  pub exact : (content : List ℕ) → IsPiece content 0 40 bytes → long ≡ nat_lt LONGEST_FILE (length content)
      → (long ≡ false → 40 ≤ length content → fits ≡ (u64_in content 8 == length content)) → AnswersFront content result

-- whether the size is the one that is told
fits_told : (content bytes : List ℕ) (size told : ℕ) (fits : Bool) → AreFrom content 0 bytes → size ≡ length content → fits ≡ (told == size) → (40 ≤ length bytes → told ≡ u64_in bytes 8) → 40 ≤ length bytes
    → fits ≡ (u64_in content 8 == length content)
fits_told content bytes size told fits is whole test tells long =
    let inside : 8 + 8 ≤ length bytes = omega (arith, long) in
    test ∙ ap (λ n. n == size) (tells long ∙ piece_u64 content bytes 0 8 is inside) ∙ ap (λ n. u64_in content 8 == n) whole

pub told_of_each : (bytes : List ℕ) (size told : ℕ) (long fits : Bool) (result : Result Front OpenFault) → JudgedBy bytes long fits result
    → long ≡ nat_lt LONGEST_FILE size → fits ≡ (told == size) → (40 ≤ length bytes → told ≡ u64_in bytes 8) → IfOk result (λ front. 40 ≤ length bytes)
    → IfOk result (λ front. (content : List ℕ) → size ≡ length content → AreFrom content 0 bytes → (let r : Result Read OpenRefusal = Ok (record { docs = front.docs; terms = front.terms }) in read_front content ≡ r))
told_of_each bytes size told long fits (Ok front) by longer test tells enough = λ content whole is.
    let few : length bytes ≤ length content = is.within in
    (by.exact content (record { from = is; within = omega (arith, few); enough = inl enough }) (longer ∙ ap (nat_lt LONGEST_FILE) whole)
    (λ short many. fits_told content bytes size told fits is whole test tells enough)).0
told_of_each bytes size told long fits (Err fault) by longer test tells enough = tt

-- the same for all of a file
pub told_of_whole : (bytes : List ℕ) (size told : ℕ) (long fits : Bool) (result : Result Front OpenFault) → JudgedBy bytes long fits result
    → long ≡ nat_lt LONGEST_FILE size → fits ≡ (told == size) → (40 ≤ length bytes → told ≡ u64_in bytes 8) → size ≡ length bytes → AnswersFront bytes result
told_of_whole bytes size told long fits result by longer test tells whole =
    let is : AreFrom bytes 0 bytes = record { front = sym (take-length bytes); within = omega arith } in
    by.exact bytes (record { from = is; within = omega arith; enough = inr (omega arith) }) (longer ∙ ap (nat_lt LONGEST_FILE) whole)
    (λ short many. fits_told bytes bytes size told fits is whole test tells many)

pub long_and_fitting : (n size : ℕ) (long : Bool) (result : Result Front OpenFault) → long ≡ nat_lt LONGEST_FILE size → IfOk result (λ front. 40 ≤ n) → IfOk result (λ front. long ≡ false)
    → IfOk result (λ front. (40 ≤ n) × (size ≤ LONGEST_FILE))
long_and_fitting n size long (Ok front) longer many short = (many, not_long size LONGEST_FILE long longer short)
long_and_fitting n size long (Err fault) longer many short = tt
