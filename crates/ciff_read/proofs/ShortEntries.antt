-- Postings in their usual spelling.
use Rattle.shared_lemmas.proofs.Common.{◌≡◌, ℕ, ◌+◌, ◌-◌, ◌*◌, ◌/◌, ◌%◌, ◌^◌, ◌<◌, ◌≤◌, true, false, List, [], ◌∷◌, length, get_or, take, drop, Result, Ok, refl, sym, ap, subst, ◌∙◌, arith, ◌⊎◌, inl, inr, nat_lt, cases_lt, nat_tests, length-drop, drop-drop}
use Rattle.ciff_read.proofs.Below.{WireField, Text, WireWhy, to_end}
use Rattle.wire_fields.specs.Reading.{varint_at, field_at}
use Rattle.ciff_read.specs.declared.posting_fields.PostingFields.{PostingFields}
use Rattle.ciff_read.specs.declared.refusal.CiffRefusal.{CiffRefusal}
use Rattle.ciff_read.specs.Refusals.{◌>>=◌}
use Rattle.ciff_read.specs.Private.Usual.{IsPosting}
use Rattle.ciff_read.specs.Walking.{walk_within, entry_at, entry_inside}

-- ---- the body

abbrev read_as : ℕ → ℕ → Result PostingFields CiffRefusal
read_as docid tf = Ok (record { docid = docid; tf = tf })

of_four : (at g t : ℕ) → g < 128 → t < 128 → entry_at at (8 ∷ g ∷ 16 ∷ t ∷ []) ≡ read_as g t
unfolding varint_at field_at walk_within
of_four at g t small low =
    let a : nat_lt g 128 ≡ true = grind (arith, nat_tests) in
    let b : nat_lt t 128 ≡ true = grind (arith, nat_tests) in
    rw (a, b) refl

of_five : (at g h t : ℕ) → 128 ≤ g → h < 128 → t < 128 → entry_at at (8 ∷ g ∷ h ∷ 16 ∷ t ∷ []) ≡ read_as (g % 128 + 128 * h) t
unfolding varint_at field_at walk_within
of_five at g h t high small low =
    let a : nat_lt g 128 ≡ false = grind (arith, nat_tests) in
    let b : nat_lt h 128 ≡ true = grind (arith, nat_tests) in
    let c : nat_lt t 128 ≡ true = grind (arith, nat_tests) in
    rw (a, b, c) refl

of_six : (at g h i t : ℕ) → 128 ≤ g → 128 ≤ h → i < 128 → t < 128 → entry_at at (8 ∷ g ∷ h ∷ i ∷ 16 ∷ t ∷ []) ≡ read_as (g % 128 + 128 * (h % 128 + 128 * i)) t
unfolding varint_at field_at walk_within
of_six at g h i t high top small low =
    let a : nat_lt g 128 ≡ false = grind (arith, nat_tests) in
    let b : nat_lt h 128 ≡ false = grind (arith, nat_tests) in
    let c : nat_lt i 128 ≡ true = grind (arith, nat_tests) in
    let d : nat_lt t 128 ≡ true = grind (arith, nat_tests) in
    rw (a, b, c, d) refl

-- ---- the field

abbrev found : List ℕ → List ℕ → Result (WireField × List ℕ) WireWhy
found body rest = Ok (record { number = 4; value = Text body }, rest)

field_of_four : (c d e f : ℕ) (rest : List ℕ) → field_at (34 ∷ 4 ∷ c ∷ d ∷ e ∷ f ∷ rest) ≡ found (c ∷ d ∷ e ∷ f ∷ []) rest
unfolding varint_at field_at
field_of_four c d e f rest =
    let enough : nat_lt (length (c ∷ d ∷ e ∷ f ∷ rest)) 4 ≡ false = grind (arith, nat_tests) in
    rw enough refl

field_of_five : (c d e f g : ℕ) (rest : List ℕ) → field_at (34 ∷ 5 ∷ c ∷ d ∷ e ∷ f ∷ g ∷ rest) ≡ found (c ∷ d ∷ e ∷ f ∷ g ∷ []) rest
unfolding varint_at field_at
field_of_five c d e f g rest =
    let enough : nat_lt (length (c ∷ d ∷ e ∷ f ∷ g ∷ rest)) 5 ≡ false = grind (arith, nat_tests) in
    rw enough refl

field_of_six : (c d e f g h : ℕ) (rest : List ℕ) → field_at (34 ∷ 6 ∷ c ∷ d ∷ e ∷ f ∷ g ∷ h ∷ rest) ≡ found (c ∷ d ∷ e ∷ f ∷ g ∷ h ∷ []) rest
unfolding varint_at field_at
field_of_six c d e f g h rest =
    let enough : nat_lt (length (c ∷ d ∷ e ∷ f ∷ g ∷ h ∷ rest)) 6 ≡ false = grind (arith, nat_tests) in
    rw enough refl

-- the field at the front takes so many bytes, and is this posting
pub record Begins (s : List ℕ) (docid tf size : ℕ) : Type 0 where
  pub body : List ℕ
  pub read : field_at s ≡ found body (drop size s)
  pub spells : (from : ℕ) → entry_at from body ≡ read_as docid tf
  pub within : size ≤ length s

pub narrow : (s : List ℕ) (docid tf : ℕ) → 6 ≤ length s → get_or s 0 0 ≡ 34 → get_or s 1 0 ≡ 4 → get_or s 2 0 ≡ 8 → get_or s 3 0 < 128 → get_or s 4 0 ≡ 16 → get_or s 5 0 < 128 → docid ≡ get_or s 3 0 → tf ≡ get_or s 5 0 → Begins s docid tf 6
narrow [] docid tf size _ _ _ _ _ _ _ _ = absurd (omega (arith, size))
narrow (a ∷ []) docid tf size _ _ _ _ _ _ _ _ = absurd (omega (arith, size))
narrow (a ∷ b ∷ []) docid tf size _ _ _ _ _ _ _ _ = absurd (omega (arith, size))
narrow (a ∷ b ∷ c ∷ []) docid tf size _ _ _ _ _ _ _ _ = absurd (omega (arith, size))
narrow (a ∷ b ∷ c ∷ g ∷ []) docid tf size _ _ _ _ _ _ _ _ = absurd (omega (arith, size))
narrow (a ∷ b ∷ c ∷ g ∷ e ∷ []) docid tf size _ _ _ _ _ _ _ _ = absurd (omega (arith, size))
narrow (a ∷ b ∷ c ∷ g ∷ e ∷ t ∷ rest) docid tf size tag long first small second low is tf_is = record {
  body = 8 ∷ g ∷ 16 ∷ t ∷ [];
  read = ap (λ n. field_at (n ∷ b ∷ c ∷ g ∷ e ∷ t ∷ rest)) tag ∙ ap (λ n. field_at (34 ∷ n ∷ c ∷ g ∷ e ∷ t ∷ rest)) long ∙ ap (λ n. field_at (34 ∷ 4 ∷ n ∷ g ∷ e ∷ t ∷ rest)) first ∙ ap (λ n. field_at (34 ∷ 4 ∷ 8 ∷ g ∷ n ∷ t ∷ rest)) second ∙ field_of_four 8 g 16 t rest;
  spells = λ from. of_four from g t small low ∙ ap (λ n. read_as n t) (sym is) ∙ ap (read_as docid) (sym tf_is);
  within = omega (arith, size);
}

pub wide : (s : List ℕ) (docid tf : ℕ) → 7 ≤ length s → get_or s 0 0 ≡ 34 → get_or s 1 0 ≡ 5 → get_or s 2 0 ≡ 8 → 128 ≤ get_or s 3 0 → get_or s 4 0 < 128 → get_or s 5 0 ≡ 16 → get_or s 6 0 < 128 → docid ≡ get_or s 3 0 % 128 + 128 * get_or s 4 0 → tf ≡ get_or s 6 0 → Begins s docid tf 7
wide [] docid tf size _ _ _ _ _ _ _ _ _ = absurd (omega (arith, size))
wide (a ∷ []) docid tf size _ _ _ _ _ _ _ _ _ = absurd (omega (arith, size))
wide (a ∷ b ∷ []) docid tf size _ _ _ _ _ _ _ _ _ = absurd (omega (arith, size))
wide (a ∷ b ∷ c ∷ []) docid tf size _ _ _ _ _ _ _ _ _ = absurd (omega (arith, size))
wide (a ∷ b ∷ c ∷ g ∷ []) docid tf size _ _ _ _ _ _ _ _ _ = absurd (omega (arith, size))
wide (a ∷ b ∷ c ∷ g ∷ h ∷ []) docid tf size _ _ _ _ _ _ _ _ _ = absurd (omega (arith, size))
wide (a ∷ b ∷ c ∷ g ∷ h ∷ e ∷ []) docid tf size _ _ _ _ _ _ _ _ _ = absurd (omega (arith, size))
wide (a ∷ b ∷ c ∷ g ∷ h ∷ e ∷ t ∷ rest) docid tf size tag long first high small second low is tf_is = record {
  body = 8 ∷ g ∷ h ∷ 16 ∷ t ∷ [];
  read = ap (λ n. field_at (n ∷ b ∷ c ∷ g ∷ h ∷ e ∷ t ∷ rest)) tag ∙ ap (λ n. field_at (34 ∷ n ∷ c ∷ g ∷ h ∷ e ∷ t ∷ rest)) long ∙ ap (λ n. field_at (34 ∷ 5 ∷ n ∷ g ∷ h ∷ e ∷ t ∷ rest)) first ∙ ap (λ n. field_at (34 ∷ 5 ∷ 8 ∷ g ∷ h ∷ n ∷ t ∷ rest)) second ∙ field_of_five 8 g h 16 t rest;
  spells = λ from. of_five from g h t high small low ∙ ap (λ n. read_as n t) (sym is) ∙ ap (read_as docid) (sym tf_is);
  within = omega (arith, size);
}

pub wider : (s : List ℕ) (docid tf : ℕ) → 8 ≤ length s → get_or s 0 0 ≡ 34 → get_or s 1 0 ≡ 6 → get_or s 2 0 ≡ 8 → 128 ≤ get_or s 3 0 → 128 ≤ get_or s 4 0 → get_or s 5 0 < 128 → get_or s 6 0 ≡ 16 → get_or s 7 0 < 128
    → docid ≡ get_or s 3 0 % 128 + 128 * (get_or s 4 0 % 128 + 128 * get_or s 5 0) → tf ≡ get_or s 7 0 → Begins s docid tf 8
wider [] docid tf size _ _ _ _ _ _ _ _ _ _ = absurd (omega (arith, size))
wider (a ∷ []) docid tf size _ _ _ _ _ _ _ _ _ _ = absurd (omega (arith, size))
wider (a ∷ b ∷ []) docid tf size _ _ _ _ _ _ _ _ _ _ = absurd (omega (arith, size))
wider (a ∷ b ∷ c ∷ []) docid tf size _ _ _ _ _ _ _ _ _ _ = absurd (omega (arith, size))
wider (a ∷ b ∷ c ∷ g ∷ []) docid tf size _ _ _ _ _ _ _ _ _ _ = absurd (omega (arith, size))
wider (a ∷ b ∷ c ∷ g ∷ h ∷ []) docid tf size _ _ _ _ _ _ _ _ _ _ = absurd (omega (arith, size))
wider (a ∷ b ∷ c ∷ g ∷ h ∷ i ∷ []) docid tf size _ _ _ _ _ _ _ _ _ _ = absurd (omega (arith, size))
wider (a ∷ b ∷ c ∷ g ∷ h ∷ i ∷ e ∷ []) docid tf size _ _ _ _ _ _ _ _ _ _ = absurd (omega (arith, size))
wider (a ∷ b ∷ c ∷ g ∷ h ∷ i ∷ e ∷ t ∷ rest) docid tf size tag long first high top small second low is tf_is = record {
  body = 8 ∷ g ∷ h ∷ i ∷ 16 ∷ t ∷ [];
  read = ap (λ n. field_at (n ∷ b ∷ c ∷ g ∷ h ∷ i ∷ e ∷ t ∷ rest)) tag ∙ ap (λ n. field_at (34 ∷ n ∷ c ∷ g ∷ h ∷ i ∷ e ∷ t ∷ rest)) long
      ∙ ap (λ n. field_at (34 ∷ 6 ∷ n ∷ g ∷ h ∷ i ∷ e ∷ t ∷ rest)) first ∙ ap (λ n. field_at (34 ∷ 6 ∷ 8 ∷ g ∷ h ∷ i ∷ n ∷ t ∷ rest)) second
      ∙ field_of_six 8 g h i 16 t rest;
  spells = λ from. of_six from g h i t high top small low ∙ ap (λ n. read_as n t) (sym is) ∙ ap (read_as docid) (sym tf_is);
  within = omega (arith, size);
}

-- the posting at a place
pub posting_at : (bytes : List ℕ) (at docid tf size next : ℕ) → at ≤ length bytes → 0 < size → at + size ≡ next → Begins (drop at bytes) docid tf size → IsPosting bytes at (record { docid = docid; tf = tf }) next
posting_at bytes at docid tf size next inside some place begins = record {
  body = begins.body;
  read = begins.read ∙ ap (found begins.body) (drop-drop size at bytes ∙ ap (λ n. drop n bytes) place);
  spells = begins.spells;
  before = omega (arith, some, place);
  within = omega (arith, begins.within, length-drop at bytes, inside, place);
}

pub entry_there : (bytes : List ℕ) (at : ℕ) (entry : PostingFields) (next : ℕ) → (p : IsPosting bytes at entry next) → entry_inside at next (record { number = 4; value = Text p.body }) ≡ Ok (record { at = at; entry = entry } ∷ [])
entry_there bytes at entry next p = ap (λ (r : Result PostingFields CiffRefusal). r >>= λ e. Ok (record { at = at; entry = e } ∷ [])) (p.spells (next - length p.body))
