-- What is read as a field is one, and each field is read.
use Rattle.shared_lemmas.proofs.Common.{◌≡◌, ℕ, ◌+◌, ◌*◌, ◌/◌, ◌%◌, ◌<◌, ◌≤◌, Bool, true, false, cond, List, ◌++◌, length, take, drop, Result, Ok, Err, refl, sym, ap, subst, ◌∙◌, ◌⊎◌, inl, inr, eqb-true, append_assoc, arith, nat_lt, ◌==◌, ◌||◌, le-ltb, ltb-false, nat_tests, length-take}
use Rattle.shared_lemmas.proofs.Common.{length-append, take-append-drop, take_at, drop_at}
use Rattle.jass_base.specs.Wire.{WireField, WireValue, Number, Eight, Text, Four, wire_of, IsVarint, IsValue, IsField}
use Rattle.wire_fields.specs.declared.fault.WireWhy.{WireWhy}
use Rattle.wire_fields.specs.declared.fault.WireWhy.TheVariants.{Cut, FieldNumber}
use Rattle.wire_fields.specs.Reading.{◌>>=◌, varint_at, some_at, value_at, field_at}
use Rattle.wire_fields.proofs.VarintLaws.{bound, varint_stands, varint_again}
use Rattle.shared_lemmas.proofs.Results.{unless_ok}

some_stand : (n : ℕ) (bytes s rest : List ℕ) → some_at n bytes ≡ Ok (s, rest) → (bytes ≡ s ++ rest) × (length s ≡ n)
some_stand n bytes s rest is =
    let t = unless_ok (nat_lt (length bytes) n) Cut (Ok (take n bytes, drop n bytes)) (s, rest) is in
    let pair : (take n bytes, drop n bytes) ≡ (s, rest) = let e = t.1 in cc in
    let long : n ≤ length bytes = ltb-false _ _ t.0 in
    subst (λ (p : List ℕ × List ℕ). (bytes ≡ p.0 ++ p.1) × (length p.0 ≡ n)) pair (sym (take-append-drop n bytes), omega (arith, length-take n bytes))

some_again : (s rest : List ℕ) → some_at (length s) (s ++ rest) ≡ Ok (s, rest)
some_again s rest =
    let long : nat_lt (length (s ++ rest)) (length s) ≡ false = le-ltb _ _ (omega (arith, length-append s rest)) in
    rw (long, take_at s rest (length s) refl, drop_at s rest (length s) refl) refl

-- a value of this wire type
pub record StandsValue (wire : ℕ) (bytes : List ℕ) (v : WireValue) (rest : List ℕ) : Type 0 where
  pub wire_is : wire ≡ wire_of v
  pub s : List ℕ
  pub parts : bytes ≡ s ++ rest
  pub valued : IsValue s v

abbrev value_read : WireValue → List ℕ → Result (WireValue × List ℕ) WireWhy
value_read v rest = Ok (v, rest)

abbrev pair_of : WireValue → List ℕ → WireValue × List ℕ
pair_of v rest = (v, rest)

same_value : (v w : WireValue) (rest other : List ℕ) → value_read v rest ≡ value_read w other → pair_of v rest ≡ pair_of w other
same_value v w rest other is = cc

number_stands : (bytes : List ℕ) (v : WireValue) (rest : List ℕ) → (varint_at bytes >>= λ x. value_read (Number x.0) x.1) ≡ value_read v rest → StandsValue 0 bytes v rest
number_stands bytes v rest is =
    let x = bound (varint_at bytes) (λ x. value_read (Number x.0) x.1) (v, rest) is in
    let st = varint_stands bytes x.0.0 x.0.1 x.1 in
    subst (λ (p : WireValue × List ℕ). StandsValue 0 bytes p.0 p.1) (same_value (Number x.0.0) v x.0.1 rest x.2) (record { wire_is = refl; s = st.0; parts = st.1; valued = st.2 })

eight_stands : (bytes : List ℕ) (v : WireValue) (rest : List ℕ) → (some_at 8 bytes >>= λ x. value_read (Eight x.0) x.1) ≡ value_read v rest → StandsValue 1 bytes v rest
eight_stands bytes v rest is =
    let x = bound (some_at 8 bytes) (λ x. value_read (Eight x.0) x.1) (v, rest) is in
    let st = some_stand 8 bytes x.0.0 x.0.1 x.1 in
    subst (λ (p : WireValue × List ℕ). StandsValue 1 bytes p.0 p.1) (same_value (Eight x.0.0) v x.0.1 rest x.2) (record { wire_is = refl; s = x.0.0; parts = st.0; valued = (refl, st.1) })

four_stands : (bytes : List ℕ) (v : WireValue) (rest : List ℕ) → (some_at 4 bytes >>= λ x. value_read (Four x.0) x.1) ≡ value_read v rest → StandsValue 5 bytes v rest
four_stands bytes v rest is =
    let x = bound (some_at 4 bytes) (λ x. value_read (Four x.0) x.1) (v, rest) is in
    let st = some_stand 4 bytes x.0.0 x.0.1 x.1 in
    subst (λ (p : WireValue × List ℕ). StandsValue 5 bytes p.0 p.1) (same_value (Four x.0.0) v x.0.1 rest x.2) (record { wire_is = refl; s = x.0.0; parts = st.0; valued = (refl, st.1) })

text_stands : (bytes : List ℕ) (v : WireValue) (rest : List ℕ) → (varint_at bytes >>= λ size. some_at size.0 size.1 >>= λ x. value_read (Text x.0) x.1) ≡ value_read v rest → StandsValue 2 bytes v rest
text_stands bytes v rest is =
    let y = bound (varint_at bytes) (λ size. some_at size.0 size.1 >>= λ x. value_read (Text x.0) x.1) (v, rest) is in
    let x = bound (some_at y.0.0 y.0.1) (λ x. value_read (Text x.0) x.1) (v, rest) y.2 in
    let size = varint_stands bytes y.0.0 y.0.1 y.1 in
    let st = some_stand y.0.0 y.0.1 x.0.0 x.0.1 x.1 in
    let parts : bytes ≡ (size.0 ++ x.0.0) ++ x.0.1 = size.1 ∙ ap (λ (r : List ℕ). size.0 ++ r) st.0 ∙ sym (append_assoc size.0 x.0.0 x.0.1) in
    let sized : IsVarint size.0 (length x.0.0) = subst (λ n. IsVarint size.0 n) (sym st.1) size.2 in
    subst (λ (p : WireValue × List ℕ). StandsValue 2 bytes p.0 p.1) (same_value (Text x.0.0) v x.0.1 rest x.2) (record { wire_is = refl; s = size.0 ++ x.0.0; parts = parts; valued = record { size = size.0; parts = refl; sized = sized } })

by_test : {A : Type 0} (b : Bool) (x y r : A) → cond b x y ≡ r → ((b ≡ true) × (x ≡ r)) ⊎ ((b ≡ false) × (y ≡ r))
by_test true x y r is = inl (refl, is)
by_test false x y r is = inr (refl, is)

value_stands : (wire : ℕ) (bytes : List ℕ) (v : WireValue) (rest : List ℕ) → value_at wire bytes ≡ Ok (v, rest) → StandsValue wire bytes v rest
value_stands wire bytes v rest is =
    let wanted = value_read v rest in
    elim (by_test (wire == 0) _ _ wanted is) [
      | inl a ↦ subst (λ w. StandsValue w bytes v rest) (sym (eqb-true wire 0 a.0)) (number_stands bytes v rest a.1)
      | inr a ↦ elim (by_test (wire == 1) _ _ wanted a.1) [
        | inl b ↦ subst (λ w. StandsValue w bytes v rest) (sym (eqb-true wire 1 b.0)) (eight_stands bytes v rest b.1)
        | inr b ↦ elim (by_test (wire == 2) _ _ wanted b.1) [
          | inl d ↦ subst (λ w. StandsValue w bytes v rest) (sym (eqb-true wire 2 d.0)) (text_stands bytes v rest d.1)
          | inr d ↦ elim (by_test (wire == 5) _ _ wanted d.1) [
            | inl e ↦ subst (λ w. StandsValue w bytes v rest) (sym (eqb-true wire 5 e.0)) (four_stands bytes v rest e.1)
            | inr e ↦ absurd (let f = e.1 in cc)
          ]
        ]
      ]
    ]

value_again : (v : WireValue) (s rest : List ℕ) → IsValue s v → value_at (wire_of v) (s ++ rest) ≡ Ok (v, rest)
value_again (Number n) s rest is = rw (varint_again s rest n is) refl
value_again (Eight bytes) s rest is = rw (is.0, ← is.1) (ap (λ read. read >>= λ x. Ok (Eight x.0, x.1)) (some_again bytes rest))
value_again (Text bytes) s rest is =
    let parts : s ++ rest ≡ is.size ++ (bytes ++ rest) = ap (λ (t : List ℕ). t ++ rest) is.parts ∙ append_assoc is.size bytes rest in
    ap (value_at 2) parts ∙ rw (varint_again is.size (bytes ++ rest) (length bytes) is.sized) (ap (λ read. read >>= λ x. Ok (Text x.0, x.1)) (some_again bytes rest))
value_again (Four bytes) s rest is = rw (is.0, ← is.1) (ap (λ read. read >>= λ x. Ok (Four x.0, x.1)) (some_again bytes rest))

abbrev field_read : WireField → List ℕ → Result (WireField × List ℕ) WireWhy
field_read f rest = Ok (f, rest)

abbrev with_rest : WireField → List ℕ → WireField × List ℕ
with_rest f rest = (f, rest)

same_field : (f g : WireField) (rest other : List ℕ) → field_read f rest ≡ field_read g other → with_rest f rest ≡ with_rest g other
same_field f g rest other is = cc

pub field_stands : (bytes : List ℕ) (f : WireField) (rest : List ℕ) → field_at bytes ≡ Ok (f, rest) → (s : List ℕ) × (bytes ≡ s ++ rest) × IsField s f
unfolding field_at
field_stands bytes f rest is =
    let tag = bound (varint_at bytes) (λ tag. cond (tag.0 / 8 == 0 || nat_lt 536870911 (tag.0 / 8)) (Err FieldNumber) (value_at (tag.0 % 8) tag.1 >>= λ x. Ok (record { number = tag.0 / 8; value = x.0 }, x.1))) (f, rest) is in
    let n = tag.0.0 in
    let good = unless_ok (n / 8 == 0 || nat_lt 536870911 (n / 8)) FieldNumber (value_at (n % 8) tag.0.1 >>= λ x. Ok (record { number = n / 8; value = x.0 }, x.1)) (f, rest) tag.2 in
    let v = bound (value_at (n % 8) tag.0.1) (λ x. Ok (record { number = n / 8; value = x.0 }, x.1)) (f, rest) good.1 in
    let front = varint_stands bytes n tag.0.1 tag.1 in
    let st = value_stands (n % 8) tag.0.1 v.0.0 v.0.1 v.1 in
    let made : WireField = record { number = n / 8; value = v.0.0 } in
    let parts : bytes ≡ (front.0 ++ st.s) ++ v.0.1 = front.1 ∙ ap (λ (r : List ℕ). front.0 ++ r) st.parts ∙ sym (append_assoc front.0 st.s v.0.1) in
    let whole : n ≡ n / 8 * 8 + wire_of v.0.0 = omega (arith, st.wire_is) in
    let test = good.0 in
    subst (λ (p : WireField × List ℕ). (s : List ℕ) × (bytes ≡ s ++ p.1) × IsField s p.0) (same_field made f v.0.1 rest v.2) (
      front.0 ++ st.s,
      parts,
      record {
        tag = front.0;
        value = st.s;
        parts = refl;
        tagged = subst (λ m. IsVarint front.0 m) whole front.2;
        numbered = (grind (arith, nat_tests), grind (arith, nat_tests));
        valued = st.valued;
      },
    )

wire_small : (v : WireValue) → wire_of v < 8
wire_small (Number n) = omega arith
wire_small (Eight bytes) = omega arith
wire_small (Text bytes) = omega arith
wire_small (Four bytes) = omega arith

pub field_again : (s rest : List ℕ) (f : WireField) → IsField s f → field_at (s ++ rest) ≡ Ok (f, rest)
unfolding field_at
field_again s rest f is =
    let parts : s ++ rest ≡ is.tag ++ (is.value ++ rest) = ap (λ (t : List ℕ). t ++ rest) is.parts ∙ append_assoc is.tag is.value rest in
    let small = wire_small f.value in
    let number : (f.number * 8 + wire_of f.value) / 8 ≡ f.number = omega arith in
    let wire : (f.number * 8 + wire_of f.value) % 8 ≡ wire_of f.value = omega arith in
    let good : (f.number == 0 || nat_lt 536870911 f.number) ≡ false = let a = is.numbered.0 in let b = is.numbered.1 in grind (arith, nat_tests) in
    ap field_at parts ∙ rw (varint_again is.tag (is.value ++ rest) (f.number * 8 + wire_of f.value) is.tagged, number, wire, good) (ap (λ read. read >>= λ x. Ok (record { number = f.number; value = x.0 }, x.1)) (value_again f.value is.value rest is.valued))
