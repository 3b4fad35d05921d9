-- The fields that canonical spellings of values stand for: those of rising numbers, without the ones that are absent.
use Rattle.shared_lemmas.proofs.Common.{◌≡◌, ◌≢◌, ℕ, ◌+◌, ◌*◌, ◌^◌, ◌<◌, ◌≤◌, Bool, true, false, List, [], ◌∷◌, ◌++◌, length, replicate, refl, sym, ap, subst, ◌∙◌, arith, ◌==◌, ◌&&◌, nat_lt, if◌then◌else◌, fold, ⊤, AllByRecursion, list_all, flat_map, nat_tests, fold-append, and_parts}
use Rattle.ciff_write.proofs.Below.{WireField, WireValue, Number, Eight, Text, Four, IsVarint, IsField, AreFields, number_in, text_in, eight_in, texts_in, short_varint, sized, number_spelling, eight_spelling, text_spelling}
use Rattle.ciff_write.proofs.VarintLaws.{short_is_varint}

-- a value that is spelled by nothing
abbrev pub is_absent : WireValue → Bool
is_absent (Number n) = n == 0
is_absent (Eight bytes) = list_all (λ b. b == 0) bytes
is_absent (Text bytes) = length bytes == 0
is_absent (Four bytes) = true

abbrev pub spelling : ℕ → WireValue → List ℕ
spelling i (Number n) = number_spelling i n
spelling i (Eight bytes) = eight_spelling i bytes
spelling i (Text bytes) = text_spelling i bytes
spelling i (Four bytes) = []

abbrev pub field_spelling : WireField → List ℕ
field_spelling f = spelling f.number f.value

abbrev pub present : List WireField → List WireField
present [] = []
present (f ∷ fs) = if is_absent f.value then present fs else f ∷ present fs

-- a value that a field can have
abbrev pub CanStand : WireValue → Type 0
CanStand (Number n) = n < 2 ^ 64
CanStand (Eight bytes) = length bytes ≡ 8
CanStand (Text bytes) = length bytes < 2 ^ 64
CanStand (Four bytes) = ⊤

pub record IsEntry (f : WireField) : Type 0 where
  pub some : 1 ≤ f.number
  pub few : f.number ≤ 15
  pub value : CanStand f.value

-- ---- their spelling

absent_nothing : (i : ℕ) (v : WireValue) → is_absent v ≡ true → spelling i v ≡ []
absent_nothing i (Number n) is = rw is refl
absent_nothing i (Eight bytes) is = rw is refl
absent_nothing i (Text bytes) is = rw is refl
absent_nothing i (Four bytes) is = refl

tagged : (i w : ℕ) → i ≤ 15 → w ≤ 2 → IsVarint (short_varint (i * 8 + w)) (i * 8 + w)
tagged i w few small = short_is_varint (i * 8 + w) (omega arith)

present_field : (i : ℕ) (v : WireValue) → 1 ≤ i → i ≤ 15 → CanStand v → is_absent v ≡ false → IsField (spelling i v) (record { number = i; value = v })
present_field i (Number n) some few can is =
    let tag : i * 8 ≡ i * 8 + 0 = omega arith in
    record { tag = short_varint (i * 8); value = short_varint n; parts = rw is refl; tagged = subst (λ (t : ℕ). IsVarint (short_varint t) (i * 8 + 0)) (sym tag) (tagged i 0 few (omega arith)); numbered = (some, omega (arith, few)); valued = short_is_varint n can }
present_field i (Eight bytes) some few can is =
    record { tag = short_varint (i * 8 + 1); value = bytes; parts = rw is refl; tagged = tagged i 1 few (omega arith); numbered = (some, omega (arith, few)); valued = (refl, can) }
present_field i (Text bytes) some few can is =
    record {
      tag = short_varint (i * 8 + 2);
      value = sized bytes;
      parts = rw is refl;
      tagged = tagged i 2 few (omega arith);
      numbered = (some, omega (arith, few));
      valued = record { size = short_varint (length bytes); parts = refl; sized = short_is_varint (length bytes) can };
    }
present_field i (Four bytes) some few can is = absurd cc

pub table_spelled : (fs : List WireField) → AllByRecursion IsEntry fs → AreFields (flat_map field_spelling fs) (present fs)
table_spelled [] entries = refl
table_spelled (f ∷ fs) entries = go (is_absent f.value) refl (table_spelled fs entries.1)
  where
    go : (b : Bool) → is_absent f.value ≡ b → AreFields (flat_map field_spelling fs) (present fs) → AreFields (field_spelling f ++ flat_map field_spelling fs) (if b then present fs else f ∷ present fs)
    go true is later = subst (λ (s : List ℕ). AreFields (s ++ flat_map field_spelling fs) (present fs)) (sym (absent_nothing f.number f.value is)) later
    go false is later = (field_spelling f, flat_map field_spelling fs, refl, present_field f.number f.value entries.0.some entries.0.few entries.0.value is, later)

-- ---- their values

-- the numbers rise behind this one
abbrev pub rises : ℕ → List WireField → Bool
rises low [] = true
rises low (f ∷ fs) = nat_lt low f.number && rises f.number fs

others_above : (i low : ℕ) (fs : List WireField) → i ≤ low → rises low fs ≡ true → AllByRecursion (λ (f : WireField). f.number ≢ i) fs
others_above i low [] above is = tt
others_above i low (f ∷ fs) above is =
    let parts = and_parts (nat_lt low f.number) (rises f.number fs) is in
    let more : low < f.number = grind (arith, nat_tests, parts.0) in
    ((λ same. absurd (omega (arith, same, more, above))), others_above i f.number fs (omega (arith, above, more)) parts.1)

pub present_all : (P : WireField → Type 0) (fs : List WireField) → AllByRecursion P fs → AllByRecursion P (present fs)
present_all P [] all = tt
present_all P (f ∷ fs) all = go (is_absent f.value) (present_all P fs all.1)
  where
    go : (b : Bool) → AllByRecursion P (present fs) → AllByRecursion P (if b then present fs else f ∷ present fs)
    go true later = later
    go false later = (all.0, later)

-- the last value of a number that fields have, as something that is read from values
module _ {X : Type 0} (inside : WireValue → X → X) (i : ℕ) where
  abbrev pub step : X → WireField → X
  step x f = if f.number == i then inside f.value x else x

  step_other : (x : X) (f : WireField) → f.number ≢ i → step x f ≡ x
  step_other x f other = let is : (f.number == i) ≡ false = grind (arith, nat_tests) in rw is refl

  pub skipped : (x : X) (fs : List WireField) → AllByRecursion (λ (f : WireField). f.number ≢ i) fs → fold step x fs ≡ x
  skipped x [] others = refl
  skipped x (f ∷ fs) others = ap (λ (y : X). fold step y fs) (step_other x f others.0) ∙ skipped x fs others.1

  module _ (d : X) (absent : (v : WireValue) → CanStand v → is_absent v ≡ true → inside v d ≡ d) where
    step_absent : (f : WireField) → CanStand f.value → is_absent f.value ≡ true → step d f ≡ d
    step_absent f can is = go (f.number == i)
      where
        go : (b : Bool) → (if b then inside f.value d else d) ≡ d
        go true = absent f.value can is
        go false = refl

    pub kept : (low : ℕ) (fs : List WireField) → rises low fs ≡ true → AllByRecursion IsEntry fs → fold step d (present fs) ≡ fold step d fs
    kept low [] rising entries = refl
    kept low (f ∷ fs) rising entries = go (is_absent f.value) (f.number == i) refl refl (λ more. kept f.number fs more entries.1)
      where
        later : rises f.number fs ≡ true
        later = (and_parts (nat_lt low f.number) (rises f.number fs) rising).1

        go : (a b : Bool) → is_absent f.value ≡ a → (f.number == i) ≡ b → (rises f.number fs ≡ true → fold step d (present fs) ≡ fold step d fs) → fold step d (if a then present fs else f ∷ present fs) ≡ fold step (step d f) fs
        go true b is other rest = rest later ∙ ap (λ (x : X). fold step x fs) (sym (step_absent f entries.0.value is))
        go false true is same rest =
            let equal : f.number ≡ i = grind (arith, nat_tests) in
            let others : AllByRecursion (λ (g : WireField). g.number ≢ i) fs = others_above i f.number fs (omega (arith, equal)) later in
            skipped (step d f) (present fs) (present_all (λ (g : WireField). g.number ≢ i) fs others) ∙ sym (skipped (step d f) fs others)
        go false false is other rest =
            let differ : f.number ≢ i = grind (arith, nat_tests) in
            let stays : step d f ≡ d = step_other d f differ in
            ap (λ (x : X). fold step x (present fs)) stays ∙ rest later ∙ ap (λ (x : X). fold step x fs) (sym stays)

    -- and fields of other numbers behind them
    pub kept_before : (low : ℕ) (fs gs : List WireField) → rises low fs ≡ true → AllByRecursion IsEntry fs → AllByRecursion (λ (g : WireField). g.number ≢ i) gs → fold step d (present fs ++ gs) ≡ fold step d fs
    kept_before low fs gs rising entries others = fold-append step d (present fs) gs ∙ skipped (fold step d (present fs)) gs others ∙ kept low fs rising entries

zeros : (bytes : List ℕ) → list_all (λ b. b == 0) bytes ≡ true → bytes ≡ replicate (length bytes) 0
zeros [] is = refl
zeros (b ∷ bs) is =
    let parts = and_parts (b == 0) (list_all (λ b. b == 0) bs) is in
    let none : b ≡ 0 = grind (arith, nat_tests) in
    ap (λ (x : ℕ). x ∷ bs) none ∙ ap (λ (xs : List ℕ). 0 ∷ xs) (zeros bs parts.1)

pub absent_number : (v : WireValue) → CanStand v → is_absent v ≡ true → number_in v 0 ≡ 0
absent_number (Number n) can is = grind (arith, nat_tests)
absent_number (Eight bytes) can is = refl
absent_number (Text bytes) can is = refl
absent_number (Four bytes) can is = refl

no_bytes : (bytes : List ℕ) → (length bytes == 0) ≡ true → bytes ≡ []
no_bytes [] is = refl
no_bytes (b ∷ bs) is = absurd (grind (arith, nat_tests))

pub absent_text : (v : WireValue) → CanStand v → is_absent v ≡ true → text_in v [] ≡ []
absent_text (Number n) can is = refl
absent_text (Eight bytes) can is = refl
absent_text (Text bytes) can is = no_bytes bytes is
absent_text (Four bytes) can is = refl

pub absent_eight : (v : WireValue) → CanStand v → is_absent v ≡ true → eight_in v (replicate 8 0) ≡ replicate 8 0
absent_eight (Number n) can is = refl
absent_eight (Eight bytes) can is = zeros bytes is ∙ ap (λ (n : ℕ). replicate n 0) can
absent_eight (Text bytes) can is = refl
absent_eight (Four bytes) can is = refl

-- the texts of another number are none
pub texts_skipped : (i : ℕ) (fs : List WireField) → AllByRecursion (λ (f : WireField). f.number ≢ i) fs → flat_map (λ (f : WireField). if f.number == i then texts_in f.value else []) fs ≡ []
texts_skipped i [] others = refl
texts_skipped i (f ∷ fs) others = let is : (f.number == i) ≡ false = grind (arith, nat_tests, others.0) in rw is (texts_skipped i fs others.1)
