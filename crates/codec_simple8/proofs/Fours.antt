-- Writing the documents of a word's gaps four at a time.
use Rattle.shared_lemmas.proofs.Common.{◌≡◌, ℕ, zero, suc, ◌+◌, ◌*◌, ◌-◌, ◌/◌, ◌%◌, ◌^◌, ◌<◌, ◌≤◌, All, List, [], ◌∷◌, ◌++◌, length, take, get_or, bit_and, refl, sym, ap, subst, ◌∙◌, append_assoc, append-nil, arith, sum, slice_index, take_at, take-take, length-take-le, get_or-take, get_or-append_right}
use Rattle.shared_lemmas.proofs.Common.{div-one, suc-mul, sum_by-cons, sum_by-append, pow_pos, shr-shr, mul-le, take_more_put_chunk, mod-lt, pow-le-pow_right}
use Rattle.std.proofs.Common.{length-append}
use Rattle.shared_lemmas.proofs.Places.{same_four}
use Rattle.jass_base.proofs.Gaps.{length-docs_from}
use Rattle.jass_base.specs.Gaps.{docs_from}
use Rattle.codec_simple8.specs.Simple8.{count_of, width_of, fields, least_behind}
use Rattle.codec_simple8.proofs.Digits.{Below}
use Rattle.codec_simple8.proofs.Docs.{behind_one, behind_below, below_behind, docs_parts}
use Rattle.codec_simple8.proofs.Fields.{fields_one, length-fields, masked}
use Rattle.codec_simple8.proofs.GapLists.{All-from_below}
use Rattle.codec_simple8.proofs.Tables.{narrow_sums}
use lib.Lanes.{zip2, put_chunk}

pub same_two : {a b a' b' : ℕ} → a ≡ a' → b ≡ b' → (let x : List ℕ = a ∷ b ∷ [] in x) ≡ a' ∷ b' ∷ []
same_two e f = cc

-- ---- the lanes

narrow : (w : ℕ) → w ≤ 30 → 2 ^ w ≤ 1073741824
narrow w small = let two : 0 < 2 = omega arith in let most : 2 ^ w ≤ 2 ^ 30 = pow-le-pow_right two small in omega (arith, most)

pub masked_fits : (x w : ℕ) → w ≤ 30 → bit_and x (1 * 2 ^ w % 18446744073709551616 - 1) < 4294967296
masked_fits x w small = omega (arith, masked x w (omega (arith, small)), mod-lt x (pow_pos w), narrow w small)

twice : (x w r : ℕ) → r ≡ 2 * w → x / 2 ^ r ≡ x / 2 ^ w / 2 ^ w
twice x w r is = ap (λ k. x / 2 ^ k) (let e : r ≡ w + w = omega (arith, is) in e) ∙ sym (shr-shr x w w)

pub four_fields : (x w r : ℕ) → w ≤ 30 → r ≡ 2 * w
    → (let xs : List ℕ = bit_and x (1 * 2 ^ w % 18446744073709551616 - 1) ∷ bit_and (x / 2 ^ w) (1 * 2 ^ w % 18446744073709551616 - 1)
    ∷ bit_and (x / 2 ^ r) (1 * 2 ^ w % 18446744073709551616 - 1) ∷ bit_and (x / 2 ^ w / 2 ^ r) (1 * 2 ^ w % 18446744073709551616 - 1) ∷ [] in xs) ≡ fields w 4 x
unfolding fields
four_fields x w r small is =
    let fits : w < 64 = omega (arith, small) in
    same_four (masked x w fits) (masked (x / 2 ^ w) w fits)
    (masked (x / 2 ^ r) w fits ∙ ap (λ y. y % 2 ^ w) (twice x w r is))
    (masked (x / 2 ^ w / 2 ^ r) w fits ∙ ap (λ y. y % 2 ^ w) (twice (x / 2 ^ w) w r is))

four_times : (x w r : ℕ) → r ≡ 2 * w → x / 2 ^ r / 2 ^ r ≡ x / 2 ^ w / 2 ^ w / 2 ^ w / 2 ^ w
four_times x w r is = ap (λ y. y / 2 ^ r) (twice x w r is) ∙ twice (x / 2 ^ w / 2 ^ w) w r is

pub pair_behind : (x w r : ℕ) → r ≡ 2 * w
    → (let xs : List ℕ = (x / 2 ^ r / 2 ^ r) ∷ (x / 2 ^ w / 2 ^ r / 2 ^ r) ∷ [] in xs)
    ≡ (x / 2 ^ w / 2 ^ w / 2 ^ w / 2 ^ w) ∷ (x / 2 ^ w / 2 ^ w / 2 ^ w / 2 ^ w / 2 ^ w) ∷ []
pair_behind x w r is = same_two (four_times x w r is) (four_times (x / 2 ^ w) w r is)

-- ---- more values than there are gaps

sum_below : (w n x : ℕ) → sum (fields w n x) ≤ n * 2 ^ w
unfolding fields
sum_below w zero x = omega arith
sum_below w (suc n) x =
    omega (arith, sum_by-cons (λ y. y) (x % 2 ^ w) (fields w n (x / 2 ^ w)), sum_below w n (x / 2 ^ w), mod-lt x (pow_pos w), times n (2 ^ w))
  where
    times : (n p : ℕ) → suc n * p ≡ n * p + p
    times n p = grind arith

record More (w n k x : ℕ) : Type 0 where
  values : List ℕ
  parts : fields w (n + k) x ≡ fields w n x ++ values
  most : sum values ≤ k * 2 ^ w
  long : length values ≡ k

more : (w n k x : ℕ) → More w n k x
unfolding fields
more w zero k x = let e : 0 + k ≡ k = omega arith in record { values = fields w k x; parts = ap (λ m. fields w m x) e; most = sum_below w k x; long = length-fields w k x }
more w (suc n) k x =
    let m = more w n k (x / 2 ^ w) in
    let e : suc n + k ≡ suc (n + k) = omega arith in
    record { values = m.values; parts = fields_one w (n + k) (suc n + k) x e ∙ ap (λ (ys : List ℕ). (x % 2 ^ w) ∷ ys) m.parts; most = m.most; long = m.long }

-- at most three more of 30 bits at the most, with one for each, add no more than 3 * 2 ^ 30 + 3
pub three_more : (w k : ℕ) → w ≤ 30 → k ≤ 3 → k * 2 ^ w + k ≤ 3221225475
three_more w k small few = omega (arith, mul-le k (2 ^ w) 3 1073741824 few (narrow w small), few)

-- the least document behind them is not much greater, where they add no more than that: 2 ^ 27 and that at the most
more_behind : (w n k x least : ℕ) → k * 2 ^ w + k ≤ 3221225475 → least_behind least (fields w n x) ≤ 134217728 → least_behind least (fields w (n + k) x) ≤ 3355443203
more_behind w n k x least little low =
    let m = more w n k x in
    rw m.parts (omega (arith, sum_by-append (λ y. y) (fields w n x) m.values, length-append (fields w n x) m.values, m.most, m.long, little, low))

-- the least document behind a word of selectors 5 to 12
pub narrow_behind : (s least values : ℕ) → 5 ≤ s → s ≤ 12 → least ≤ 67108864 → least_behind least (fields (width_of s) (count_of s) values) ≤ 134217728
narrow_behind s least values from to low =
    omega (arith, low, sum_below (width_of s) (count_of s) values, length-fields (width_of s) (count_of s) values, narrow_sums s from to)

pub narrow_docs : (s least values count width : ℕ) → 5 ≤ s → s ≤ 12 → least ≤ 67108864 → count ≡ count_of s → width ≡ width_of s → All (λ doc. doc < 134217728) (docs_from least (fields width count values))
narrow_docs s least values count width from to low count_is width_is =
    rw (count_is, width_is) (All-from_below 134217728 (docs_from least (fields (width_of s) (count_of s) values)) (below_behind 134217728 least (fields (width_of s) (count_of s) values) (narrow_behind s least values from to low)))

-- ---- four documents more

-- so many values are still to come, and with them the block will be `whole`
pub record Fours (w n : ℕ) (pair first front whole : List ℕ) : Type 0 where
  pub rest : ℕ
  pub next : ℕ
  pub pair_is : pair ≡ rest ∷ (rest / 2 ^ w) ∷ []
  pub first_is : first ≡ next ∷ (next + 1) ∷ (next + 2) ∷ (next + 3) ∷ []
  pub docs : front ++ docs_from next (fields w n rest) ≡ whole
  pub most : least_behind next (fields w n rest) ≤ 3355443203

pub fours_start : (w m n k c count filled values least : ℕ) (out : List ℕ) → m ≡ n → n ≡ count + c → c * 2 ^ w + c ≤ 3221225475 → k ≡ filled → least ≤ 134217728
    → Below (2 ^ 27) (docs_from least (fields w count values))
    → Fours w m (values ∷ (values / 2 ^ w) ∷ []) ((least + 0) % 4294967296 ∷ (least + 1) % 4294967296 ∷ (least + 2) % 4294967296 ∷ (least + 3) % 4294967296 ∷ [])
    (take k out) (take filled out ++ docs_from least (fields w n values))
fours_start w m n k c count filled values least out same are little from low below = record {
  rest = values;
  next = least;
  pair_is = refl;
  first_is = same_four (omega arith) (omega arith) (omega arith) (omega arith);
  docs = ap (λ n. take n out ++ docs_from least (fields w m values)) from ∙ ap (λ m. take filled out ++ docs_from least (fields w m values)) same;
  most = rw (same, are) (more_behind w count c values least little (omega (arith, behind_below (2 ^ 27) least (fields w count values) (omega (arith, low)) below)));
}

abbrev plus : ℕ → ℕ → ℕ
plus a b = (a + b) % 4294967296

abbrev raised : List ℕ → List ℕ → List ℕ
raised first sums = let by = (slice_index (sums ++ sums) 3 + 4) % 4294967296 in zip2 plus first (by ∷ by ∷ by ∷ by ∷ [])

pub fours_more : (w n m i j : ℕ) (pair first out whole gaps sums later : List ℕ) → m ≡ suc (suc (suc (suc n))) → j ≡ i + 4 → j ≤ length out
    → Fours w m pair first (take i out) whole
    → ((x : ℕ) → pair ≡ x ∷ (x / 2 ^ w) ∷ [] → gaps ≡ fields w 4 x)
    → ((a b c d : ℕ) → gaps ≡ a ∷ b ∷ c ∷ d ∷ [] → a + b + c + d < 4294967296 → sums ≡ a ∷ (a + b) ∷ (a + b + c) ∷ (a + b + c + d) ∷ [])
    → ((x : ℕ) → pair ≡ x ∷ (x / 2 ^ w) ∷ [] → later ≡ (x / 2 ^ w / 2 ^ w / 2 ^ w / 2 ^ w) ∷ (x / 2 ^ w / 2 ^ w / 2 ^ w / 2 ^ w / 2 ^ w) ∷ [])
    → Fours w n later (raised first sums) (take j (put_chunk i out (zip2 plus sums first))) whole
unfolding fields
fours_more w n m i j pair first out whole gaps sums later is place room fours gaps_are sums_are behind =
    go (subst (λ m. Fours w m pair first (take i out) whole) is fours)
  where
    four : (next a b c d y : ℕ)
        → first ≡ next ∷ (next + 1) ∷ (next + 2) ∷ (next + 3) ∷ []
        → take i out ++ docs_from next (a ∷ b ∷ c ∷ d ∷ fields w n y) ≡ whole
        → least_behind next (a ∷ b ∷ c ∷ d ∷ fields w n y) ≤ 3355443203
        → gaps ≡ a ∷ b ∷ c ∷ d ∷ []
        → later ≡ y ∷ (y / 2 ^ w) ∷ []
        → Fours w n later (raised first sums) (take j (put_chunk i out (zip2 plus sums first))) whole
    four next a b c d y first_is docs most gaps_is later_is =
        let chain : least_behind (next + a + 1 + b + 1 + c + 1 + d + 1) (fields w n y) ≡ least_behind next (a ∷ b ∷ c ∷ d ∷ fields w n y) =
        behind_one (next + a + 1 + b + 1 + c + 1) d (fields w n y) ∙ behind_one (next + a + 1 + b + 1) c (d ∷ fields w n y)
        ∙ behind_one (next + a + 1) b (c ∷ d ∷ fields w n y) ∙ behind_one next a (b ∷ c ∷ d ∷ fields w n y) in
        let low : next + a + 1 + b + 1 + c + 1 + d + 1 ≤ 3355443203 = omega (arith, chain, most) in
        let sums_is : sums ≡ a ∷ (a + b) ∷ (a + b + c) ∷ (a + b + c + d) ∷ [] = sums_are a b c d gaps_is (omega (arith, low)) in
        let written : zip2 plus sums first ≡ (next + a) ∷ (next + a + 1 + b) ∷ (next + a + 1 + b + 1 + c) ∷ (next + a + 1 + b + 1 + c + 1 + d) ∷ [] =
        rw (sums_is, first_is) (same_four (omega (arith, low)) (omega (arith, low)) (omega (arith, low)) (omega (arith, low))) in
        let front : take j (put_chunk i out (zip2 plus sums first)) ≡ take i out ++ zip2 plus sums first =
        take_more_put_chunk i out (zip2 plus sums first) j (omega (arith, place, ap length written)) room in
        record {
          rest = y;
          next = next + a + 1 + b + 1 + c + 1 + d + 1;
          pair_is = later_is;
          first_is = rw (sums_is, first_is) (same_four (omega (arith, low)) (omega (arith, low)) (omega (arith, low)) (omega (arith, low)));
          docs = ap (λ (xs : List ℕ). xs ++ docs_from (next + a + 1 + b + 1 + c + 1 + d + 1) (fields w n y)) (front ∙ ap (λ (ys : List ℕ). take i out ++ ys) written)
              ∙ append_assoc (take i out) ((next + a) ∷ (next + a + 1 + b) ∷ (next + a + 1 + b + 1 + c) ∷ (next + a + 1 + b + 1 + c + 1 + d) ∷ [])
              (docs_from (next + a + 1 + b + 1 + c + 1 + d + 1) (fields w n y)) ∙ docs;
          most = omega (arith, chain, most);
        }

    go : Fours w (suc (suc (suc (suc n)))) pair first (take i out) whole → Fours w n later (raised first sums) (take j (put_chunk i out (zip2 plus sums first))) whole
    go f =
        four f.next (f.rest % 2 ^ w) (f.rest / 2 ^ w % 2 ^ w) (f.rest / 2 ^ w / 2 ^ w % 2 ^ w) (f.rest / 2 ^ w / 2 ^ w / 2 ^ w % 2 ^ w) (f.rest / 2 ^ w / 2 ^ w / 2 ^ w / 2 ^ w)
        f.first_is f.docs f.most (gaps_are f.rest f.pair_is) (behind f.rest f.pair_is)

-- ---- all of them

-- the documents at the front, where more were written
pub first_docs : (w n count c filled values least : ℕ) (old out : List ℕ) → n ≡ count + c → filled ≤ length old
    → take (filled + n) out ≡ take filled old ++ docs_from least (fields w n values)
    → take (filled + count) out ≡ take filled old ++ docs_from least (fields w count values)
first_docs w n count c filled values least old out are within front =
    let x = more w count c values in
    let parts : docs_from least (fields w n values) ≡ docs_from least (fields w count values) ++ docs_from (least_behind least (fields w count values)) x.values =
    ap (λ n. docs_from least (fields w n values)) are ∙ ap (docs_from least) x.parts ∙ docs_parts least (fields w count values) x.values in
    let long : length (take filled old ++ docs_from least (fields w count values)) ≡ filled + count =
    omega (arith, length-append (take filled old) (docs_from least (fields w count values)), length-take-le filled old within, length-docs_from least (fields w count values), length-fields w count values) in
    sym (take-take (filled + count) (filled + n) out (omega (arith, are)))
    ∙ ap (take (filled + count)) (front ∙ ap (λ (docs : List ℕ). take filled old ++ docs) parts
    ∙ sym (append_assoc (take filled old) (docs_from least (fields w count values)) (docs_from (least_behind least (fields w count values)) x.values)))
    ∙ take_at (take filled old ++ docs_from least (fields w count values)) (docs_from (least_behind least (fields w count values)) x.values) (filled + count) long

pub fours_all : (w m n k c count filled values least : ℕ) (pair first old out : List ℕ) → m ≡ 0 → n ≡ count + c → k ≡ filled + n → filled ≤ length old
    → Fours w m pair first (take k out) (take filled old ++ docs_from least (fields w n values))
    → take (filled + count) out ≡ take filled old ++ docs_from least (fields w count values)
unfolding fields
fours_all w m n k c count filled values least pair first old out none are place within fours =
    let f = subst (λ m. Fours w m pair first (take k out) (take filled old ++ docs_from least (fields w n values))) none fours in
    let front : take k out ≡ take filled old ++ docs_from least (fields w n values) = sym (append-nil (take k out)) ∙ f.docs in
    first_docs w n count c filled values least old out are within (ap (λ k. take k out) (sym place) ∙ front)

-- values of two parts of a number
fields_parts : (w n m x : ℕ) → fields w (n + m) x ≡ fields w n x ++ fields w m (x / 2 ^ (n * w))
unfolding fields
fields_parts w zero m x =
    let none : 0 * w ≡ 0 = omega arith in
    let e : 0 + m ≡ m = omega arith in
    ap (λ k. fields w k x) e ∙ sym (ap (λ k. fields w m (x / 2 ^ k)) none ∙ ap (fields w m) (div-one x))
fields_parts w (suc n) m x =
    let e : suc n + m ≡ suc (n + m) = omega arith in
    let f : w + n * w ≡ suc n * w = omega (arith, suc-mul n w) in
    fields_one w (n + m) (suc n + m) x e ∙ ap (λ (ys : List ℕ). (x % 2 ^ w) ∷ ys) (fields_parts w n m (x / 2 ^ w) ∙ ap (λ y. fields w n (x / 2 ^ w) ++ fields w m y) (shr-shr x w (n * w) ∙ ap (λ k. x / 2 ^ k) f))

-- eight documents, and eight more behind them
pub sixteen : (w filled values least behind rest : ℕ) (old out newest : List ℕ) → filled ≤ length old
    → take (filled + 8) out ≡ take filled old ++ docs_from least (fields w 8 values)
    → behind ≡ least_behind least (fields w 8 values) → rest ≡ values / 2 ^ (8 * w)
    → take (filled + 8 + 8) newest ≡ take (filled + 8) out ++ docs_from behind (fields w 8 rest)
    → take (filled + 16) newest ≡ take filled old ++ docs_from least (fields w 16 values)
sixteen w filled values least behind rest old out newest within first behind_is rest_is second =
    let size : filled + 16 ≡ filled + 8 + 8 = omega arith in
    ap (λ k. take k newest) size ∙ second
    ∙ ap (λ (docs : List ℕ). docs ++ docs_from behind (fields w 8 rest)) first
    ∙ append_assoc (take filled old) (docs_from least (fields w 8 values)) (docs_from behind (fields w 8 rest))
    ∙ ap (λ n. take filled old ++ (docs_from least (fields w 8 values) ++ docs_from n (fields w 8 rest))) behind_is
    ∙ ap (λ x. take filled old ++ (docs_from least (fields w 8 values) ++ docs_from (least_behind least (fields w 8 values)) (fields w 8 x))) rest_is
    ∙ ap (λ (docs : List ℕ). take filled old ++ docs) (sym (ap (docs_from least) (fields_parts w 8 8 values) ∙ docs_parts least (fields w 8 values) (fields w 8 (values / 2 ^ (8 * w)))))

last_from : (least gap : ℕ) (gaps : List ℕ) → get_or (docs_from least (gap ∷ gaps)) (length gaps) 0 + 1 ≡ least_behind least (gap ∷ gaps)
last_from least gap [] = omega arith
last_from least gap (next ∷ gaps) = last_from (least + gap + 1) next gaps ∙ behind_one least gap (next ∷ gaps)

last_doc : (least : ℕ) (gaps : List ℕ) → 0 < length gaps → get_or (docs_from least gaps) (length gaps - 1) 0 + 1 ≡ least_behind least gaps
last_doc least [] some = absurd (omega arith)
last_doc least (gap ∷ gaps) some =
    let e : length (gap ∷ gaps) - 1 ≡ length gaps = omega arith in
    ap (λ i. get_or (docs_from least (gap ∷ gaps)) i 0 + 1) e ∙ last_from least gap gaps

-- the one behind the last of them
pub last_out : (w count filled values least : ℕ) (old out : List ℕ) → 0 < count → filled ≤ length old
    → take (filled + count) out ≡ take filled old ++ docs_from least (fields w count values)
    → get_or out (filled + count - 1) 0 + 1 ≡ least_behind least (fields w count values)
last_out w count filled values least old out some within are =
    let long = length-fields w count values in
    let back : filled + count - 1 - filled ≡ length (fields w count values) - 1 = omega (arith, long) in
    let place : get_or out (filled + count - 1) 0 ≡ get_or (docs_from least (fields w count values)) (length (fields w count values) - 1) 0 =
    sym (get_or-take (filled + count) out (filled + count - 1) 0 (omega (arith, some))) ∙ ap (λ (xs : List ℕ). get_or xs (filled + count - 1) 0) are
    ∙ get_or-append_right (take filled old) (docs_from least (fields w count values)) filled (filled + count - 1) 0 (length-take-le filled old within) (omega (arith, some))
    ∙ ap (λ i. get_or (docs_from least (fields w count values)) i 0) back in
    ap (λ doc. doc + 1) place ∙ last_doc least (fields w count values) (omega (arith, long, some))
