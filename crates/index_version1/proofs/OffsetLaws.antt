-- Offsets and names are read as they are written.
use Rattle.shared_lemmas.proofs.Common.{◌≡◌, ℕ, suc, zero, ◌+◌, ◌*◌, ◌-◌, ◌<◌, ◌≤◌, ◌^◌, ◌==◌, ◌&&◌, not, true, false, nat_lt, nat_le, List, [], ◌∷◌, ◌++◌, length, take, drop, All, Result, Ok, ap, sym, subst, ◌∙◌, refl, arith, slice_range, list_all, is_utf8, take-append_seam, length-append}
use Rattle.shared_lemmas.proofs.Common.{length-drop, take-append-drop, drop-drop, length-take-le, nat_tests, All-head, All-tail, All-cons, All-nil, and_parts, or_parts, not-false}
use Rattle.std.specs.Prelude.{flat_map}
use borrow.Author.Tests.{ltb-false}
use Rattle.std.proofs.lemmas.List.{append_assoc}
use Rattle.index_version1.proofs.Below.{IsName, IsText, u32_in, u32_bytes, OpenRefusal, Length, Names, ◌>>=◌, check, NamesRead, is_name_text, NoneWrong, bind_ok, judged_ok, judged_all, behind, reaches, visible, shown, Fit, u32_found, u32_only}
use Rattle.index_version1.specs.Files.{IsShort}
use Rattle.index_version1.specs.Layout.{offsets_from, offsets_bytes, joined}
use Rattle.index_version1.specs.Reading.{offset_place, offset_in, bounds_no_name, offset_checks, names_place, name1_in, text_checks, names_from, read_offsets, read_texts, read_names1}

-- the offsets of names from a number on
abbrev OffsetsAre : List ℕ → List (List ℕ) → ℕ → ℕ → Type 0
OffsetsAre bytes [] i at = offset_in bytes i ≡ at
OffsetsAre bytes (name ∷ names) i at = (offset_in bytes i ≡ at) × OffsetsAre bytes names (i + 1) (at + length name)

first_is : (bytes : List ℕ) (names : List (List ℕ)) (i at : ℕ) → OffsetsAre bytes names i at → offset_in bytes i ≡ at
first_is bytes [] i at are = are
first_is bytes (name ∷ names) i at are = are.0

offset_found : (bytes : List ℕ) (i n : ℕ) (rest : List ℕ) → n < 2 ^ 32 → drop (offset_place i) bytes ≡ u32_bytes n ++ rest → offset_in bytes i ≡ n
unfolding offset_in
offset_found bytes i n rest small is = u32_found bytes (offset_place i) n rest small is

next_place : (bytes : List ℕ) (i n : ℕ) (rest : List ℕ) → drop (offset_place i) bytes ≡ u32_bytes n ++ rest → drop (offset_place (i + 1)) bytes ≡ rest
next_place bytes i n rest is = (let e : offset_place (i + 1) ≡ offset_place i + 4 = omega arith in ap (λ k. drop k bytes) e) ∙ behind bytes (offset_place i) (u32_bytes n) rest is

offsets_there : (bytes : List ℕ) (names : List (List ℕ)) (i at : ℕ) (rest : List ℕ) → at + length (joined names) < 2 ^ 32 → drop (offset_place i) bytes ≡ flat_map u32_bytes (offsets_from at names) ++ rest → OffsetsAre bytes names i at
offsets_there bytes [] i at rest small stands = offset_found bytes i at rest (omega (arith, small)) stands
offsets_there bytes (name ∷ names) i at rest small stands =
    let sizes = length-append name (joined names) in
    let more = flat_map u32_bytes (offsets_from (at + length name) names) ++ rest in (
      offset_found bytes i at more (omega (arith, small)) stands,
      offsets_there bytes names (i + 1) (at + length name) rest (omega (arith, small, sizes)) (next_place bytes i at more stands),
    )

checks_pass : (bytes : List ℕ) (names : List (List ℕ)) (i at : ℕ) → OffsetsAre bytes names i at → All IsName names → All IsShort names → NoneWrong (offset_checks bytes (length names) i)
checks_pass bytes [] i at are named short = tt
checks_pass bytes (name ∷ names) i at are named short =
    let next = first_is bytes names (i + 1) (at + length name) are.1 in
    let some = (All-head IsName name names named).some in
    let few = All-head IsShort name names short in
    let a : bounds_no_name (offset_in bytes i) (offset_in bytes (i + 1)) ≡ false = rw (are.0, next) (grind (arith, nat_tests, some, few)) in
    (a, checks_pass bytes names (i + 1) (at + length name) are.1 (All-tail IsName name names named) (All-tail IsShort name names short))

last_is : (bytes : List ℕ) (names : List (List ℕ)) (i at : ℕ) → OffsetsAre bytes names i at → offset_in bytes (i + length names) ≡ at + length (joined names)
last_is bytes [] i at are = (let e : i + 0 ≡ i = omega arith in ap (offset_in bytes) e) ∙ are ∙ omega arith
last_is bytes (name ∷ names) i at are =
    let sizes = length-append name (joined names) in
    (let e : i + suc (length names) ≡ i + 1 + length names = omega arith in ap (offset_in bytes) e) ∙ last_is bytes names (i + 1) (at + length name) are.1 ∙ omega (arith, sizes)

part_is : (bytes : List ℕ) (from to : ℕ) (name more : List ℕ) → to ≡ from + length name → drop from bytes ≡ name ++ more → slice_range bytes from to ≡ name
part_is bytes from to name more same stands =
    ap (slice_range bytes from) same ∙ (let e : from + length name - from ≡ length name = omega arith in ap (λ k. take k (drop from bytes)) e)
    ∙ ap (take (length name)) stands ∙ take-append_seam name more

name1_found : (bytes : List ℕ) (place i at : ℕ) (name more : List ℕ) → offset_in bytes i ≡ at → offset_in bytes (i + 1) ≡ at + length name → drop (place + at) bytes ≡ name ++ more → name1_in bytes place i ≡ name
unfolding name1_in
name1_found bytes place i at name more here next stands =
    ap (λ n. slice_range bytes (place + n) (place + offset_in bytes (i + 1))) here
    ∙ part_is bytes (place + at) (place + offset_in bytes (i + 1)) name more (omega (arith, next)) stands

texts_found : (bytes : List ℕ) (place : ℕ) (names : List (List ℕ)) (i at : ℕ) (rest : List ℕ) → OffsetsAre bytes names i at → All IsName names → All IsText names → drop (place + at) bytes ≡ joined names ++ rest
    → NoneWrong (text_checks bytes place (length names) i) × (names_from bytes place (length names) i ≡ names)
texts_found bytes place [] i at rest are named texts stands = (tt, refl)
texts_found bytes place (name ∷ names) i at rest are named texts stands =
    let more = joined names ++ rest in
    let here : drop (place + at) bytes ≡ name ++ more = stands ∙ append_assoc name (joined names) rest in
    let is = name1_found bytes place i at name more are.0 (first_is bytes names (i + 1) (at + length name) are.1) here in
    let text = All-head IsText name names texts in
    let good : is_name_text name ≡ true = rw text (shown name (All-head IsName name names named).visible) in
    let bad : not (is_name_text (name1_in bytes place i)) ≡ false = ap (λ (b : List ℕ). not (is_name_text b)) is ∙ ap not good in
    let behind_it : drop (place + (at + length name)) bytes ≡ more = (let e : place + (at + length name) ≡ place + at + length name = omega arith in ap (λ k. drop k bytes) e) ∙ behind bytes (place + at) name more here in
    let later = texts_found bytes place names (i + 1) (at + length name) rest are.1 (All-tail IsName name names named) (All-tail IsText name names texts) behind_it in
    ((bad, later.0), ap (λ n. n ∷ names_from bytes place (length names) (i + 1)) is ∙ ap (λ ns. name ∷ ns) later.1)

offsets_size : (at : ℕ) (names : List (List ℕ)) → length (flat_map u32_bytes (offsets_from at names)) ≡ 4 + 4 * length names
offsets_size at [] = refl
offsets_size at (name ∷ names) = omega (arith, length-append (u32_bytes at) (flat_map u32_bytes (offsets_from (at + length name) names)), offsets_size (at + length name) names)

ok_names : (names other : List (List ℕ)) (m n : ℕ) → names ≡ other → m ≡ n → (let r : Result NamesRead OpenRefusal = Ok (record { names = names; end = m }) in r) ≡ Ok (record { names = other; end = n })
ok_names names other m n a b = cc

pub names1_found : (bytes : List ℕ) (names : List (List ℕ)) (rest : List ℕ) → All IsName names → All IsText names → All IsShort names → 40 ≤ length bytes → length bytes ≤ 2 ^ 32 → drop 40 bytes ≡ offsets_bytes names ++ (joined names ++ rest)
    → read_names1 bytes (length names) ≡ Ok (record { names = names; end = 40 + length (offsets_bytes names) + length (joined names) })
unfolding read_offsets read_texts
names1_found bytes names rest named texts short long few stands =
    let d = length names in
    let place = names_place d in
    let size : length (offsets_bytes names) ≡ 4 + 4 * d = offsets_size 0 names in
    let more = joined names ++ rest in
    let at_names : drop (40 + length (offsets_bytes names)) bytes ≡ more = behind bytes 40 (offsets_bytes names) more stands in
    let in_names = reaches bytes 40 (offsets_bytes names) more stands long in
    let in_rest = reaches bytes (40 + length (offsets_bytes names)) (joined names) rest at_names in_names in
    let are = offsets_there bytes names 0 0 more (omega (arith, size, in_rest, few)) stands in
    let last : offset_in bytes d ≡ length (joined names) = (let e : d ≡ 0 + d = omega arith in ap (offset_in bytes) e) ∙ last_is bytes names 0 0 are ∙ omega arith in
    let start = first_is bytes names 0 0 are in
    let there : drop (place + 0) bytes ≡ more = (let e : place + 0 ≡ 40 + length (offsets_bytes names) = omega (arith, size) in ap (λ k. drop k bytes) e) ∙ at_names in
    let both = texts_found bytes place names 0 0 rest are named texts there in
    let a : nat_lt (length bytes) place ≡ false = grind (arith, size, in_names) in
    let b : not (offset_in bytes 0 == 0) ≡ false = rw start refl in
    let e : nat_lt (length bytes) (place + offset_in bytes d) ≡ false = rw last (grind (arith, size, in_rest)) in
    let one : read_offsets bytes d ≡ Ok place = judged_all (check (nat_lt (length bytes) place) 40 Length ∷ check (not (offset_in bytes 0 == 0)) 40 Names ∷ offset_checks bytes d 0) place (a, (b, checks_pass bytes names 0 0 are named short)) in
    let x : NamesRead = record { names = names_from bytes place d 0; end = place + offset_in bytes d } in
    let two : read_texts bytes d place ≡ Ok x = judged_all (check (nat_lt (length bytes) (place + offset_in bytes d)) place Length ∷ text_checks bytes place d 0) x (e, both.0) in
    ap (λ r. r >>= read_texts bytes d) one ∙ two ∙ ok_names (names_from bytes place d 0) names (place + offset_in bytes d) (40 + length (offsets_bytes names) + length (joined names)) both.1 (omega (arith, last, size))

offset_only : (bytes : List ℕ) (i : ℕ) → Fit bytes → offset_place (i + 1) ≤ length bytes → drop (offset_place i) bytes ≡ u32_bytes (offset_in bytes i) ++ drop (offset_place (i + 1)) bytes
unfolding offset_in
offset_only bytes i fits inside =
    u32_only bytes (offset_place i) fits (omega (arith, inside)) ∙ (let e : offset_place i + 4 ≡ offset_place (i + 1) = omega arith in ap (λ n. u32_bytes (u32_in bytes (offset_place i)) ++ drop n bytes) e)

climbs : (bytes : List ℕ) (k i j : ℕ) → i + k ≡ j → NoneWrong (offset_checks bytes k i) → offset_in bytes i ≤ offset_in bytes j
climbs bytes zero i j same none = (let e : i ≡ j = omega (arith, same) in subst (λ n. offset_in bytes i ≤ offset_in bytes n) e (omega arith))
climbs bytes (suc k) i j same none =
    let t = or_parts (nat_le (offset_in bytes (i + 1)) (offset_in bytes i)) (nat_lt (offset_in bytes i + 65535) (offset_in bytes (i + 1))) none.0 in
    let less : offset_in bytes i < offset_in bytes (i + 1) = grind (arith, nat_tests, t.0) in
    let later = climbs bytes k (i + 1) j (omega (arith, same)) none.1 in
    omega (arith, less, later)

-- names from a number on, to the last
record NamesStand (bytes : List ℕ) (place k i j : ℕ) (names : List (List ℕ)) : Type 0 where
  pub are : All IsName names
  pub texts : All IsText names
  pub short : All IsShort names
  pub count : length names ≡ k
  pub offsets : drop (offset_place i) bytes ≡ flat_map u32_bytes (offsets_from (offset_in bytes i) names) ++ drop (offset_place (j + 1)) bytes
  pub text : drop (place + offset_in bytes i) bytes ≡ joined names ++ drop (place + offset_in bytes j) bytes

record Name1Read (bytes : List ℕ) (place i : ℕ) : Type 0 where
  pub is : IsName (name1_in bytes place i)
  pub utf8 : IsText (name1_in bytes place i)
  pub short : IsShort (name1_in bytes place i)
  pub size : offset_in bytes (i + 1) ≡ offset_in bytes i + length (name1_in bytes place i)
  pub stands : drop (place + offset_in bytes i) bytes ≡ name1_in bytes place i ++ drop (place + offset_in bytes (i + 1)) bytes

name1_only : (bytes : List ℕ) (place i : ℕ) → bounds_no_name (offset_in bytes i) (offset_in bytes (i + 1)) ≡ false → not (is_name_text (name1_in bytes place i)) ≡ false → place + offset_in bytes (i + 1) ≤ length bytes → Name1Read bytes place i
unfolding name1_in
name1_only bytes place i bounds good inside =
    let a = offset_in bytes i in
    let b = offset_in bytes (i + 1) in
    let from = place + a in
    let to = place + b in
    let name = slice_range bytes from to in
    let t = or_parts (nat_le b a) (nat_lt (a + 65535) b) bounds in
    let less : a < b = grind (arith, nat_tests, t.0) in
    let few : b ≤ a + 65535 = grind (arith, nat_tests, t.1) in
    let u = and_parts (is_utf8 name) (list_all (λ b. nat_lt 32 b && not (b == 127)) name) (not-false (is_name_text name) good) in
    let long : length name ≡ to - from = length-take-le (to - from) (drop from bytes) (let l = length-drop from bytes in omega (arith, l, inside)) in
    let text : drop from bytes ≡ name ++ drop to bytes = sym (take-append-drop (to - from) (drop from bytes)) ∙ ap (λ xs. name ++ xs) (drop-drop (to - from) from bytes ∙ (let e : from + (to - from) ≡ to = omega (arith, less) in ap (λ k. drop k bytes) e)) in
    record {
      is = record { some = omega (arith, long, less); fits = omega (arith, long, few); visible = visible name u.1 };
      utf8 = u.0;
      short = omega (arith, long, few);
      size = omega (arith, long, less);
      stands = text;
    }

names_stand : (bytes : List ℕ) (place k i j : ℕ) → i + k ≡ j → Fit bytes → offset_place (j + 1) ≤ length bytes → place + offset_in bytes j ≤ length bytes → NoneWrong (offset_checks bytes k i) → NoneWrong (text_checks bytes place k i)
    → NamesStand bytes place k i j (names_from bytes place k i)
names_stand bytes place zero i j same fits inside within climb good =
    let e : i ≡ j = omega (arith, same) in
    record {
      are = All-nil IsName;
      texts = All-nil IsText;
      short = All-nil IsShort;
      count = refl;
      offsets = offset_only bytes i fits (omega (arith, inside, e)) ∙ ap (λ n. u32_bytes (offset_in bytes i) ++ drop (offset_place (n + 1)) bytes) e;
      text = ap (λ n. drop (place + offset_in bytes n) bytes) e;
    }
names_stand bytes place (suc k) i j same fits inside within climb good =
    let name = name1_in bytes place i in
    let names = names_from bytes place k (i + 1) in
    let up = climbs bytes k (i + 1) j (omega (arith, same)) climb.1 in
    let one = name1_only bytes place i climb.0 good.0 (omega (arith, up, within)) in
    let later = names_stand bytes place k (i + 1) j (omega (arith, same)) fits inside within climb.1 good.1 in
    record {
      are = All-cons IsName name names one.is later.are;
      texts = All-cons IsText name names one.utf8 later.texts;
      short = All-cons IsShort name names one.short later.short;
      count = ap suc later.count;
      offsets = offset_only bytes i fits (omega (arith, inside, same)) ∙ ap (λ xs. u32_bytes (offset_in bytes i) ++ xs) (later.offsets ∙ ap (λ n. flat_map u32_bytes (offsets_from n names) ++ drop (offset_place (j + 1)) bytes) one.size);
      text = one.stands ∙ ap (λ xs. name ++ xs) later.text ∙ sym (append_assoc name (joined names) (drop (place + offset_in bytes j) bytes));
    }

pub record Names1Are (bytes : List ℕ) (d : ℕ) (x : NamesRead) : Type 0 where
  pub are : All IsName x.names
  pub texts : All IsText x.names
  pub short : All IsShort x.names
  pub count : length x.names ≡ d
  pub stand : drop 40 bytes ≡ offsets_bytes x.names ++ (joined x.names ++ drop x.end bytes)
  pub within : x.end ≤ length bytes

pub names1_only : (bytes : List ℕ) (d : ℕ) (x : NamesRead) → Fit bytes → read_names1 bytes d ≡ Ok x → Names1Are bytes d x
unfolding read_offsets read_texts
names1_only bytes d x fits read =
    let place = names_place d in
    let a = bind_ok (read_offsets bytes d) (read_texts bytes d) x read in
    let b = judged_ok (check (nat_lt (length bytes) place) 40 Length ∷ check (not (offset_in bytes 0 == 0)) 40 Names ∷ offset_checks bytes d 0) place a.0 a.1 in
    let second : read_texts bytes d place ≡ Ok x = ap (read_texts bytes d) b.1 ∙ a.2 in
    let y : NamesRead = record { names = names_from bytes place d 0; end = place + offset_in bytes d } in
    let e = judged_ok (check (nat_lt (length bytes) (place + offset_in bytes d)) place Length ∷ text_checks bytes place d 0) y x second in
    let inside : place ≤ length bytes = ltb-false (length bytes) place b.0.0 in
    let within : place + offset_in bytes d ≤ length bytes = ltb-false (length bytes) (place + offset_in bytes d) e.0.0 in
    let first : offset_in bytes 0 ≡ 0 = (let t = not-false (offset_in bytes 0 == 0) b.0.1.0 in grind (arith, nat_tests, t)) in
    let stand = names_stand bytes place d 0 d (omega arith) fits inside within b.0.1.1 e.0.1 in
    let names = names_from bytes place d 0 in
    let text : drop place bytes ≡ joined names ++ drop (place + offset_in bytes d) bytes = (let e : place ≡ place + offset_in bytes 0 = omega (arith, first) in ap (λ k. drop k bytes) e) ∙ stand.text in
    subst (Names1Are bytes d) e.1 (record {
      are = stand.are;
      texts = stand.texts;
      short = stand.short;
      count = stand.count;
      stand = stand.offsets ∙ ap (λ n. flat_map u32_bytes (offsets_from n names) ++ drop place bytes) first ∙ ap (λ xs. offsets_bytes names ++ xs) text;
      within = within;
    })
