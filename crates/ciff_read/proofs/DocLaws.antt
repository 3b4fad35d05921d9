-- The documents that are read are those of the messages, and those of the messages are read.
use Rattle.shared_lemmas.proofs.Common.{◌≡◌, ◌≢◌, ℕ, zero, suc, ◌+◌, ◌-◌, ◌^◌, ◌<◌, ◌≤◌, Bool, true, false, not, cond, List, [], ◌∷◌, ◌++◌, length, get_or, map, replicate, Option, Some, None, Result, Ok, Err, refl, sym, ap, subst, ◌∙◌, append_assoc, arith, inl, inr, ◌==◌, ◌&&◌, nat_eq, nat_lt}
use Rattle.shared_lemmas.proofs.Common.{nat_le, is_some, slice_get, AllZip, AllByRecursion, list_all, is_utf8, cases_eq, and_parts, not-false, nat_tests, length-append, length-replicate, All-from_recursion, recursion_from_All, slice_get_within}
use Rattle.std.specs.List.{IsDistinct}
use Rattle.std.proofs.lemmas.List.{length-set}
use Rattle.ciff_read.proofs.Below.{DocData, IsDoc, IsDocAmong, AreRecords, IsName, Spells, IsSized}
use Rattle.ciff_read.specs.declared.refusal.CiffWhy.{CiffWhy}
use Rattle.ciff_read.specs.declared.refusal.CiffWhy.TheVariants.{Range, DocRange, DocTwice, Text, NameText}
use Rattle.ciff_read.specs.declared.refusal.CiffRefusal.{CiffRefusal}
use Rattle.ciff_read.specs.Judging.{NumberedDoc, numbered_of, over31, is_name, is_among, numbers_of, judge_doc}
use Rattle.ciff_read.specs.Private.Places.{numbered_from}
use Rattle.ciff_read.specs.Reading.{Message, DocsRead, message_end, message_at, numbered_at, doc_at, docs_at, inserted}
use Rattle.ciff_read.specs.Refusals.{◌>>=◌, placed}
use Rattle.ciff_read.specs.Private.Table.{has_value, reaching, with_value, values_of}
use Rattle.ciff_read.specs.Walking.{Walked, walk, nothing_inside}
use Rattle.ciff_read.proofs.ListLaws.{spells-front}
use Rattle.ciff_read.proofs.MessageLaws.{message_found, message_only}
use Rattle.ciff_read.proofs.PartLaws.{is_text, no_fault}
use Rattle.ciff_read.proofs.Numbered.{among_all, insert_all}
use Rattle.ciff_read.proofs.Tables.{values-with, put_there, put_other}
use Rattle.ciff_read.proofs.WalkLaws.{fields_found, fields_only}
use Rattle.ciff_read.proofs.WireLaws.{WireLaws, bound, done_is, unplaced}

-- ---- names

abbrev visible : ℕ → Bool
visible b = nat_lt 32 b && not (b == 127)

all_visible : (s : List ℕ) → list_all visible s ≡ true → AllByRecursion (λ b. (32 < b) × (b ≢ 127)) s
all_visible [] h = tt
all_visible (b ∷ s) h =
    let t = and_parts (visible b) (list_all visible s) h in
    let u = and_parts (nat_lt 32 b) (not (b == 127)) t.0 in
    let low = u.0 in
    let other = u.1 in
    ((grind (arith, nat_tests), (λ is. absurd (let e : (b == 127) ≡ true = grind (arith, nat_tests) in let f = ap not e in cc))), all_visible s t.1)

visible_all : (s : List ℕ) → AllByRecursion (λ b. (32 < b) × (b ≢ 127)) s → list_all visible s ≡ true
visible_all [] h = refl
visible_all (b ∷ s) h =
    let low = h.0.0 in
    let other = h.0.1 in
    let a : nat_lt 32 b ≡ true = grind (arith, nat_tests) in
    let e : (b == 127) ≡ false = grind (arith, nat_tests) in
    rw (a, e, visible_all s h.1) refl

name_found : (s : List ℕ) → is_name s ≡ true → IsName s
name_found s h =
    let t = and_parts (not (length s == 0) && nat_le (length s) 1048576) (list_all visible s) h in
    let u = and_parts (not (length s == 0)) (nat_le (length s) 1048576) t.0 in
    let b = u.1 in
    record { some = some (length s) u.0; fits = grind (arith, nat_tests); visible = All-from_recursion (λ b. (32 < b) × (b ≢ 127)) s (all_visible s t.1) }
  where
    some : (n : ℕ) → not (n == 0) ≡ true → 1 ≤ n
    some zero h = absurd cc
    some (suc n) h = omega arith

name_there : (s : List ℕ) → IsName s → is_name s ≡ true
name_there s is =
    let some = is.some in
    let fits = is.fits in
    let a : (length s == 0) ≡ false = grind (arith, nat_tests) in
    let b : nat_le (length s) 1048576 ≡ true = grind (arith, nat_tests) in
    rw (a, b, visible_all s (recursion_from_All (λ b. (32 < b) × (b ≢ 127)) s is.visible)) refl

-- ---- tables

module _ {R : Type 0} where
  put_within : (table : List (Option R)) (n docs : ℕ) (r : R) → length table ≤ docs → n < docs → length (with_value table n r) ≤ docs
  put_within table n docs r fits inside = omega (arith, length-set (reaching table n) n (Some r), length-append table (replicate {A = Option R} (n + 1 - length table) None), length-replicate (n + 1 - length table) (let e : Option R = None in e))

  values_few : (table : List (Option R)) → length (values_of table) ≤ length table
  values_few [] = omega arith
  values_few (None ∷ table) = omega (arith, values_few table)
  values_few (Some r ∷ table) = omega (arith, values_few table)

  full : (table : List (Option R)) → length table ≤ length (values_of table) → table ≡ map (λ r. Some r) (values_of table)
  full [] long = refl
  full (None ∷ table) long = absurd (omega (arith, values_few table))
  full (Some r ∷ table) long = ap (λ (t : List (Option R)). Some r ∷ t) (full table (omega arith))

  get_full : (rs : List R) (n : ℕ) → get_or (map (λ (r : R). Some r) rs) n None ≡ slice_get rs n
  get_full [] n = refl
  get_full (r ∷ rs) zero = refl
  get_full (r ∷ rs) (suc n) = get_full rs n

  same_lists : (vs rs : List R) → length vs ≡ length rs → ((n : ℕ) (r : R) → slice_get vs n ≡ Some r → slice_get rs n ≡ Some r) → vs ≡ rs
  same_lists [] [] same each = refl
  same_lists [] (r ∷ rs) same each = absurd (omega arith)
  same_lists (v ∷ vs) [] same each = absurd (omega arith)
  same_lists (v ∷ vs) (r ∷ rs) same each =
      let e = each 0 v refl in
      let head : v ≡ r = cc in
      ap (λ (x : R). x ∷ vs) head ∙ ap (λ (xs : List R). r ∷ xs) (same_lists vs rs (omega arith) (λ n x is. each (suc n) x is))

  has_is : (table : List (Option R)) (n : ℕ) (r : R) → get_or table n None ≡ Some r → has_value table n ≡ true
  has_is table n r is = ap is_some is

-- ---- one record

six_passed : {A : Type 0} (a b c d e f : Bool) (u v w x y z : CiffWhy) (p q : A) → (let r : Result A CiffWhy = cond a (Err u) (cond b (Err v) (cond c (Err w) (cond d (Err x) (cond e (Err y) (cond f (Err z) (Ok p)))))) in r) ≡ Ok q
    → (a ≡ false) × (b ≡ false) × (c ≡ false) × (d ≡ false) × (e ≡ false) × (f ≡ false) × (p ≡ q)
six_passed true b c d e f u v w x y z p q is = absurd cc
six_passed false true c d e f u v w x y z p q is = absurd cc
six_passed false false true d e f u v w x y z p q is = absurd cc
six_passed false false false true e f u v w x y z p q is = absurd cc
six_passed false false false false true f u v w x y z p q is = absurd cc
six_passed false false false false false true u v w x y z p q is = absurd cc
six_passed false false false false false false u v w x y z p q is = (refl, refl, refl, refl, refl, refl, cc)

pub record DocFound (docs : ℕ) (table : List (Option DocData)) (body : List ℕ) (x : NumberedDoc) : Type 0 where
  pub is : IsDoc body x.number x.doc
  pub below : x.number < docs
  pub missing : has_value table x.number ≡ false

-- records that are put into a table one after the other
abbrev pub Puts : ℕ → List (Option DocData) → List (List ℕ) → List NumberedDoc → List (Option DocData) → Type 0
Puts docs table [] [] final = table ≡ final
Puts docs table [] (x ∷ xs) final = ⊥
Puts docs table (body ∷ bodies) [] final = ⊥
Puts docs table (body ∷ bodies) (x ∷ xs) final = DocFound docs table body x × Puts docs (with_value table x.number x.doc) bodies xs final

puts_keep : (docs : ℕ) (table : List (Option DocData)) (bodies : List (List ℕ)) (xs : List NumberedDoc) (final : List (Option DocData)) (n : ℕ) (d : DocData) → Puts docs table bodies xs final → get_or table n None ≡ Some d → get_or final n None ≡ Some d
puts_keep docs table [] [] final n d puts is = ap (λ (t : List (Option DocData)). get_or t n None) (sym puts) ∙ is
puts_keep docs table [] (x ∷ xs) final n d puts is = absurd puts
puts_keep docs table (body ∷ bodies) [] final n d puts is = absurd puts
puts_keep docs table (body ∷ bodies) (x ∷ xs) final n d puts is =
    let other : n ≢ x.number = λ same. absurd (let a = has_is table n d is in let b = ap (λ m. has_value table m) same in let c = puts.0.missing in cc) in
    puts_keep docs (with_value table x.number x.doc) bodies xs final n d puts.1 (put_other table x.number n x.doc other ∙ is)

puts_differ : (docs : ℕ) (table : List (Option DocData)) (bodies : List (List ℕ)) (xs : List NumberedDoc) (final : List (Option DocData)) (n : ℕ) (d : DocData)
    → Puts docs table bodies xs final → get_or table n None ≡ Some d → AllByRecursion (λ m. nat_eq n m ≡ false)
    (map (λ (x : NumberedDoc). x.number) xs)
puts_differ docs table [] [] final n d puts is = tt
puts_differ docs table [] (x ∷ xs) final n d puts is = absurd puts
puts_differ docs table (body ∷ bodies) [] final n d puts is = absurd puts
puts_differ docs table (body ∷ bodies) (x ∷ xs) final n d puts is =
    let other : n ≢ x.number = λ same. absurd (let a = has_is table n d is in let b = ap (λ m. has_value table m) same in let c = puts.0.missing in cc) in
    (grind (arith, nat_tests), puts_differ docs (with_value table x.number x.doc) bodies xs final n d puts.1 (put_other table x.number n x.doc other ∙ is))

puts_distinct : (docs : ℕ) (table : List (Option DocData)) (bodies : List (List ℕ)) (xs : List NumberedDoc) (final : List (Option DocData)) → Puts docs table bodies xs final → IsDistinct nat_eq (map (λ (x : NumberedDoc). x.number) xs)
unfolding IsDistinct
puts_distinct docs table [] [] final puts = tt
puts_distinct docs table [] (x ∷ xs) final puts = absurd puts
puts_distinct docs table (body ∷ bodies) [] final puts = absurd puts
puts_distinct docs table (body ∷ bodies) (x ∷ xs) final puts =
    (puts_differ docs (with_value table x.number x.doc) bodies xs final x.number x.doc puts.1 (put_there table x.number x.doc), puts_distinct docs (with_value table x.number x.doc) bodies xs final puts.1)

puts_among : (ds : List DocData) (docs : ℕ) (table : List (Option DocData)) (bodies : List (List ℕ)) (xs : List NumberedDoc) (final : List (Option DocData)) → ((n : ℕ) (d : DocData) → get_or final n None ≡ Some d → slice_get ds n ≡ Some d)
    → Puts docs table bodies xs final → AllZip (IsDocAmong ds) bodies (map (λ (x : NumberedDoc). x.number) xs)
puts_among ds docs table [] [] final there puts = tt
puts_among ds docs table [] (x ∷ xs) final there puts = absurd puts
puts_among ds docs table (body ∷ bodies) [] final there puts = absurd puts
puts_among ds docs table (body ∷ bodies) (x ∷ xs) final there puts =
    let kept = puts_keep docs (with_value table x.number x.doc) bodies xs final x.number x.doc puts.1 (put_there table x.number x.doc) in
    (record { doc = x.doc; there = there x.number x.doc kept; spelled = puts.0.is }, puts_among ds docs (with_value table x.number x.doc) bodies xs final there puts.1)

puts_count : (docs : ℕ) (table : List (Option DocData)) (bodies : List (List ℕ)) (xs : List NumberedDoc) (final : List (Option DocData)) → Puts docs table bodies xs final → length table ≤ docs → (length (values_of final) ≡ length (values_of table) + length bodies) × (length final ≤ docs)
puts_count docs table [] [] final puts fits = subst (λ (t : List (Option DocData)). (length (values_of t) ≡ length (values_of table) + 0) × (length t ≤ docs)) puts (omega arith, fits)
puts_count docs table [] (x ∷ xs) final puts fits = absurd puts
puts_count docs table (body ∷ bodies) [] final puts fits = absurd puts
puts_count docs table (body ∷ bodies) (x ∷ xs) final puts fits =
    let t = puts_count docs (with_value table x.number x.doc) bodies xs final puts.1 (put_within table x.number docs x.doc fits puts.0.below) in
    (omega (arith, t.0, values-with table x.number x.doc puts.0.missing), t.1)

-- the documents of a table into which so many records were put
pub docs_stand : (bodies : List (List ℕ)) (xs : List NumberedDoc) (final : List (Option DocData)) → Puts (length bodies) [] bodies xs final → AreRecords (values_of final) bodies × (length (values_of final) ≡ length bodies)
docs_stand bodies xs final puts =
    let docs = length bodies in
    let count = puts_count docs [] bodies xs final puts (omega arith) in
    let whole : length (values_of final) ≡ length bodies = omega (arith, count.0) in
    let all = full final (omega (arith, count.0, count.1)) in
    let there = λ (n : ℕ) (d : DocData) (is : get_or final n None ≡ Some d). sym (ap (λ (t : List (Option DocData)). get_or t n None) all ∙ get_full (values_of final) n) ∙ is in (
      record {
        numbers = map (λ (x : NumberedDoc). x.number) xs;
        each = puts_among (values_of final) docs [] bodies xs final there puts;
        differ = puts_distinct docs [] bodies xs final puts;
        all = sym whole;
      },
      whole,
    )

-- ---- messages

pub record DocsFound (n docs : ℕ) (table : List (Option DocData)) (at : ℕ) (s : List ℕ) (y : DocsRead) : Type 0 where
  pub final : List (Option DocData)
  pub final_is : y.records ≡ numbered_from 0 final
  pub front : List ℕ
  pub bodies : List (List ℕ)
  pub docs_put : List NumberedDoc
  pub parts : s ≡ front ++ y.rest
  pub messages : Spells IsSized front bodies
  pub puts : Puts docs table bodies docs_put final
  pub count : length bodies ≡ n
  pub ends : y.at ≡ at + length front
  pub short : y.at ≤ 2 ^ 32

-- a table of some of these documents
pub record IsPart (ds : List DocData) (table : List (Option DocData)) : Type 0 where
  pub there : (n : ℕ) (d : DocData) → get_or table n None ≡ Some d → slice_get ds n ≡ Some d
  pub within : length table ≤ length ds

part_put : (ds : List DocData) (table : List (Option DocData)) (n : ℕ) (d : DocData) → IsPart ds table → slice_get ds n ≡ Some d → IsPart ds (with_value table n d)
part_put ds table n d part is = record {
  there = λ m e got. elim (cases_eq m n) [
    | inl same ↦ let a : get_or (with_value table n d) m None ≡ Some d = ap (λ k. get_or (with_value table n d) k None) same ∙ put_there table n d in let same_doc : d ≡ e = cc in ap (slice_get ds) same ∙ is ∙ ap (λ (x : DocData). Some x) same_doc
    | inr other ↦ part.there m e (sym (put_other table n m d other) ∙ got)
  ];
  within = put_within table n (length ds) d part.within (slice_get_within ds n d is);
}

missing_still : (table : List (Option DocData)) (n : ℕ) (d : DocData) (ms : List ℕ) → AllByRecursion (λ m. has_value table m ≡ false) ms → AllByRecursion (λ m. nat_eq n m ≡ false) ms → AllByRecursion (λ m. has_value (with_value table n d) m ≡ false) ms
missing_still table n d [] h k = tt
missing_still table n d (m ∷ ms) h k =
    let test = k.0 in
    let other : m ≢ n = λ same. absurd (let e : nat_eq n m ≡ true = grind (arith, nat_tests) in cc) in
    (ap is_some (put_other table n m d other) ∙ h.0, missing_still table n d ms h.1 k.1)

pub record DocsThere (total : Result DocsRead CiffRefusal) (ds : List DocData) (place count : ℕ) (rest : List ℕ) : Type 0 where
  pub final : List (Option DocData)
  pub read : total ≡ Ok (record { records = numbered_from 0 final; at = place; rest = rest })
  pub part : IsPart ds final
  pub count_is : length (values_of final) ≡ count

module _ (laws : WireLaws) where
  pub doc_found : (docs : ℕ) (table : List (Option DocData)) (at : ℕ) (m : Message) (x : NumberedDoc) → doc_at docs (numbers_of (numbered_from 0 table)) at m ≡ Ok x → DocFound docs table m.body x
  unfolding doc_at
  doc_found docs table at m x is =
      let numbers = numbers_of (numbered_from 0 table) in
      let a = bound (numbered_at m.from m.body) (λ y. placed at (judge_doc docs numbers y)) x is in
      let w = bound (walk nothing_inside m.from m.body) (λ walked. Ok (numbered_of walked.fields)) a.0 a.1 in
      let y = a.0 in
      let made = done_is (numbered_of w.0.fields) y w.2 in
      let t = six_passed (over31 y.number) (nat_le docs y.number) (is_among y.number numbers) (not (is_utf8 y.doc.name)) (not (is_name y.doc.name)) (over31 y.doc.length) Range DocRange DocTwice Text NameText Range y x (unplaced at (judge_doc docs numbers y) x a.2) in
      let t1 = t.1 in
      let t5 = t.5 in
      subst (DocFound docs table m.body) t.6 (record {
        is = record {
          fields = w.0.fields;
          spelled = fields_found laws nothing_inside (length m.body) m.from m.body w.0 (omega arith) w.1;
          numbered = ap (λ (z : NumberedDoc). z.number) (sym made);
          name = ap (λ (z : NumberedDoc). z.doc.name) (sym made);
          length = ap (λ (z : NumberedDoc). z.doc.length) (sym made);
          fits = record { text = is_text y.doc.name t.3; name = name_found y.doc.name (not-false (is_name y.doc.name) t.4); length = grind (arith, nat_tests) };
        };
        below = grind (arith, nat_tests);
        missing = sym (among_all table y.number) ∙ t.2;
      })

  pub doc_read : (docs : ℕ) (table : List (Option DocData)) (at from : ℕ) (body rest : List ℕ) (n : ℕ) (d : DocData) → docs ≤ 2 ^ 26 → IsDoc body n d → n < docs
      → has_value table n ≡ false → doc_at docs (numbers_of (numbered_from 0 table)) at (record { from = from; body = body; rest = rest }) ≡ Ok
      (record { number = n; doc = d })
  unfolding doc_at
  doc_read docs table at from body rest n d few is below missing =
      let x : NumberedDoc = record { number = n; doc = d } in
      let same : numbered_of is.fields ≡ x = rw (is.numbered, is.name, is.length) refl in
      let walked = fields_only laws is.fields (length body) from body is.spelled (omega arith) in
      let start : numbered_at from body ≡ Ok x = ap (λ (r : Result Walked CiffRefusal). r >>= λ walked. Ok (numbered_of walked.fields)) walked ∙ ap (λ (y : NumberedDoc). Ok y) same in
      let size = is.fits.length in
      let a : over31 n ≡ false = grind (arith, nat_tests) in
      let b : nat_le docs n ≡ false = grind (arith, nat_tests) in
      let text = no_fault d.name is.fits.text in
      let named : not (is_name d.name) ≡ false = ap not (name_there d.name is.fits.name) in
      let f : over31 d.length ≡ false = grind (arith, nat_tests) in
      let new = among_all table n ∙ missing in
      ap (λ (r : Result NumberedDoc CiffRefusal). r >>= λ y. placed at (judge_doc docs (numbers_of (numbered_from 0 table)) y)) start ∙ rw (a, b, new, text, named, f) refl

  pub docs_found : (n docs : ℕ) (table : List (Option DocData)) (at : ℕ) (s : List ℕ) (y : DocsRead) → at ≤ 2 ^ 32 → docs_at n docs (numbered_from 0 table) at s ≡ Ok y → DocsFound n docs table at s y
  unfolding docs_at
  docs_found zero docs table at s y short is =
      subst (DocsFound zero docs table at s) (done_is (record { records = numbered_from 0 table; at = at; rest = s }) y is) (record { final = table; final_is = refl; front = []; bodies = []; docs_put = []; parts = refl; messages = refl; puts = refl; count = refl; ends = omega arith; short = short })
  docs_found (suc n) docs table at s y short is =
      let records = numbered_from 0 table in
      let a = bound (message_at at s) (λ m. doc_at docs (numbers_of records) at m >>= λ x. docs_at n docs (inserted x records) (message_end m) m.rest) y is in
      let m = a.0 in
      let b = bound (doc_at docs (numbers_of records) at m) (λ x. docs_at n docs (inserted x records) (message_end m) m.rest) y a.2 in
      let x = b.0 in
      let f = message_found laws at s m a.1 in
      let g = doc_found docs table at m x b.1 in
      let h = docs_found n docs (with_value table x.number x.doc) (message_end m) m.rest y f.short (ap (λ (rs : List NumberedDoc). docs_at n docs rs (message_end m) m.rest) (sym (insert_all table x g.missing)) ∙ b.2) in
      record {
        final = h.final;
        final_is = h.final_is;
        front = f.first ++ h.front;
        bodies = m.body ∷ h.bodies;
        docs_put = x ∷ h.docs_put;
        parts = f.parts ∙ ap (λ (t : List ℕ). f.first ++ t) h.parts ∙ sym (append_assoc f.first h.front y.rest);
        messages = (f.first, h.front, refl, f.sized, h.messages);
        puts = (g, h.puts);
        count = ap suc h.count;
        ends = omega (arith, h.ends, f.ends, length-append f.first h.front);
        short = h.short;
      }

  pub docs_read : (ds : List DocData) (table : List (Option DocData)) (at : ℕ) (front rest : List ℕ) (bodies : List (List ℕ)) (numbers : List ℕ) → length ds ≤ 2 ^ 26 → Spells IsSized front bodies → AllZip (IsDocAmong ds) bodies numbers → IsDistinct nat_eq numbers
      → AllByRecursion (λ m. has_value table m ≡ false) numbers → IsPart ds table → at + length front ≤ 2 ^ 32 → DocsThere (docs_at (length bodies) (length ds) (numbered_from 0 table) at (front ++ rest)) ds (at + length front) (length (values_of table) + length bodies) rest
  unfolding docs_at IsDistinct
  docs_read ds table at front rest [] [] few messages each differ missing part short =
      let size = ap (λ (t : List ℕ). length t) messages in
      let place : at ≡ at + length front = omega arith in
      record {
        final = table;
        read = ap (λ (t : List ℕ). Ok (record { records = numbered_from 0 table; at = at; rest = t ++ rest })) messages ∙ ap (λ n. Ok (record { records = numbered_from 0 table; at = n; rest = rest })) place;
        part = part;
        count_is = omega arith;
      }
  docs_read ds table at front rest [] (n ∷ numbers) few messages each differ missing part short = absurd each
  docs_read ds table at front rest (body ∷ bodies) [] few messages each differ missing part short = absurd each
  docs_read ds table at front rest (body ∷ bodies) (n ∷ numbers) few messages each differ missing part short =
      let first = messages.0 in
      let other = messages.1 in
      let sized = messages.3 in
      let d = each.0.doc in
      let size = ap (λ (t : List ℕ). length t) messages.2 in
      let parts = spells-front first other rest front messages.2 in
      let fits : at + length first ≤ 2 ^ 32 = omega (arith, length-append first other) in
      let m : Message = record { from = at + length sized.size; body = body; rest = other ++ rest } in
      let read : message_at at (front ++ rest) ≡ Ok m = ap (message_at at) parts ∙ message_only laws at first body (other ++ rest) sized fits in
      let whole = ap (λ (t : List ℕ). length t) sized.parts in
      let ends : message_end m ≡ at + length first = omega (arith, length-append sized.size body) in
      let below = slice_get_within ds n d each.0.there in
      let doc = doc_read (length ds) table at (at + length sized.size) body (other ++ rest) n d few each.0.spelled below missing.0 in
      let later = docs_read ds (with_value table n d) (at + length first) other rest bodies numbers few messages.4 each.1 differ.1 (missing_still table n d numbers missing.1 differ.0) (part_put ds table n d part each.0.there) (omega (arith, length-append first other)) in
      let records = numbered_from 0 table in
      let x : NumberedDoc = record { number = n; doc = d } in
      let place : at + length first + length other ≡ at + length front = omega (arith, length-append first other) in
      record {
        final = later.final;
        read = ap (λ (r : Result Message CiffRefusal). r >>= λ m. doc_at (length ds) (numbers_of records) at m >>= λ x. docs_at (length bodies) (length ds) (inserted x records) (message_end m) m.rest) read
            ∙ ap (λ (r : Result NumberedDoc CiffRefusal). r >>= λ x. docs_at (length bodies) (length ds) (inserted x records) (message_end m) m.rest) doc
            ∙ ap (λ (rs : List NumberedDoc). docs_at (length bodies) (length ds) rs (message_end m) (other ++ rest)) (insert_all table x missing.0)
            ∙ ap (λ k. docs_at (length bodies) (length ds) (numbered_from 0 (with_value table n d)) k (other ++ rest)) ends
            ∙ later.read
            ∙ ap (λ k. Ok (record { records = numbered_from 0 later.final; at = k; rest = rest })) place;
        part = later.part;
        count_is = later.count_is ∙ omega (arith, values-with table n d missing.0);
      }

  all_missing : (numbers : List ℕ) → AllByRecursion (λ m. has_value {R = DocData} [] m ≡ false) numbers
  all_missing [] = tt
  all_missing (n ∷ numbers) = (refl, all_missing numbers)

  -- a table of as many documents as there are holds all of them
  pub docs_all : (ds : List DocData) (final : List (Option DocData)) → IsPart ds final → length (values_of final) ≡ length ds → values_of final ≡ ds
  docs_all ds final part count =
      let all = full final (omega (arith, part.within, count)) in
      same_lists (values_of final) ds count (λ n d is. part.there n d (ap (λ (t : List (Option DocData)). get_or t n None) all ∙ get_full (values_of final) n ∙ is))

  pub docs_are_read : (ds : List DocData) (at : ℕ) (front rest : List ℕ) (bodies : List (List ℕ)) → length ds ≤ 2 ^ 26 → Spells IsSized front bodies
      → AreRecords ds bodies → at + length front ≤ 2 ^ 32 → DocsThere (docs_at (length ds) (length ds) [] at (front ++ rest)) ds (at + length front)
      (length ds) rest
  docs_are_read ds at front rest bodies few messages are short =
      let start : IsPart ds [] = record { there = λ n d got. absurd cc; within = omega arith } in
      let r = docs_read ds [] at front rest bodies are.numbers few messages are.each are.differ (all_missing are.numbers) start short in
      subst (λ n. DocsThere (docs_at n (length ds) [] at (front ++ rest)) ds (at + length front) n rest) are.all (subst (λ n. DocsThere (docs_at (length bodies) (length ds) [] at (front ++ rest)) ds (at + length front) n rest) (omega arith) r)
