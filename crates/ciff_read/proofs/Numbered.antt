-- The values of a table with their numbers: which are there, one more, and the values alone.
use Rattle.shared_lemmas.proofs.Common.{◌≡◌, ℕ, zero, suc, ◌+◌, ◌-◌, ◌<◌, Bool, true, false, cond, List, [], ◌∷◌, ◌++◌, length, map, get_or, set, replicate, Option, Some, None, refl, sym, ap, ◌∙◌, arith, nat_eq, nat_lt, nat_tests, length-map}
use Rattle.std.proofs.Common.{option_map}
use Rattle.ciff_read.proofs.Below.{DocData, doc_data, DocRecord}
use Rattle.ciff_read.specs.Judging.{NumberedDoc, numbers_of, is_among}
use Rattle.ciff_read.specs.Private.Places.{numbered_from}
use Rattle.ciff_read.specs.Reading.{inserted}
use Rattle.ciff_read.specs.Private.Table.{has_value, reaching, with_value, values_of}
use Rattle.ciff_read.proofs.Tables.{missing_is, still_missing, reaches_past, map-has}

-- ---- which numbers are there

none_before : (k m : ℕ) (table : List (Option DocData)) → m < k → is_among m (numbers_of (numbered_from k table)) ≡ false
none_before k m [] less = refl
none_before k m (None ∷ table) less = none_before (suc k) m table (omega arith)
none_before k m (Some d ∷ table) less =
    let other : nat_eq k m ≡ false = grind (arith, nat_tests) in
    rw other (none_before (suc k) m table (omega arith))

pub among_from : (k n m : ℕ) (table : List (Option DocData)) → m ≡ k + n → is_among m (numbers_of (numbered_from k table)) ≡ has_value table n
among_from k n m [] is = refl
among_from k zero m (None ∷ table) is = none_before (suc k) m table (omega arith)
among_from k zero m (Some d ∷ table) is =
    let same : nat_eq k m ≡ true = grind (arith, nat_tests) in
    rw same refl
among_from k (suc n) m (None ∷ table) is = among_from (suc k) n m table (omega arith)
among_from k (suc n) m (Some d ∷ table) is =
    let other : nat_eq k m ≡ false = grind (arith, nat_tests) in
    rw other (among_from (suc k) n m table (omega arith))

pub among_all : (table : List (Option DocData)) (n : ℕ) → is_among n (numbers_of (numbered_from 0 table)) ≡ has_value table n
among_all table n = among_from 0 n n table (omega arith)

pub among_records : (table : List (Option DocRecord)) (n : ℕ) → is_among n (numbers_of (numbered_from 0 (map (option_map doc_data) table))) ≡ has_value table n
among_records table n = among_all (map (option_map doc_data) table) n ∙ map-has doc_data table n

-- ---- one record more

pub length-inserted : (x : NumberedDoc) (rs : List NumberedDoc) → length (inserted x rs) ≡ length rs + 1
length-inserted x [] = refl
length-inserted x (r ∷ rs) = go (nat_lt r.number x.number) (length-inserted x rs)
  where
    go : (test : Bool) → length (inserted x rs) ≡ length rs + 1 → length (cond test (r ∷ inserted x rs) (x ∷ r ∷ rs)) ≡ length (r ∷ rs) + 1
    go true more = omega (arith, more)
    go false more = omega arith

insert_first : (k : ℕ) (x : NumberedDoc) (table : List (Option DocData)) → x.number < k → inserted x (numbered_from k table) ≡ x ∷ numbered_from k table
insert_first k x [] less = refl
insert_first k x (None ∷ table) less = insert_first (suc k) x table (omega arith)
insert_first k x (Some d ∷ table) less =
    let before : nat_lt k x.number ≡ false = grind (arith, nat_tests) in
    rw before refl

insert_from : (k n : ℕ) (x : NumberedDoc) (table : List (Option DocData)) → x.number ≡ k + n → n < length table → get_or table n None ≡ None → inserted x (numbered_from k table) ≡ numbered_from k (set table n (Some x.doc))
insert_from k n x [] is inside missing = absurd (omega arith)
insert_from k zero x (None ∷ table) is inside missing =
    let same : x.number ≡ k = omega arith in
    insert_first (suc k) x table (omega arith) ∙ ap (λ n. record { number = n; doc = x.doc } ∷ numbered_from (suc k) table) same
insert_from k zero x (Some d ∷ table) is inside missing = absurd cc
insert_from k (suc n) x (None ∷ table) is inside missing = insert_from (suc k) n x table (omega arith) (omega arith) missing
insert_from k (suc n) x (Some d ∷ table) is inside missing =
    let behind : nat_lt k x.number ≡ true = grind (arith, nat_tests) in
    rw behind (ap (λ (rs : List NumberedDoc). record { number = k; doc = d } ∷ rs) (insert_from (suc k) n x table (omega arith) (omega arith) missing))

more_none : (k n : ℕ) → numbered_from k (replicate n None) ≡ []
more_none k zero = refl
more_none k (suc n) = more_none (suc k) n

longer_from : (k n : ℕ) (table : List (Option DocData)) → numbered_from k (table ++ replicate n None) ≡ numbered_from k table
longer_from k n [] = more_none k n
longer_from k n (None ∷ table) = longer_from (suc k) n table
longer_from k n (Some d ∷ table) = ap (λ (rs : List NumberedDoc). record { number = k; doc = d } ∷ rs) (longer_from (suc k) n table)

pub insert_all : (table : List (Option DocData)) (x : NumberedDoc) → has_value table x.number ≡ false → inserted x (numbered_from 0 table) ≡ numbered_from 0 (with_value table x.number x.doc)
insert_all table x new =
    let missing : get_or (reaching table x.number) x.number None ≡ None = still_missing table (x.number + 1 - length table) x.number (missing_is (get_or table x.number None) new) in
    ap (inserted x) (sym (longer_from 0 (x.number + 1 - length table) table)) ∙ insert_from 0 x.number x (reaching table x.number) (omega arith) (reaches_past table x.number) missing

-- ---- the values alone

pub docs_from : (k : ℕ) (table : List (Option DocData)) → map (λ (r : NumberedDoc). r.doc) (numbered_from k table) ≡ values_of table
docs_from k [] = refl
docs_from k (None ∷ table) = docs_from (suc k) table
docs_from k (Some d ∷ table) = ap (λ (ds : List DocData). d ∷ ds) (docs_from (suc k) table)

pub length_from : (table : List (Option DocData)) → length (numbered_from 0 table) ≡ length (values_of table)
length_from table = sym (length-map (numbered_from 0 table) (λ (r : NumberedDoc). r.doc)) ∙ ap (λ (ds : List DocData). length ds) (docs_from 0 table)
