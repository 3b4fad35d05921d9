-- Reading words one after the other.
use Rattle.shared_lemmas.proofs.Common.{◌≡◌, zero, suc, ◌+◌, ◌-◌, ◌/◌, ◌%◌, ◌^◌, ◌<◌, ◌≤◌, Bool, true, false, cond, [], ◌++◌, Result, Ok, Err, inl, inr, refl, sym, ap, subst, ◌∙◌, append_assoc, arith, All, nat_eq, nat_lt, sum, list_all, nat_tests, length-drop, drop-drop}
use Rattle.std.proofs.Common.{ℕ, List, length, drop, length-append}
use Rattle.jass_base.proofs.GapSpelling.{bound}
use Rattle.jass_base.specs.Gaps.{docs_from, ◌>>=◌}
use Rattle.jass_base.specs.declared.payload_fault.PayloadFault.{PayloadFault}
use Rattle.jass_base.specs.declared.payload_fault.PayloadFault.TheVariants.{Cut, Longer, Shape, DocRange}
use Rattle.codec_simple8.specs.Simple8.{count_of, width_of, fields, gaps_in, word_in, least_behind, read_word, read_words}
use Rattle.codec_simple8.proofs.Digits.{Below, Below-wider}
use Rattle.codec_simple8.proofs.Docs.{behind_below, below_behind, docs_gaps, below_parts}
use Rattle.codec_simple8.proofs.GapLists.{All-from_below}
use Rattle.codec_simple8.proofs.Selectors.{Either, one_of}
use Rattle.codec_simple8.proofs.WordLists.{length-gaps_in, bytes_more, bytes_none}
use Rattle.codec_simple8.specs.Private.Words.{bytes_gaps, AreWords}
use Rattle.shared_lemmas.proofs.Results.{if_ok, unless_ok, ok_same}

abbrev pub Read : Type 0
Read = Result (List ℕ) PayloadFault

-- ---- one word

pub word_cut : (d least left : ℕ) (bytes : List ℕ) → length bytes < 8 → read_word d least left bytes ≡ Err Cut
word_cut d least left bytes short = let t : nat_lt (length bytes) 8 ≡ true = grind (arith, nat_tests) in rw t refl

pub word_shape : (d least left : ℕ) (bytes : List ℕ) → 8 ≤ length bytes → left < count_of (word_in bytes % 16) → read_word d least left bytes ≡ Err Shape
word_shape d least left bytes long many =
    let t : nat_lt (length bytes) 8 ≡ false = grind (arith, nat_tests) in
    let own = length-gaps_in (word_in bytes) in
    let u : nat_lt left (count_of (word_in bytes % 16)) ≡ true = grind (arith, nat_tests) in
    let u' : nat_lt left (length (gaps_in (word_in bytes))) ≡ true = ap (nat_lt left) own ∙ u in
    rw (t, u') refl

within_shape : (left : ℕ) (bytes : List ℕ) → count_of (word_in bytes % 16) ≤ left → nat_lt left (length (gaps_in (word_in bytes))) ≡ false
within_shape left bytes few =
    let u : nat_lt left (count_of (word_in bytes % 16)) ≡ false = grind (arith, nat_tests) in
    ap (nat_lt left) (length-gaps_in (word_in bytes)) ∙ u

pub word_range : (d least left : ℕ) (bytes : List ℕ) → 8 ≤ length bytes → count_of (word_in bytes % 16) ≤ left → least ≤ d → d < least_behind least (gaps_in (word_in bytes)) → read_word d least left bytes ≡ Err DocRange
word_range d least left bytes long few low high =
    let t : nat_lt (length bytes) 8 ≡ false = grind (arith, nat_tests) in
    rw (t, within_shape left bytes few, above (one_of (list_all (λ doc. nat_lt doc d) (docs_from least (gaps_in (word_in bytes)))))) refl
  where
    above : Either (list_all (λ doc. nat_lt doc d) (docs_from least (gaps_in (word_in bytes)))) → list_all (λ doc. nat_lt doc d) (docs_from least (gaps_in (word_in bytes))) ≡ false
    above (inl below) = absurd (omega (arith, behind_below d least (gaps_in (word_in bytes)) low below, high))
    above (inr fails) = fails

pub word_ok : (d least left : ℕ) (bytes : List ℕ) → 8 ≤ length bytes → count_of (word_in bytes % 16) ≤ left → least_behind least (gaps_in (word_in bytes)) ≤ d → read_word d least left bytes ≡ Ok (gaps_in (word_in bytes))
word_ok d least left bytes long few low =
    let t : nat_lt (length bytes) 8 ≡ false = grind (arith, nat_tests) in
    rw (t, within_shape left bytes few, below_behind d least (gaps_in (word_in bytes)) low) refl

-- ---- the words behind it

abbrev pub with_front : List ℕ → List ℕ → Read
with_front front rest = Ok (front ++ rest)

abbrev pub behind_first : ℕ → ℕ → ℕ → ℕ → List ℕ → List ℕ → Read
behind_first n d least left bytes gaps = read_words n d (least_behind least gaps) (left - length gaps) (drop 8 bytes) >>= with_front gaps

pub read_one : (n m d least left : ℕ) (bytes : List ℕ) → n ≡ suc m → 0 < left → read_words n d least left bytes ≡ (read_word d least left bytes >>= behind_first m d least left bytes)
read_one n m d least zero bytes is some = absurd (omega arith)
read_one n m d least (suc left) bytes is some = ap (λ k. read_words k d least (suc left) bytes) is

abbrev pub nothing_more : Bool → Read
nothing_more none = cond none (Ok []) (Err Longer)

pub read_end : (n d least left : ℕ) (bytes : List ℕ) → left ≡ 0 → read_words n d least left bytes ≡ cond (nat_eq (length bytes) 0) (Ok []) (Err Longer)
read_end n d least left bytes is = ap (λ k. read_words n d least k bytes) is ∙ at_zero n
  where
    at_zero : (n : ℕ) → read_words n d least 0 bytes ≡ cond (nat_eq (length bytes) 0) (Ok []) (Err Longer)
    at_zero zero = refl
    at_zero (suc n) = refl

-- ---- where a walk over the words stands

pub record Walk (whole : Read) (d : ℕ) (bytes : List ℕ) (at left least : ℕ) : Type 0 where
  pub n : ℕ
  pub front : List ℕ
  pub enough : left ≤ n
  pub within : at ≤ length bytes
  pub low : least ≤ d
  pub whole_is : whole ≡ (read_words n d least left (drop at bytes) >>= with_front front)

pub same_front : (r : Read) → r ≡ (r >>= with_front [])
same_front (Ok gaps) = refl
same_front (Err fault) = refl

unfoldable pub walk_start : (d count : ℕ) (bytes : List ℕ) → Walk (read_words count d 0 count bytes) d bytes 0 count 0
walk_start d count bytes = record { n = count; front = []; enough = omega arith; within = omega arith; low = omega arith; whole_is = same_front (read_words count d 0 count bytes) }

pub walk_fault : (whole : Read) (d : ℕ) (bytes : List ℕ) (at left least : ℕ) (fault : PayloadFault) → Walk whole d bytes at left least → 0 < left → read_word d least left (drop at bytes) ≡ Err fault → whole ≡ Err fault
walk_fault whole d bytes at left least fault w some is =
    let n : w.n ≡ suc (w.n - 1) = omega (arith, w.enough, some) in
    w.whole_is ∙ ap (λ r. r >>= with_front w.front) (read_one w.n (w.n - 1) d least left (drop at bytes) n some ∙ ap (λ r. r >>= behind_first (w.n - 1) d least left (drop at bytes)) is)

pub join_front : (front own : List ℕ) (r : Read) → (r >>= with_front own >>= with_front front) ≡ (r >>= with_front (front ++ own))
join_front front own (Ok gaps) = ap (λ (xs : List ℕ). Ok xs) (sym (append_assoc front own gaps))
join_front front own (Err fault) = refl

unfoldable pub walk_one : (whole : Read) (d : ℕ) (bytes : List ℕ) (at left least : ℕ) (own : List ℕ) → Walk whole d bytes at left least → 0 < left → 8 ≤ length (drop at bytes) → 0 < length own → least_behind least own ≤ d
    → read_word d least left (drop at bytes) ≡ Ok own → Walk whole d bytes (at + 8) (left - length own) (least_behind least own)
walk_one whole d bytes at left least own w some long many low is =
    let n : w.n ≡ suc (w.n - 1) = omega (arith, w.enough, some) in
    record {
      n = w.n - 1;
      front = w.front ++ own;
      enough = omega (arith, w.enough, many, some);
      within = omega (arith, long, length-drop at bytes);
      low = low;
      whole_is = w.whole_is ∙ ap (λ r. r >>= with_front w.front) (read_one w.n (w.n - 1) d least left (drop at bytes) n some ∙ ap (λ r. r >>= behind_first (w.n - 1) d least left (drop at bytes)) is)
          ∙ join_front w.front own (read_words (w.n - 1) d (least_behind least own) (left - length own) (drop 8 (drop at bytes)))
          ∙ ap (λ (rest : List ℕ). read_words (w.n - 1) d (least_behind least own) (left - length own) rest >>= with_front (w.front ++ own)) (drop-drop 8 at bytes);
    }

pub walk_longer : (whole : Read) (d : ℕ) (bytes : List ℕ) (at left least : ℕ) → Walk whole d bytes at left least → left ≡ 0 → at < length bytes → whole ≡ Err Longer
walk_longer whole d bytes at left least w done more =
    let t : nat_eq (length (drop at bytes)) 0 ≡ false = (let some : 0 < length (drop at bytes) = omega (arith, length-drop at bytes, more) in grind (arith, nat_tests)) in
    w.whole_is ∙ ap (λ r. r >>= with_front w.front) (read_end w.n d least left (drop at bytes) done ∙ ap nothing_more t)

pub walk_end : (whole : Read) (d : ℕ) (bytes : List ℕ) (at left least : ℕ) (w : Walk whole d bytes at left least) → left ≡ 0 → length bytes ≤ at → whole ≡ Ok (w.front ++ [])
walk_end whole d bytes at left least w done all =
    let t : nat_eq (length (drop at bytes)) 0 ≡ true = (let none : length (drop at bytes) ≡ 0 = omega (arith, length-drop at bytes, all) in grind (arith, nat_tests)) in
    w.whole_is ∙ ap (λ r. r >>= with_front w.front) (read_end w.n d least left (drop at bytes) done ∙ ap nothing_more t)

-- the sum and the number of a word's gaps
pub word_behind : (least word selector total : ℕ) → selector ≡ word % 16 → total ≡ sum (fields (width_of selector) (count_of selector) (word / 16)) → least + (total + count_of selector) ≡ least_behind least (gaps_in word)
unfolding gaps_in
word_behind least word selector total its is =
    omega (arith, ap count_of its, length-gaps_in word, is ∙ ap (λ s. sum (fields (width_of s) (count_of s) (word / 16))) its)

-- where a word has no more gaps than are left
pub few_gaps : (left : ℕ) (bytes : List ℕ) (word selector gaps : ℕ) → word ≡ word_in bytes → selector ≡ word % 16 → gaps ≡ count_of selector → gaps ≤ left → count_of (word_in bytes % 16) ≤ left
few_gaps left bytes word selector gaps is its many few = subst (λ word. count_of (word % 16) ≤ left) is (omega (arith, ap count_of its, many, few))

-- the least document behind a word
pub least_after : (least : ℕ) (bytes : List ℕ) (word selector total gaps : ℕ) → word ≡ word_in bytes → selector ≡ word % 16 → total ≡ sum (fields (width_of selector) (count_of selector) (word / 16)) → gaps ≡ count_of selector
    → least + (total + gaps) ≡ least_behind least (gaps_in (word_in bytes))
least_after least bytes word selector total gaps is its sum_is many = ap (λ n. least + (total + n)) many ∙ word_behind least word selector total its sum_is ∙ ap (λ word. least_behind least (gaps_in word)) is

-- ---- what was read

-- a word that was read
record WordRead (d least left : ℕ) (bytes own : List ℕ) : Type 0 where
  long : 8 ≤ length bytes
  few : count_of (word_in bytes % 16) ≤ left
  own_is : own ≡ gaps_in (word_in bytes)
  below : Below d (docs_from least own)

word_read : (d least left : ℕ) (bytes own : List ℕ) → read_word d least left bytes ≡ Ok own → WordRead d least left bytes own
word_read d least left bytes own is =
    let gaps = gaps_in (word_in bytes) in
    let first = unless_ok (nat_lt (length bytes) 8) Cut (cond (nat_lt left (length (gaps_in (word_in bytes)))) (Err Shape) (cond (list_all (λ doc. nat_lt doc d) (docs_from least (gaps_in (word_in bytes)))) (Ok (gaps_in (word_in bytes))) (Err DocRange))) own is in
    let second = unless_ok (nat_lt left (length (gaps_in (word_in bytes)))) Shape (cond (list_all (λ doc. nat_lt doc d) (docs_from least (gaps_in (word_in bytes)))) (Ok (gaps_in (word_in bytes))) (Err DocRange)) own first.1 in
    let third = if_ok (list_all (λ doc. nat_lt doc d) (docs_from least (gaps_in (word_in bytes)))) (Ok (gaps_in (word_in bytes))) DocRange own second.1 in
    let same = ok_same (gaps_in (word_in bytes)) own third.1 in
    let short = first.0 in
    let many : nat_lt left (count_of (word_in bytes % 16)) ≡ false = ap (nat_lt left) (sym (length-gaps_in (word_in bytes))) ∙ second.0 in
    record {
      long = grind (arith, nat_tests);
      few = grind (arith, nat_tests);
      own_is = sym same;
      below = subst (λ (gaps : List ℕ). Below d (docs_from least gaps)) same third.0;
    }

-- words that were read
pub record WordsRead (d least left : ℕ) (bytes gaps : List ℕ) : Type 0 where
  pub whole : length bytes % 8 ≡ 0
  pub gaps_are : bytes_gaps bytes ≡ gaps
  pub count : length gaps ≡ left
  pub below : Below d (docs_from least gaps)

pub words_read : (n d least left : ℕ) (bytes gaps : List ℕ) → least ≤ d → read_words n d least left bytes ≡ Ok gaps → WordsRead d least left bytes gaps
words_read n d least zero bytes gaps low is =
    let t = if_ok (nat_eq (length bytes) 0) (Ok []) Longer gaps (sym (read_end n d least 0 bytes refl) ∙ is) in
    let none = t.0 in
    let empty : length bytes ≡ 0 = grind (arith, nat_tests) in
    let same = ok_same [] gaps t.1 in
    subst (WordsRead d least 0 bytes) same (record { whole = omega (arith, empty); gaps_are = bytes_none bytes (omega (arith, empty)); count = refl; below = refl })
words_read zero d least (suc left) bytes gaps low is = absurd cc
words_read (suc n) d least (suc left) bytes gaps low is =
    let first = bound (read_word d least (suc left) bytes) (behind_first n d least (suc left) bytes) gaps is in
    let own = first.0 in
    let w = word_read d least (suc left) bytes first.0 first.1 in
    let behind = behind_below d least first.0 low w.below in
    let more = bound (read_words n d (least_behind least first.0) (suc left - length first.0) (drop 8 bytes)) (with_front first.0) gaps first.2 in
    let inner = words_read n d (least_behind least first.0) (suc left - length first.0) (drop 8 bytes) more.0 behind more.1 in
    let long = ap length w.own_is ∙ length-gaps_in (word_in bytes) in
    subst (WordsRead d least (suc left) bytes) (ok_same (first.0 ++ more.0) gaps more.2) (record {
      whole = omega (arith, inner.whole, length-drop 8 bytes, w.long);
      gaps_are = bytes_more bytes w.long ∙ ap (λ (front : List ℕ). front ++ bytes_gaps (drop 8 bytes)) (sym w.own_is) ∙ ap (λ (rest : List ℕ). first.0 ++ rest) inner.gaps_are;
      count = omega (arith, length-append first.0 more.0, inner.count, long, w.few);
      below = below_parts d least first.0 more.0 w.below inner.below;
    })

pub words_are : (d left : ℕ) (bytes gaps : List ℕ) → d ≤ 2 ^ 26 → WordsRead d 0 left bytes gaps → AreWords bytes left
words_are d left bytes gaps limit r = record {
  whole = r.whole;
  count = ap length r.gaps_are ∙ r.count;
  below = subst (All (λ gap. gap < 2 ^ 26)) (sym r.gaps_are) (All-from_below (2 ^ 26) gaps (Below-wider d (2 ^ 26) gaps limit (docs_gaps d 0 gaps r.below)));
}
