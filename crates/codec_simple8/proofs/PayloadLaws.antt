-- What is read of the payload of a list, and what the bytes are that a list is read of.
use Rattle.shared_lemmas.proofs.Common.{◌≡◌, ℕ, zero, suc, ◌+◌, ◌-◌, ◌%◌, ◌^◌, ◌<◌, ◌≤◌, true, cond, List, [], ◌∷◌, ◌++◌, length, take, drop, Ok, Err, refl, sym, ap, subst, ◌∙◌, arith, All, nat_eq, slice_index, IsStrictlyIncreasing, nat_tests, length-take-le, length-drop, take-append-drop}
use Rattle.shared_lemmas.proofs.Common.{nil_from_length, sum_by-take-le, sum_by-take-drop, bytes_eq-Decides}
use Rattle.std.specs.Str.{bytes_eq}
use Rattle.jass_base.proofs.GapSpelling.{bound}
use Rattle.jass_base.proofs.Gaps.{length-docs_from, gaps_again, length-gaps_from}
use Rattle.jass_base.specs.Gaps.{AreDocs, gaps_of, gaps_from, docs_from, ◌>>=◌}
use Rattle.jass_base.specs.declared.payload_fault.PayloadFault.TheVariants.{Shape}
use Rattle.codec_simple8.specs.Simple8.{count_of, gaps_in, word_in, least_behind, read_words, read_simple8, spelled_words, simple8_of}
use Rattle.codec_simple8.proofs.Digits.{Below}
use Rattle.codec_simple8.proofs.Docs.{behind_below, docs_again}
use Rattle.codec_simple8.proofs.GapLists.{below_from_All, All-from_below, docs_gaps_below, Below-drop}
use Rattle.codec_simple8.proofs.Reading.{Read, read_one, read_end, nothing_more, behind_first, with_front, word_ok, words_read}
use Rattle.codec_simple8.proofs.Tables.{count_some}
use Rattle.codec_simple8.proofs.Words.{front_word, no_words}
use Rattle.shared_lemmas.proofs.Results.{ok_same, if_ok}

-- ---- found

behind_first_gaps : (least n : ℕ) (gaps : List ℕ) → n ≤ length gaps → least_behind least (take n gaps) ≤ least_behind least gaps
behind_first_gaps least n gaps within = omega (arith, sum_by-take-le (λ x. x) gaps n, length-take-le n gaps within)

behind_both : (least n : ℕ) (gaps : List ℕ) → n ≤ length gaps → least_behind (least_behind least (take n gaps)) (drop n gaps) ≡ least_behind least gaps
behind_both least n gaps within = omega (arith, sum_by-take-drop (λ x. x) gaps n, length-take-le n gaps within, length-drop n gaps)

spelled_read : (n d least left : ℕ) (gaps bytes : List ℕ) → bytes ≡ spelled_words gaps → length gaps ≡ left → left ≤ n → Below (2 ^ 26) gaps → least_behind least gaps ≤ d → read_words n d least left bytes ≡ Ok gaps
spelled_read n d least zero gaps bytes is count few below low =
    let none = nil_from_length gaps count in
    let empty : bytes ≡ [] = is ∙ ap spelled_words none ∙ no_words in
    let test : nat_eq (length bytes) 0 ≡ true = (let z : length bytes ≡ 0 = ap length empty in grind (arith, nat_tests)) in
    read_end n d least 0 bytes refl ∙ ap nothing_more test ∙ ap (λ (gs : List ℕ). let r : Read = Ok gs in r) (sym none)
spelled_read zero d least (suc left) gaps bytes is count few below low = absurd (omega arith)
spelled_read (suc n) d least (suc left) gaps bytes is count few below low =
    let f = front_word bytes gaps is (omega (arith, count)) below in
    let own : length (gaps_in (word_in bytes)) ≡ count_of (word_in bytes % 16) = ap length f.values ∙ length-take-le (count_of (word_in bytes % 16)) gaps f.few in
    let some = count_some (word_in bytes % 16) (omega arith) in
    let same : least_behind least (gaps_in (word_in bytes)) ≡ least_behind least (take (count_of (word_in bytes % 16)) gaps) = ap (least_behind least) f.values in
    let first = word_ok d least (suc left) bytes f.long (omega (arith, f.few, count)) (omega (arith, same, behind_first_gaps least (count_of (word_in bytes % 16)) gaps f.few, low)) in
    let behind = ap (λ least. least_behind least (drop (count_of (word_in bytes % 16)) gaps)) same ∙ behind_both least (count_of (word_in bytes % 16)) gaps f.few in
    let rest = spelled_read n d (least_behind least (gaps_in (word_in bytes))) (suc left - length (gaps_in (word_in bytes))) (drop (count_of (word_in bytes % 16)) gaps) (drop 8 bytes) f.rest
    (omega (arith, length-drop (count_of (word_in bytes % 16)) gaps, count, own)) (omega (arith, few, own, some)) (Below-drop (2 ^ 26) (count_of (word_in bytes % 16)) gaps below) (omega (arith, behind, low)) in
    read_one (suc n) n d least (suc left) bytes refl (omega arith) ∙ ap (λ r. r >>= behind_first n d least (suc left) bytes) first ∙ ap (λ r. r >>= with_front (gaps_in (word_in bytes))) rest
    ∙ ap (λ (gs : List ℕ). let r : Read = Ok gs in r) (ap (λ (front : List ℕ). front ++ drop (count_of (word_in bytes % 16)) gaps) f.values ∙ take-append-drop (count_of (word_in bytes % 16)) gaps)

pub payload_read : (d count : ℕ) (docs bytes : List ℕ) → AreDocs d docs → length docs ≡ count → bytes ≡ simple8_of docs → read_simple8 d count bytes ≡ Ok docs
unfolding read_simple8
payload_read d count docs bytes are long is =
    let again = docs_again docs are.rising in
    let below : Below d (docs_from 0 (gaps_of docs)) = subst (Below d) (sym again) (below_from_All d d docs (omega arith) are.below) in
    let low = behind_below d 0 (gaps_of docs) (omega arith) below in
    let read = spelled_read count d 0 count (gaps_of docs) bytes is (length-gaps_from 0 docs ∙ long) (omega arith) (docs_gaps_below d docs are) low in
    let same : bytes_eq bytes (spelled_words (gaps_of docs)) ≡ true = (bytes_eq-Decides bytes (spelled_words (gaps_of docs))).1 is in
    rw read (rw (same, again) refl)

-- ---- only

docs_rise : (least : ℕ) (gaps : List ℕ) (k : ℕ) → suc k < length gaps → slice_index (docs_from least gaps) k < slice_index (docs_from least gaps) (suc k)
docs_rise least [] k within = absurd (omega arith)
docs_rise least (gap ∷ []) k within = absurd (omega arith)
docs_rise least (gap ∷ next ∷ gaps) zero within = omega arith
docs_rise least (gap ∷ next ∷ gaps) (suc k) within = docs_rise (least + gap + 1) (next ∷ gaps) k (omega arith)

docs_rising : (least : ℕ) (gaps : List ℕ) → IsStrictlyIncreasing (docs_from least gaps)
docs_rising least gaps = λ k within. let e : k + 1 ≡ suc k = omega arith in rw e (docs_rise least gaps k (omega (arith, within, length-docs_from least gaps)))

pub read_payload : (d count : ℕ) (docs bytes : List ℕ) → 1 ≤ count → d ≤ 2 ^ 26 → read_simple8 d count bytes ≡ Ok docs → AreDocs d docs × (length docs ≡ count) × (bytes ≡ simple8_of docs)
unfolding read_simple8
read_payload d count docs bytes some limit is =
    let x = bound (read_words count d 0 count bytes) (λ gaps. cond (bytes_eq bytes (spelled_words gaps)) (Ok (docs_from 0 gaps)) (Err Shape)) docs is in
    let r = words_read count d 0 count bytes x.0 (omega arith) x.1 in
    let t = if_ok (bytes_eq bytes (spelled_words x.0)) (Ok (docs_from 0 x.0)) Shape docs x.2 in
    let same = ok_same (docs_from 0 x.0) docs t.1 in
    let spelled : bytes ≡ spelled_words x.0 = (bytes_eq-Decides bytes (spelled_words x.0)).0 t.0 in
    let long : length docs ≡ count = ap length (sym same) ∙ length-docs_from 0 x.0 ∙ r.count in
    let again : gaps_of docs ≡ x.0 = ap (gaps_from 0) (sym same) ∙ gaps_again 0 x.0 in (
      record {
        some = omega (arith, long, some);
        rising = subst IsStrictlyIncreasing same (docs_rising 0 x.0);
        below = subst (All (λ doc. doc < d)) same (All-from_below d (docs_from 0 x.0) r.below);
        limit = limit;
      },
      long,
      spelled ∙ ap spelled_words (sym again),
    )
