-- What a cursor gives before and after it moves.
use Rattle.shared_lemmas.proofs.Common.{◌≡◌, ◌↔◌, ℕ, zero, suc, ◌+◌, ◌-◌, ◌/◌, ◌%◌, ◌^◌, ◌<◌, ◌≤◌, List, [], ◌∷◌, ◌++◌, length, take, drop, replicate, refl, sym, ap, subst, ◌∙◌, arith, take-append-drop, drop-drop, length-drop, length-replicate, take-replicate, drop-replicate, take-append-le}
use Rattle.shared_lemmas.proofs.Common.{drop-append-le, length-take-le, length-take, nil_from_length, All-take, All-drop, sum_by-cons, mod-eq_of_lt, mod-lt, mod-one}
use Rattle.std.proofs.Common.{length-append, take-add}
use Rattle.jass_base.specs.Codecs.{HandsOver}
use Rattle.jass_base.specs.Gaps.{docs_from}
use Rattle.codec_simple8.specs.declared.cursor.Cursor.{Cursor}
use Rattle.codec_simple8.specs.Cursor.{Gives}
use Rattle.codec_simple8.specs.Private.Cursor.{Moved}
use Rattle.codec_simple8.specs.Simple8.{count_of, width_of, fields, gaps_in, word_in, least_behind}
use Rattle.codec_simple8.proofs.Digits.{Below, Below-head}
use Rattle.codec_simple8.proofs.Docs.{docs_first, docs_later, docs_gaps, behind_below, zeros_behind}
use Rattle.codec_simple8.proofs.GapLists.{below_from_All}
use Rattle.codec_simple8.proofs.Tables.{count_some, last_count, last_only, last_width}
use Rattle.codec_simple8.proofs.Words.{front_word, FrontWord}

-- ---- gaps of 0

zeros_first : (n z : ℕ) (gaps : List ℕ) → n ≤ z → take n (replicate z 0 ++ gaps) ≡ replicate n 0
zeros_first n z gaps within =
    let nought : ℕ = 0 in
    take-append-le n (replicate z 0) gaps (omega (arith, length-replicate z nought)) ∙ take-replicate n z 0 within

zeros_later : (n z : ℕ) (gaps : List ℕ) → n ≤ z → drop n (replicate z 0 ++ gaps) ≡ replicate (z - n) 0 ++ gaps
zeros_later n z gaps within =
    let nought : ℕ = 0 in
    drop-append-le n (replicate z 0) gaps (omega (arith, length-replicate z nought)) ∙ ap (λ (zs : List ℕ). zs ++ gaps) (drop-replicate n z 0)

zeros_enough : (n z : ℕ) (gaps : List ℕ) → n ≤ z → n ≤ length (replicate z 0 ++ gaps)
zeros_enough n z gaps within = let nought : ℕ = 0 in omega (arith, length-append (replicate z nought) gaps, length-replicate z nought)

-- the cursor behind n of the gaps of 0 that it held
abbrev pub behind_zeros : Cursor → ℕ → Cursor
behind_zeros c n = record { at = c.at; left = c.left; least = c.least + n; zeros = c.zeros - n }

zeros_given : (c : Cursor) (n : ℕ) (bytes docs : List ℕ) → n ≤ c.zeros → Gives c bytes docs → Gives (behind_zeros c n) bytes (drop n docs)
zeros_given c n bytes docs within g = record {
  gaps = g.gaps;
  docs_are = ap (drop n) g.docs_are ∙ docs_later c.least n (replicate c.zeros 0 ++ g.gaps) (zeros_enough n c.zeros g.gaps within)
      ∙ ap (λ (front : List ℕ). docs_from (least_behind c.least front) (drop n (replicate c.zeros 0 ++ g.gaps))) (zeros_first n c.zeros g.gaps within)
      ∙ ap (λ (least : ℕ). docs_from least (drop n (replicate c.zeros 0 ++ g.gaps))) (zeros_behind c.least n)
      ∙ ap (docs_from (c.least + n)) (zeros_later n c.zeros g.gaps within);
  words = g.words;
  left = g.left;
  below = All-drop (λ doc. doc < 2 ^ 26) n docs g.below;
}

zeros_docs : (c : Cursor) (n : ℕ) (bytes docs : List ℕ) → n ≤ c.zeros → Gives c bytes docs → take n docs ≡ docs_from c.least (replicate n 0)
zeros_docs c n bytes docs within g =
    ap (take n) g.docs_are ∙ docs_first c.least n (replicate c.zeros 0 ++ g.gaps) (zeros_enough n c.zeros g.gaps within)
    ∙ ap (docs_from c.least) (zeros_first n c.zeros g.gaps within)

pub moved_zeros : (c : Cursor) (n filled : ℕ) (bytes before after : List ℕ) → n ≤ c.zeros → filled + n ≤ 128 → (filled + n < 128 → n ≡ c.zeros)
    → take (filled + n) after ≡ take filled before ++ docs_from c.least (replicate n 0) → Moved c (behind_zeros c n) bytes filled (filled + n) before after
moved_zeros c n filled bytes before after within room all put =
    let written : filled + n - filled ≡ n = omega arith in record {
      from = omega arith;
      most = room;
      docs = λ docs g. rw written (put ∙ ap (λ (ds : List ℕ). take filled before ++ ds) (sym (zeros_docs c n bytes docs within g)));
      rest = λ docs g. rw written (zeros_given c n bytes docs within g);
      zeros = λ less. omega (arith, all less);
    }

-- and there is room for them
pub zeros_fit : (c : Cursor) (n : ℕ) (bytes docs : List ℕ) → 0 < c.zeros → n ≤ c.zeros → Gives c bytes docs → c.least + n ≤ 2 ^ 26
zeros_fit c n bytes docs some within g =
    let low : Below (2 ^ 26) (docs_from c.least (replicate n 0)) =
    subst (Below (2 ^ 26)) (zeros_docs c n bytes docs within g) (below_from_All (2 ^ 26) (2 ^ 26) (take n docs) (omega arith) (All-take (λ doc. doc < 2 ^ 26) n docs g.below)) in
    let one : Below (2 ^ 26) (docs_from c.least (replicate 1 0)) =
    subst (Below (2 ^ 26)) (zeros_docs c 1 bytes docs (omega arith) g) (below_from_All (2 ^ 26) (2 ^ 26) (take 1 docs) (omega arith) (All-take (λ doc. doc < 2 ^ 26) 1 docs g.below)) in
    let first = Below-head (2 ^ 26) (c.least + 0) [] one in
    omega (arith, zeros_behind c.least n, behind_below (2 ^ 26) c.least (replicate n 0) (omega (arith, first)) low)

-- ---- a word

-- the word that comes next
abbrev pub next_word : Cursor → List ℕ → ℕ
next_word c bytes = word_in (drop c.at bytes)

-- the cursor behind that word
abbrev pub behind_word : Cursor → List ℕ → Cursor
behind_word c bytes = record { at = c.at + 8; left = c.left - count_of (next_word c bytes % 16); least = least_behind c.least (gaps_in (next_word c bytes)); zeros = c.zeros }

-- the cursor that holds the gaps of that word, all of them 0
abbrev pub holding_word : Cursor → List ℕ → Cursor
holding_word c bytes = record { at = c.at + 8; left = c.left - count_of (next_word c bytes % 16); least = c.least; zeros = count_of (next_word c bytes % 16) }

-- with no gap of 0 held, the gaps are those of the words
pub given_gaps : (c : Cursor) (bytes docs : List ℕ) → c.zeros ≡ 0 → (g : Gives c bytes docs) → docs ≡ docs_from c.least g.gaps
given_gaps c bytes docs none g = g.docs_are ∙ ap (λ z. docs_from c.least (replicate z 0 ++ g.gaps)) none

pub given_below : (c : Cursor) (bytes docs : List ℕ) → c.zeros ≡ 0 → (g : Gives c bytes docs) → Below (2 ^ 26) (docs_from c.least g.gaps)
given_below c bytes docs none g = subst (Below (2 ^ 26)) (given_gaps c bytes docs none g) (below_from_All (2 ^ 26) (2 ^ 26) docs (omega arith) g.below)

pub given_word : (c : Cursor) (bytes docs : List ℕ) → c.zeros ≡ 0 → 0 < c.left → (g : Gives c bytes docs) → FrontWord (drop c.at bytes) g.gaps (next_word c bytes)
given_word c bytes docs none some g =
    front_word (drop c.at bytes) g.gaps g.words (omega (arith, g.left, some)) (docs_gaps (2 ^ 26) c.least g.gaps (given_below c bytes docs none g))

-- the least next document is in range
pub given_least : (c : Cursor) (bytes docs : List ℕ) → c.zeros ≡ 0 → 0 < c.left → Gives c bytes docs → c.least ≤ 2 ^ 26
given_least c bytes docs none some g = go g.gaps g.left (given_below c bytes docs none g)
  where
    go : (gaps : List ℕ) → c.left ≡ length gaps → Below (2 ^ 26) (docs_from c.least gaps) → c.least ≤ 2 ^ 26
    go [] left all = absurd (omega (arith, some, left))
    go (gap ∷ gaps) left all = omega (arith, Below-head (2 ^ 26) (c.least + gap) (docs_from (c.least + gap + 1) gaps) all)

pub word_docs : (c : Cursor) (bytes docs : List ℕ) → c.zeros ≡ 0 → 0 < c.left → Gives c bytes docs → take (count_of (next_word c bytes % 16)) docs ≡ docs_from c.least (gaps_in (next_word c bytes))
word_docs c bytes docs none some g =
    let w = given_word c bytes docs none some g in
    ap (take (count_of (next_word c bytes % 16))) (given_gaps c bytes docs none g) ∙ docs_first c.least (count_of (next_word c bytes % 16)) g.gaps w.few ∙ ap (docs_from c.least) (sym w.values)

pub word_given : (c : Cursor) (bytes docs : List ℕ) → c.zeros ≡ 0 → 0 < c.left → Gives c bytes docs → Gives (behind_word c bytes) bytes (drop (count_of (next_word c bytes % 16)) docs)
word_given c bytes docs none some g =
    let w = given_word c bytes docs none some g in record {
      gaps = drop (count_of (next_word c bytes % 16)) g.gaps;
      docs_are = ap (drop (count_of (next_word c bytes % 16))) (given_gaps c bytes docs none g) ∙ docs_later c.least (count_of (next_word c bytes % 16)) g.gaps w.few
          ∙ ap (λ (front : List ℕ). docs_from (least_behind c.least front) (drop (count_of (next_word c bytes % 16)) g.gaps)) (sym w.values)
          ∙ ap (λ z. docs_from (least_behind c.least (gaps_in (next_word c bytes))) (replicate z 0 ++ drop (count_of (next_word c bytes % 16)) g.gaps)) (sym none);
      words = sym (drop-drop 8 c.at bytes) ∙ w.rest;
      left = omega (arith, g.left, length-drop (count_of (next_word c bytes % 16)) g.gaps);
      below = All-drop (λ doc. doc < 2 ^ 26) (count_of (next_word c bytes % 16)) docs g.below;
    }

no_bits : (n x : ℕ) → fields 0 n x ≡ replicate n 0
unfolding fields
no_bits zero x = refl
no_bits (suc n) x = rw (mod-one x) (ap (λ (zs : List ℕ). 0 ∷ zs) (no_bits n (x / 1)))

flat_gaps : (word : ℕ) → width_of (word % 16) ≡ 0 → gaps_in word ≡ replicate (count_of (word % 16)) 0
unfolding gaps_in
flat_gaps word flat = ap (λ width. fields width (count_of (word % 16)) (word / 16)) flat ∙ no_bits (count_of (word % 16)) (word / 16)

pub word_held : (c : Cursor) (bytes docs : List ℕ) → c.zeros ≡ 0 → 0 < c.left → width_of (next_word c bytes % 16) ≡ 0 → Gives c bytes docs → Gives (holding_word c bytes) bytes docs
word_held c bytes docs none some flat g =
    let w = given_word c bytes docs none some g in
    let zeros : take (count_of (next_word c bytes % 16)) g.gaps ≡ replicate (count_of (next_word c bytes % 16)) 0 = sym w.values ∙ flat_gaps (next_word c bytes) flat in
    let parts : g.gaps ≡ replicate (count_of (next_word c bytes % 16)) 0 ++ drop (count_of (next_word c bytes % 16)) g.gaps =
    sym (take-append-drop (count_of (next_word c bytes % 16)) g.gaps) ∙ ap (λ (front : List ℕ). front ++ drop (count_of (next_word c bytes % 16)) g.gaps) zeros in
    record {
      gaps = drop (count_of (next_word c bytes % 16)) g.gaps;
      docs_are = given_gaps c bytes docs none g ∙ ap (docs_from c.least) parts;
      words = sym (drop-drop 8 c.at bytes) ∙ w.rest;
      left = omega (arith, g.left, length-drop (count_of (next_word c bytes % 16)) g.gaps);
      below = g.below;
    }

pub moved_word : (c : Cursor) (filled : ℕ) (bytes before after : List ℕ) → c.zeros ≡ 0 → 0 < c.left → filled + count_of (next_word c bytes % 16) ≤ 128
    → take (filled + count_of (next_word c bytes % 16)) after ≡ take filled before ++ docs_from c.least (gaps_in (next_word c bytes))
    → Moved c (behind_word c bytes) bytes filled (filled + count_of (next_word c bytes % 16)) before after
moved_word c filled bytes before after none some room put =
    let written : filled + count_of (next_word c bytes % 16) - filled ≡ count_of (next_word c bytes % 16) = omega arith in record {
      from = omega arith;
      most = room;
      docs = λ docs g. rw written (put ∙ ap (λ (ds : List ℕ). take filled before ++ ds) (sym (word_docs c bytes docs none some g)));
      rest = λ docs g. rw written (word_given c bytes docs none some g);
      zeros = λ less. none;
    }

-- a cursor that holds the gaps of the word gives the same
pub moved_held : (c new : Cursor) (filled result : ℕ) (bytes before after : List ℕ) → c.zeros ≡ 0 → 0 < c.left → width_of (next_word c bytes % 16) ≡ 0
    → Moved (holding_word c bytes) new bytes filled result before after → Moved c new bytes filled result before after
moved_held c new filled result bytes before after none some flat moved = record {
  from = moved.from;
  most = moved.most;
  docs = λ docs g. moved.docs docs (word_held c bytes docs none some flat g);
  rest = λ docs g. moved.rest docs (word_held c bytes docs none some flat g);
  zeros = moved.zeros;
}

-- ---- the one document that is left

pub record Last (c : Cursor) (bytes : List ℕ) : Type 0 where
  pub one : count_of (next_word c bytes % 16) ≡ 1
  pub gap : gaps_in (next_word c bytes) ≡ next_word c bytes / 16 ∷ []
  pub low : c.least + next_word c bytes / 16 < 2 ^ 26

one_gap : (word : ℕ) → word % 16 ≡ 15 → word < 2 ^ 64 → gaps_in word ≡ word / 16 ∷ []
unfolding gaps_in fields
one_gap word last fits =
    let small : word / 16 < 2 ^ 60 = omega (arith, fits) in
    let whole : word / 16 % 2 ^ 60 ≡ word / 16 = mod-eq_of_lt small in
    rw (last, last_count, last_width) (ap (λ gap. gap ∷ []) whole)

pub last_word : (c : Cursor) (bytes docs : List ℕ) → c.zeros ≡ 0 → c.left ≡ 1 → next_word c bytes < 2 ^ 64 → Gives c bytes docs → Last c bytes
last_word c bytes docs none last fits g =
    let some : 0 < c.left = omega (arith, last) in
    let w = given_word c bytes docs none some g in
    let small : next_word c bytes % 16 < 16 = mod-lt (next_word c bytes) (omega arith) in
    let few : count_of (next_word c bytes % 16) ≤ 1 = omega (arith, w.few, g.left, last) in
    let gap = one_gap (next_word c bytes) (last_only (next_word c bytes % 16) small few) fits in
    let first = word_docs c bytes docs none some g ∙ ap (docs_from c.least) gap in
    record {
      one = omega (arith, few, count_some (next_word c bytes % 16) small);
      gap = gap;
      low = Below-head (2 ^ 26) (c.least + next_word c bytes / 16) [] (subst (Below (2 ^ 26)) first
          (below_from_All (2 ^ 26) (2 ^ 26) (take (count_of (next_word c bytes % 16)) docs) (omega arith) (All-take (λ doc. doc < 2 ^ 26) (count_of (next_word c bytes % 16)) docs g.below)));
    }

pub moved_last : (c : Cursor) (bytes before after : List ℕ) → c.zeros ≡ 0 → c.left ≡ 1 → Last c bytes → take 1 after ≡ (c.least + next_word c bytes / 16) ∷ []
    → Moved c (record { at = c.at + 8; left = 0; least = c.least + next_word c bytes / 16 + 1; zeros = 0 }) bytes 0 1 before after
moved_last c bytes before after none last l put =
    reached 1 0 (c.least + next_word c bytes / 16 + 1) 0 (sym l.one) (omega (arith, last, l.one)) (omega (arith, behind)) (sym none)
  where
    some : 0 < c.left
    some = omega (arith, last)

    behind : least_behind c.least (gaps_in (next_word c bytes)) ≡ c.least + next_word c bytes / 16 + 1
    behind = ap (least_behind c.least) l.gap ∙ (let e : least_behind c.least (next_word c bytes / 16 ∷ []) ≡ c.least + next_word c bytes / 16 + 1 = omega (arith, sum_by-cons (λ x. x) (next_word c bytes / 16) []) in e)

    written : take (0 + count_of (next_word c bytes % 16)) after ≡ take 0 before ++ docs_from c.least (gaps_in (next_word c bytes))
    written = ap (λ n. take n after) (let e : 0 + count_of (next_word c bytes % 16) ≡ 1 = omega (arith, l.one) in e) ∙ put ∙ ap (docs_from c.least) (sym l.gap)

    reached : (count left least held : ℕ) → count ≡ count_of (next_word c bytes % 16) → left ≡ c.left - count_of (next_word c bytes % 16) → least ≡ least_behind c.least (gaps_in (next_word c bytes)) → held ≡ c.zeros
        → Moved c (record { at = c.at + 8; left = left; least = least; zeros = held }) bytes 0 (0 + count) before after
    reached count left least held count_is left_is least_is held_is =
        rw (count_is, left_is, least_is, held_is) (moved_word c 0 bytes before after none some (omega (arith, l.one)) written)

-- ---- one move after the other

pub moved_both : (a b c : Cursor) (bytes : List ℕ) (filled result : ℕ) (before mid after : List ℕ) → Moved a b bytes 0 filled before mid → Moved b c bytes filled result mid after → Moved a c bytes 0 result before after
moved_both a b c bytes filled result before mid after first second = record {
  from = omega arith;
  most = second.most;
  docs = λ docs g. second.docs (drop (filled - 0) docs) (first.rest docs g) ∙ ap (λ (front : List ℕ). front ++ take (result - filled) (drop (filled - 0) docs)) (first.docs docs g) ∙ joined docs;
  rest = λ docs g. subst (Gives c bytes) (drop-drop (result - filled) (filled - 0) docs ∙ ap (λ n. drop n docs) reached) (second.rest (drop (filled - 0) docs) (first.rest docs g));
  zeros = second.zeros;
}
  where
    reached : filled - 0 + (result - filled) ≡ result - 0
    reached = omega (arith, second.from)

    joined : (docs : List ℕ) → take (filled - 0) docs ++ take (result - filled) (drop (filled - 0) docs) ≡ take (result - 0) docs
    joined docs = sym (take-add (filled - 0) (result - filled) docs) ∙ ap (λ n. take n docs) reached

-- where nothing is left, and no gap of 0 is held, there is no document
pub none_given : (c : Cursor) (bytes docs : List ℕ) → c.zeros ≡ 0 → c.left ≡ 0 → Gives c bytes docs → docs ≡ []
none_given c bytes docs none done g = given_gaps c bytes docs none g ∙ ap (docs_from c.least) (nil_from_length g.gaps (sym g.left ∙ done))

-- what a move from an empty block hands over
pub handed_over : (old new : Cursor) (bytes : List ℕ) (filled : ℕ) (before after : List ℕ) → Moved old new bytes 0 filled before after
    → ((docs : List ℕ) → Gives old bytes docs → (filled ≡ 0) ↔ (docs ≡ [])) → HandsOver Gives old new bytes after filled
handed_over old new bytes filled before after moved ends =
    let whole : filled - 0 ≡ filled = omega arith in
    record {
      most = moved.most;
      block = λ docs g. moved.docs docs g ∙ ap (λ n. take n docs) whole;
      rest = λ docs g. subst (λ n. Gives new bytes (drop n docs)) whole (moved.rest docs g);
      end = ends;
    }

-- what was given is of the documents
pub given_end : (filled : ℕ) (before after docs : List ℕ) → filled ≤ length after → take filled after ≡ take 0 before ++ take (filled - 0) docs → docs ≡ [] → filled ≡ 0
given_end filled before after docs within put none =
    omega (arith, ap length put, length-take (filled - 0) docs, ap length none, length-take-le filled after within, ap length (ap (take (filled - 0)) none))
