-- The first number in which heads differ.
use Rattle.shared_lemmas.proofs.Common.{◌≡◌, ◌<◌, ◌+◌, ℕ, List, [], ◌∷◌, add-one, drop, get_or, length, map, ap, ap₂, sym, ◌∙◌, refl, arith, Option, Some, None, Bool, true, false, ◌==◌, if◌then◌else◌, nat_tests}
use borrow.Author.Tests.{eqb-true}
use Rattle.std.proofs.Math.Seq.{drop-cons}
use Rattle.index_write.proofs.Below.{codec_number, codec_of, Codec, HeadData, Segment, segment_data}
use Rattle.index_write.proofs.Memory.{next_at}
use Rattle.index_write.specs.Chosen.{chosen_head, chosen_heads, head_data}
use Rattle.index_write.specs.Streaming.{change_of, head_change, heads_change, unless_same}
use Rattle.index_write.specs.declared.change.Change.{Change}
use Rattle.index_write.specs.declared.head.PayloadHead.{PayloadHead}

pub same_go_on : (kept found : ℕ) (later : Option Change) → kept ≡ found → unless_same kept found later ≡ later
same_go_on kept found later same = grind (arith, nat_tests, same)

-- no change says that two numbers are the same, and nothing came later
chosen_none : (b : Bool) (later : Option Change) (x : Change) → (if b then later else Some x) ≡ None → (b ≡ true) × (later ≡ None)
chosen_none true later x none = (refl, none)
chosen_none false later x none = cc

agree : (kept found : ℕ) (later : Option Change) → unless_same kept found later ≡ None → (kept ≡ found) × (later ≡ None)
agree kept found later none =
    let both = chosen_none (kept == found) later (record { kept = kept; found = found }) none in
    (eqb-true kept found both.0, both.1)

-- a codec has its number
abbrev pub Numbered : Type 0
Numbered = (codec : Codec) → codec_of (codec_number codec) ≡ Some codec

some_same : (a b : Codec) → Some a ≡ Some b → a ≡ b
some_same a b is = cc

same_codec : Numbered → (a b : Codec) → codec_number a ≡ codec_number b → a ≡ b
same_codec numbered a b same = some_same a b (sym (numbered a) ∙ ap codec_of same ∙ numbered b)

abbrev head_with : (impact count : ℕ) (codec : Codec) (size : ℕ) → HeadData
head_with impact count codec size = record { impact = impact; count = count; codec = codec; size = size }

same_fields : (i c i2 c2 s s2 : ℕ) (k k2 : Codec) → i ≡ i2 → c ≡ c2 → k ≡ k2 → s ≡ s2 → head_with i c k s ≡ head_with i2 c2 k2 s2
same_fields i c i2 c2 s s2 k k2 a b d e = rw (a, b, d, e) refl

head_same : Numbered → (kept found : HeadData) (later : Option Change) → head_change kept found later ≡ None → (kept ≡ found) × (later ≡ None)
head_same numbered kept found later none =
    let sizes = unless_same kept.size found.size later in
    let codecs = unless_same (codec_number kept.codec) (codec_number found.codec) sizes in
    let counts = unless_same kept.count found.count codecs in
    let one = agree kept.impact found.impact counts none in
    let two = agree kept.count found.count codecs one.1 in
    let three = agree (codec_number kept.codec) (codec_number found.codec) sizes two.1 in
    let four = agree kept.size found.size later three.1 in
    (same_fields kept.impact kept.count found.impact found.count kept.size found.size kept.codec found.codec one.0 two.0 (same_codec numbered kept.codec found.codec three.0) four.0, four.1)

same_cons : (a b : HeadData) (xs ys : List HeadData) → a ≡ b → xs ≡ ys → a ∷ xs ≡ b ∷ ys
same_cons a b xs ys one two = rw (one, two) refl

heads_same : Numbered → (kept found : List HeadData) → length kept ≡ length found → heads_change kept found ≡ None → kept ≡ found
heads_same numbered [] [] count none = refl
heads_same numbered [] (f ∷ found) count none = absurd (omega (arith, count))
heads_same numbered (k ∷ kept) [] count none = absurd (omega (arith, count))
heads_same numbered (k ∷ kept) (f ∷ found) count none =
    let here = head_same numbered k f (heads_change kept found) none in
    same_cons k f kept found here.0 (heads_same numbered kept found (omega (arith, count)) here.1)

pub no_change : Numbered → (kept found : List HeadData) → change_of kept found ≡ None → found ≡ kept
unfolding change_of
no_change numbered kept found none =
    let count = agree (length kept) (length found) (heads_change kept found) none in
    sym (heads_same numbered kept found count.0 count.1)

pub head_agrees : (kept found : HeadData) (later : Option Change) → kept.impact ≡ found.impact → kept.count ≡ found.count → codec_number kept.codec ≡ codec_number found.codec → kept.size ≡ found.size → head_change kept found later ≡ later
head_agrees kept found later impact count codec size =
    let sizes = unless_same kept.size found.size later in
    let codecs = unless_same (codec_number kept.codec) (codec_number found.codec) sizes in
    same_go_on kept.impact found.impact (unless_same kept.count found.count codecs) impact ∙ same_go_on kept.count found.count codecs count
    ∙ same_go_on (codec_number kept.codec) (codec_number found.codec) sizes codec ∙ same_go_on kept.size found.size later size

heads_go_on : (heads : List HeadData) → heads_change heads heads ≡ None
heads_go_on [] = refl
heads_go_on (h ∷ heads) = head_agrees h h (heads_change heads heads) refl refl refl refl ∙ heads_go_on heads

pub unchanged : (heads : List HeadData) → change_of heads heads ≡ None
unfolding change_of
unchanged heads = same_go_on (length heads) (length heads) (heads_change heads heads) refl ∙ heads_go_on heads

-- what four tests choose, where nothing comes later, they choose also before what comes later
abbrev first_failed : (a b c d : Bool) (w x y z : Change) → Option Change → Option Change
first_failed a b c d w x y z later = if a then (if b then (if c then (if d then later else Some z) else Some y) else Some x) else Some w

all_passed : (a b c d : Bool) (w x y z : Change) (later : Option Change) → first_failed a b c d w x y z None ≡ None → first_failed a b c d w x y z later ≡ later
all_passed true true true true w x y z later none = refl
all_passed true true true false w x y z later none = absurd (cc)
all_passed true true false d w x y z later none = absurd (cc)
all_passed true false c d w x y z later none = absurd (cc)
all_passed false b c d w x y z later none = absurd (cc)

one_failed : (a b c d : Bool) (w x y z : Change) (later : Option Change) (change : Change) → first_failed a b c d w x y z None ≡ Some change → first_failed a b c d w x y z later ≡ Some change
one_failed true true true true w x y z later change is = absurd (cc)
one_failed true true true false w x y z later change is = is
one_failed true true false d w x y z later change is = is
one_failed true false c d w x y z later change is = is
one_failed false b c d w x y z later change is = is

abbrev both : ℕ → ℕ → Change
both kept found = record { kept = kept; found = found }

pub head_passed : (kept found : HeadData) (later : Option Change) → head_change kept found None ≡ None → head_change kept found later ≡ later
head_passed kept found later none =
    all_passed (kept.impact == found.impact) (kept.count == found.count) (codec_number kept.codec == codec_number found.codec) (kept.size == found.size)
    (both kept.impact found.impact) (both kept.count found.count) (both (codec_number kept.codec) (codec_number found.codec)) (both kept.size found.size) later none

pub head_failed : (kept found : HeadData) (later : Option Change) (change : Change) → head_change kept found None ≡ Some change → head_change kept found later ≡ Some change
head_failed kept found later change is =
    one_failed (kept.impact == found.impact) (kept.count == found.count) (codec_number kept.codec == codec_number found.codec) (kept.size == found.size)
    (both kept.impact found.impact) (both kept.count found.count) (both (codec_number kept.codec) (codec_number found.codec)) (both kept.size found.size) later change is

-- the first difference of heads from one on
pub changes_next : (d : ℕ) (kept : List PayloadHead) (segments : List Segment) (i : ℕ) (k : PayloadHead) (s : Segment) (head : PayloadHead) → i < length kept → i < length segments → s ≡ get_or segments i s
    → head_data head ≡ chosen_head d (segment_data s)
    → heads_change (map head_data (drop i kept)) (chosen_heads d (map segment_data (drop i segments)))
    ≡ head_change (head_data (get_or kept i k)) (head_data head) (heads_change (map head_data (drop (i + 1) kept)) (chosen_heads d (map segment_data (drop (i + 1) segments))))
changes_next d kept segments i k s head here there is made =
    let first : drop i kept ≡ get_or kept i k ∷ drop (i + 1) kept = rw (add-one i) (drop-cons kept i k here) in
    let rest = heads_change (map head_data (drop (i + 1) kept)) (chosen_heads d (map segment_data (drop (i + 1) segments))) in
    ap₂ (λ (hs : List PayloadHead) (ss : List Segment). heads_change (map head_data hs) (chosen_heads d (map segment_data ss))) first (next_at segments segments i s refl there is)
    ∙ ap (λ (found : HeadData). head_change (head_data (get_or kept i k)) found rest) (sym made)
