-- Heads in words: what a word tells, and what it still tells when heads are put aside.
use Rattle.shared_lemmas.proofs.Common.{◌≡◌, ◌<◌, ◌≤◌, ◌+◌, ◌-◌, ◌*◌, ◌/◌, ◌%◌, ◌^◌, Bool, true, false, nat_lt, ℕ, suc, List, [], ◌∷◌, ◌++◌, length, map, All, ap, ap₂, ◌∙◌, sym, subst, refl, arith, length-map, length-append, All-push, append-nil, map-append, map_push, get_or-append, get_or-append_seam, lt-ltb, ltb-false, ltb-true}
use Rattle.std.specs.Option.{unwrap_or}
use Rattle.segment_codecs.specs.Codecs.{codec_number, codec_of}
use Rattle.segment_codecs.specs.declared.codec.Codec.TheVariants.{Packed, Bitmap, Simple8}
use Rattle.index_file.proofs.Below.{Codec, Varbyte, HeadData}
use Rattle.index_file.specs.declared.segment_head.SegmentHead.{SegmentHead}
use Rattle.index_file.specs.Parts.{told}
use Rattle.index_file.specs.Private.HeadWords.{IsWord, all_told, head_of_word, heads_of_words, unpacked}
use Rattle.index_file.specs.Private.Tables.{head_at}

codec_back : (codec : Codec) → unwrap_or (codec_of (codec_number codec)) Varbyte ≡ codec
codec_back Varbyte = refl
codec_back Packed = refl
codec_back Bitmap = refl
codec_back Simple8 = refl

-- a word made of the four numbers of a head tells that head
module _ (impact count size number : ℕ) (few : impact < 1024) (short : count < 512) (small : size < 1024) where
  abbrev word : ℕ
  word = impact + 1024 * count + 524288 * size + 536870912 * number

  impact_is : word % 1024 ≡ impact
  impact_is = omega (arith, few)

  count_is : word / 1024 % 512 ≡ count
  count_is = omega (arith, few, short)

  size_is : word / 524288 % 1024 ≡ size
  size_is = omega (arith, few, short, small)

  number_is : word / 536870912 ≡ number
  number_is = omega (arith, few, short, small)

pub packed_back : (h : SegmentHead) (number word : ℕ) → h.impact < 1024 → h.count < 512 → h.size < 1024 → number ≡ codec_number h.codec
    → word ≡ h.impact + 1024 * h.count + 524288 * h.size + 536870912 * number → unpacked word ≡ told h
unfolding unpacked
packed_back h number word few short small is sum =
    rw (
      sum,
      impact_is h.impact h.count h.size number few short small,
      count_is h.impact h.count h.size number few short small,
      size_is h.impact h.count h.size number few short small,
      number_is h.impact h.count h.size number few short small,
      is,
      codec_back h.codec,
    ) refl

-- what a word tells stays when heads are put aside behind the others
word_stays : (aside more : List SegmentHead) (word : ℕ) → IsWord (length aside) word → head_of_word (all_told (aside ++ more)) word ≡ head_of_word (all_told aside) word
word_stays aside more word is = by_test (nat_lt word (2 ^ 31)) refl
  where
    by_test : (b : Bool) → nat_lt word (2 ^ 31) ≡ b → head_of_word (all_told (aside ++ more)) word ≡ head_of_word (all_told aside) word
    by_test true e = rw e refl
    by_test false e =
        let over : 2 ^ 31 ≤ word = ltb-false word (2 ^ 31) e in
        let size = length-map aside told in
        rw e (ap (λ (heads : List HeadData). head_at heads (word - 2 ^ 31)) (map-append told aside more)
        ∙ get_or-append (map told aside) (map told more) (record { impact = 0; count = 0; codec = Varbyte; size = 0 }) (word - 2 ^ 31) (omega (arith, is, over, size)))

words_stay : (aside more : List SegmentHead) (words : List ℕ) → All (IsWord (length aside)) words → heads_of_words (all_told (aside ++ more)) words ≡ heads_of_words (all_told aside) words
words_stay aside more [] are = refl
words_stay aside more (word ∷ words) are =
    ap₂ (λ (h : HeadData) (heads : List HeadData). h ∷ heads) (word_stays aside more word (are 0 0 (omega arith)))
    (words_stay aside more words (λ k d inside. are (suc k) d (omega (arith, inside))))

-- one head more: some heads come to stand aside behind the others, and a word tells the new one
pub record IsNext (aside later : List SegmentHead) (word : ℕ) (h : HeadData) : Type 0 where
  pub more : List SegmentHead
  pub put : later ≡ aside ++ more
  pub is : IsWord (length later) word
  pub tells : head_of_word (all_told later) word ≡ h

-- the word has the head in itself
pub own_next : (aside later : List SegmentHead) (word own : ℕ) (h : HeadData) → later ≡ aside → word ≡ own → own < 2 ^ 31 → unpacked own ≡ h → IsNext aside later word h
own_next aside later word own h same alike small is =
    let low = lt-ltb own (2 ^ 31) small in
    record {
      more = [];
      put = same ∙ sym (append-nil aside);
      is = omega (arith, alike, small);
      tells = rw (alike, low) is;
    }

-- the head is put aside
pub aside_next : (aside later : List SegmentHead) (word : ℕ) (h : SegmentHead) → later ≡ aside ++ h ∷ [] → word ≡ 2 ^ 31 + length aside → IsNext aside later word (told h)
aside_next aside later word h put alike =
    let size = ap length put ∙ length-append aside (h ∷ []) in
    record {
      more = h ∷ [];
      put = put;
      is = omega (arith, alike, size);
      tells = ap₂ (λ (later : List SegmentHead) (word : ℕ). head_of_word (all_told later) word) put alike ∙ by_test (nat_lt (2 ^ 31 + length aside) (2 ^ 31)) refl;
    }
  where
    by_test : (b : Bool) → nat_lt (2 ^ 31 + length aside) (2 ^ 31) ≡ b → head_of_word (all_told (aside ++ h ∷ [])) (2 ^ 31 + length aside) ≡ told h
    by_test true e = absurd (omega (arith, ltb-true (2 ^ 31 + length aside) (2 ^ 31) e))
    by_test false e =
        let size = length-map aside told in
        let at : 2 ^ 31 + length aside - 2 ^ 31 ≡ length (map told aside) = omega (arith, size) in
        rw e (ap (head_at (all_told (aside ++ h ∷ []))) at
        ∙ ap (λ (heads : List HeadData). head_at heads (length (map told aside))) (map-append told aside (h ∷ []))
        ∙ get_or-append_seam (map told aside) (told h) [] (record { impact = 0; count = 0; codec = Varbyte; size = 0 }))

-- the words with one more tell the heads with the new one
pub heads_push : (aside later : List SegmentHead) (words newer : List ℕ) (word : ℕ) (h : HeadData) → All (IsWord (length aside)) words → newer ≡ words ++ word ∷ [] → IsNext aside later word h
    → heads_of_words (all_told later) newer ≡ heads_of_words (all_told aside) words ++ h ∷ []
heads_push aside later words newer word h are more next =
    ap (heads_of_words (all_told later)) more ∙ map_push (head_of_word (all_told later)) words word
    ∙ ap₂ (λ (heads : List HeadData) (last : HeadData). heads ++ last ∷ [])
    (ap (λ (later : List SegmentHead). heads_of_words (all_told later) words) next.put ∙ words_stay aside next.more words are) next.tells

-- and none of them tells a head behind those aside
pub words_push : (aside later : List SegmentHead) (words newer : List ℕ) (word : ℕ) (h : HeadData) → All (IsWord (length aside)) words → newer ≡ words ++ word ∷ [] → IsNext aside later word h
    → All (IsWord (length later)) newer
words_push aside later words newer word h are more next =
    let wider = ap length next.put ∙ length-append aside next.more in
    subst (All (IsWord (length later))) (sym more) (All-push (IsWord (length later)) words word
    (λ k d inside. (let is = are k d inside in omega (arith, is, wider))) next.is)
