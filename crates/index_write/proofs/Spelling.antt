-- Terms with their heads, and one more behind them; the parts of a file.
use Rattle.shared_lemmas.proofs.Common.{◌≡◌, ℕ, ◌+◌, ◌-◌, ◌≤◌, ◌^◌, List, [], ◌∷◌, ◌++◌, length, ap, ap₂, sym, ◌∙◌, refl, arith, append-nil, append_assoc, max, min, sum_by, sum_by-append, flat_map-append, length-append}
use Rattle.index_write.proofs.Below.{HeadData, Totals, all_heads, file_length, front_bytes, greatest_impact, greatest_joins, greatest_of, head_postings, heads_bytes, names_bytes, term_bytes, terms_bytes, u32_bytes}
use Rattle.index_layout.specs.Heads.{TermHeads as EntryData}
use Rattle.index_layout.specs.Layout.{front_bytes, totals_bytes}
use Rattle.index_write.specs.Private.Front.{first_bytes}
use Rattle.index_write.specs.Spelled.{AreFew, AreSpelled, HasNames, HasParts, NamesView, SpelledView, last_term}
use Rattle.index_write.specs.Streaming.{entries_totals}
use Rattle.index_write.proofs.Entries.{count_of}
use Rattle.index_write.proofs.Joining.{entries_first}
use Rattle.index_write.proofs.Streamed.{same_totals}

-- the bytes of one term with its heads, behind a term
abbrev part_of : List ℕ → EntryData → List ℕ
part_of before t = term_bytes before t.term ++ (u32_bytes (length t.heads) ++ heads_bytes t.heads)

terms_more : (before : List ℕ) (entries : List EntryData) (t : EntryData) → terms_bytes before (entries ++ t ∷ []) ≡ terms_bytes before entries ++ part_of (last_term before entries) t
terms_more before [] t = append-nil (part_of before t)
terms_more before (e ∷ entries) t =
    ap (λ bytes. part_of before e ++ bytes) (terms_more e.term entries t) ∙ sym (append_assoc (part_of before e) (terms_bytes e.term entries) (part_of (last_term e.term entries) t))

last_more : (before : List ℕ) (entries : List EntryData) (t : EntryData) → last_term before (entries ++ t ∷ []) ≡ t.term
last_more before [] t = refl
last_more before (e ∷ entries) t = last_more e.term entries t

count_more : (entries : List EntryData) (t : EntryData) → length (entries ++ t ∷ []) ≡ length entries + 1
count_more entries t = length-append entries (t ∷ [])

heads_more : (entries : List EntryData) (t : EntryData) → all_heads (entries ++ t ∷ []) ≡ all_heads entries ++ t.heads
heads_more entries t = flat_map-append (λ (t : EntryData). t.heads) entries (t ∷ []) ∙ ap (λ hs. all_heads entries ++ hs) (append-nil t.heads)

postings_more : (entries : List EntryData) (t : EntryData) → head_postings (entries ++ t ∷ []) ≡ head_postings entries + sum_by count_of t.heads
postings_more entries t = ap (sum_by count_of) (heads_more entries t) ∙ sum_by-append count_of (all_heads entries) t.heads

greatest_more : (entries : List EntryData) (t : EntryData) → greatest_impact (entries ++ t ∷ []) ≡ max (greatest_impact entries) (greatest_of t.heads)
greatest_more entries t = ap greatest_of (heads_more entries t) ∙ greatest_joins (all_heads entries) t.heads

-- the bytes of a term, as they are put
pub part_put : (out bytes before last text term : List ℕ) (n : ℕ) (heads : List HeadData) → before ≡ last → text ≡ term → n ≡ length heads → out ≡ bytes ++ (term_bytes before text ++ (u32_bytes n ++ heads_bytes heads))
    → out ≡ bytes ++ part_of last (record { term = term; heads = heads })
part_put out bytes before last text term n heads a b c is = is ∙ rw (a, b, c) refl

-- a part that was put behind a block stands behind the blocks and this one
pub joined_put : (blocks block before last out part : List ℕ) → blocks ++ block ≡ before ++ out → out ≡ last ++ part → blocks ++ block ≡ (before ++ last) ++ part
joined_put blocks block before last out part moved is = moved ∙ ap (λ xs. before ++ xs) is ∙ sym (append_assoc before last part)

pub spelled_more : (old new : SpelledView) (entries : List EntryData) (t : EntryData) → AreSpelled old entries → AreFew (entries ++ t ∷ []) → new.bytes ≡ old.bytes ++ part_of old.last t → new.last ≡ t.term
    → new.terms ≡ min (old.terms + 1) (2 ^ 32 - 1) → new.postings ≡ min (old.postings + sum_by count_of t.heads) (2 ^ 64 - 1) → new.greatest ≡ max old.greatest (greatest_of t.heads)
    → AreSpelled new (entries ++ t ∷ [])
spelled_more old new entries t are few bytes last terms postings greatest =
    let count = count_more entries t in
    let sum = postings_more entries t in
    record {
      bytes = bytes ∙ ap₂ (λ (all before : List ℕ). all ++ part_of before t) are.bytes are.last ∙ sym (terms_more [] entries t);
      last = last ∙ sym (last_more [] entries t);
      terms = omega (arith, terms, are.terms, count, few.terms);
      postings = omega (arith, postings, are.postings, sum, few.postings);
      greatest = greatest ∙ ap (λ n. max n (greatest_of t.heads)) are.greatest ∙ sym (greatest_more entries t);
    }

-- ---- the parts of a file

-- the totals of so many documents and of spelled terms
abbrev totals_with : ℕ → SpelledView → Totals
totals_with docs view = record { docs = docs; terms = view.terms; postings = view.postings; greatest = view.greatest }

module _ (named : NamesView) (names : List (List ℕ)) (view : SpelledView) (entries : List EntryData) (payloads : List ℕ) (spelled : HasNames named names) (parts : HasParts view payloads entries) where
  pub totals_of_parts : (docs : ℕ) (totals : Totals) → docs ≡ named.count → totals ≡ totals_with docs view → totals ≡ entries_totals (length names) entries
  totals_of_parts docs totals count is =
      let are = parts.spelled in
      is ∙ ap (λ n. totals_with n view) (count ∙ spelled.spelled.count)
      ∙ same_totals (length names) view.terms view.postings view.greatest (length entries) (head_postings entries) (greatest_impact entries) are.terms are.postings are.greatest

  -- the length that is judged, which isn't cut where it is that of a file
  pub length_of_parts : (size : ℕ) (second third : List ℕ) → second ≡ named.bytes → third ≡ view.bytes → size ≡ min (40 + length second + length third + length payloads) (2 ^ 64 - 1) → size ≤ 2 ^ 32 → size ≡ file_length names entries
  length_of_parts size second third one two is fits =
      omega (arith, is, fits, ap length one, ap length two, ap length spelled.spelled.bytes, ap length parts.spelled.bytes, parts.sizes)

  pub parts_joined : (docs size : ℕ) (totals : Totals) (first second third : List ℕ) → docs ≡ named.count → totals ≡ totals_with docs view → first ≡ first_bytes size totals → second ≡ named.bytes → third ≡ view.bytes
      → size ≡ min (40 + length second + length third + length payloads) (2 ^ 64 - 1) → size ≤ 2 ^ 32 → first ++ (second ++ (third ++ payloads)) ≡ front_bytes names entries ++ payloads
  unfolding front_bytes
  parts_joined docs size totals first second third count sums is one two len fits =
      ap (λ xs. xs ++ (second ++ (third ++ payloads))) (is ∙ entries_first names entries size totals (length_of_parts size second third one two len fits) (totals_of_parts docs totals count sums))
      ∙ ap₂ (λ (a b : List ℕ). totals_bytes names entries ++ (a ++ (b ++ payloads))) (one ∙ spelled.spelled.bytes) (two ∙ parts.spelled.bytes)
      ∙ ap (λ xs. totals_bytes names entries ++ xs) (sym (append_assoc (names_bytes names) (terms_bytes [] entries) payloads))
      ∙ sym (append_assoc (totals_bytes names entries) (names_bytes names ++ terms_bytes [] entries) payloads)
