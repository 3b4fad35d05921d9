-- The payloads of a term's segments, read one after the other, and their groups.
use Rattle.shared_lemmas.proofs.Common.{◌≡◌, ◌<◌, ◌≤◌, ◌+◌, ◌*◌, ◌%◌, ℕ, take, drop, length, slice_index, arith, List, [], ◌∷◌, ◌++◌, Result, Ok, Err, ap, sym, subst, ◌∙◌, refl, inl, inr, cases_lt, flat_map, flat_map-append, drop-append-le, drop_more, drop_of_length-le, append_assoc, length-append, get_or-append, get_or-append_seam, take-length}
use Rattle.std.proofs.lemmas.List.{append-nil}
use Rattle.index_layout.specs.declared.refusal.OpenFault.TheVariants as faults
use Rattle.index_file.proofs.Below.{Fails, OpenFault, SegmentData, OpenRefusal, HeadData, ◌>>=◌, SegmentsRead, docs_in, payload_end, read_segments, with_segments, behind_segments}
use Rattle.index_file.specs.Private.Payloads.{AreGroups, payload_place, segment_in, segments_from}
use Rattle.index_file.specs.Private.Tables.{group_count, head_at}
use Rattle.index_file.specs.Parts.{IsPayloadAt}

pub no_segments : (read : Result SegmentsRead OpenRefusal) → read ≡ with_segments [] read
no_segments (Ok x) = refl
no_segments (Err e) = refl

abbrev pub docs_of : SegmentData → List ℕ
docs_of s = s.docs

-- the head of the next segment, and those behind it
pub segments_ahead : (bytes : List ℕ) (d : ℕ) (total : Result SegmentsRead OpenRefusal) (front : List SegmentData) (heads : List HeadData) (i at : ℕ) → i < length heads
    → total ≡ with_segments front (read_segments bytes d (flat_map docs_of front) (drop i heads) at)
    → total ≡ with_segments front (read_segments bytes d (flat_map docs_of front) (head_at heads i ∷ drop (i + 1) heads) at)
segments_ahead bytes d total front heads i at inside is =
    is ∙ ap (λ left. with_segments front (read_segments bytes d (flat_map docs_of front) left at)) (drop_more heads i (head_at [] 0) inside)

module _ (bytes : List ℕ) (d : ℕ) (total : Result SegmentsRead OpenRefusal) (front : List SegmentData) (head : HeadData) (at : ℕ) where
  abbrev all : List SegmentData
  all = front ++ segment_in bytes d head at ∷ []

  pub all_docs : flat_map docs_of all ≡ flat_map docs_of front ++ docs_in bytes d head at
  unfolding segment_in
  all_docs = flat_map-append docs_of front (segment_in bytes d head at ∷ []) ∙ ap (λ docs. flat_map docs_of front ++ docs) (append-nil (docs_in bytes d head at))

  -- one segment more
  pub segments_on : (rest : List HeadData) (next : ℕ) → total ≡ with_segments front (read_segments bytes d (flat_map docs_of front) (head ∷ rest) at)
      → payload_end bytes d (flat_map docs_of front) head at ≡ Ok next → total ≡ with_segments all (read_segments bytes d (flat_map docs_of all) rest next)
  unfolding segment_in
  segments_on rest next is end =
      let earlier = flat_map docs_of front in
      let docs = docs_in bytes d head at in
      is
      ∙ ap (λ (e : Result ℕ OpenRefusal). with_segments front (e >>= λ next. (read_segments bytes d (earlier ++ docs) rest next >>= λ later.
      Ok (record { segments = record { impact = head.impact; docs = docs } ∷ later.segments; end = later.end })))) end
      ∙ behind_segments front (record { impact = head.impact; docs = docs }) (read_segments bytes d (earlier ++ docs) rest next)
      ∙ ap (λ docs. with_segments all (read_segments bytes d docs rest next)) (sym all_docs)

  pub segments_not : (rest : List HeadData) (fault : OpenFault) → total ≡ with_segments front (read_segments bytes d (flat_map docs_of front) (head ∷ rest) at)
      → Fails fault (payload_end bytes d (flat_map docs_of front) head at) → Fails fault total
  segments_not rest (faults.Refused refusal) is fails =
      let docs = docs_in bytes d head at in
      is ∙ ap (λ (e : Result ℕ OpenRefusal). with_segments front (e >>= λ next. (read_segments bytes d (flat_map docs_of front ++ docs) rest next >>= λ later.
      Ok (record { segments = record { impact = head.impact; docs = docs } ∷ later.segments; end = later.end })))) fails
  segments_not rest faults.ReadFault is fails = fails
  segments_not rest faults.NoMemory is fails = tt

-- no segment more
pub segments_end : (bytes : List ℕ) (d : ℕ) (heads : List HeadData) (from at i : ℕ) → i ≡ length heads
    → read_segments bytes d [] heads from ≡ with_segments (segments_from bytes d (take i heads) from) (read_segments bytes d (flat_map docs_of (segments_from bytes d (take i heads) from)) (drop i heads) at)
    → read_segments bytes d [] heads from ≡ Ok (record { segments = segments_from bytes d heads from; end = at })
segments_end bytes d heads from at i all is =
    let front = segments_from bytes d (take i heads) from in
    let whole : take i heads ≡ heads = ap (λ n. take n heads) all ∙ take-length heads in
    is ∙ ap (λ left. with_segments front (read_segments bytes d (flat_map docs_of front) left at)) (drop_of_length-le heads (omega (arith, all)))
    ∙ ap (λ (segments : List SegmentData). (let r : Result SegmentsRead OpenRefusal = Ok (record { segments = segments; end = at }) in r)) (append-nil front ∙ ap (λ heads. segments_from bytes d heads from) whole)

-- so many payloads are there
abbrev pub PayloadsTill : List ℕ → ℕ → List HeadData → ℕ → ℕ → Type 0
PayloadsTill bytes d heads at k = (s : ℕ) → s < k → IsPayloadAt bytes d (head_at heads s) (payload_place heads at s)

-- one payload more
pub payloads_on : (bytes : List ℕ) (d : ℕ) (heads : List HeadData) (at k : ℕ) → PayloadsTill bytes d heads at k → IsPayloadAt bytes d (head_at heads k) (payload_place heads at k) → PayloadsTill bytes d heads at (k + 1)
payloads_on bytes d heads at k are here s inside = elim (cases_lt s k) [
  | inl l ↦ are s l
  | inr g ↦ (
      let last : k ≡ s = omega (arith, inside, g) in
      subst (λ s. IsPayloadAt bytes d (head_at heads s) (payload_place heads at s)) last here)
]

-- the groups of so many payloads stand behind those of other terms
pub record GroupsTill (heads : List HeadData) (at k : ℕ) (old now : List ℕ) : Type 0 where
  pub kept : now ≡ old ++ drop (length old) now
  pub count : length (drop (length old) now) ≡ group_count k
  pub told : (g : ℕ) → g < group_count k → slice_index (drop (length old) now) g ≡ payload_place heads at (4 * g)

pub groups_end : (heads : List HeadData) (at k : ℕ) (old now : List ℕ) → k ≡ length heads → GroupsTill heads at k old now → AreGroups heads at (drop (length old) now)
groups_end heads at k old now all are = record {
  count = are.count ∙ ap group_count all;
  told = λ g inside. are.told g (let count = are.count in omega (arith, count, inside));
}

-- the groups when the next payload begins one, and when it doesn't
pub groups_pushed : (heads : List HeadData) (at k : ℕ) (old now newer : List ℕ) (place : ℕ) → k % 4 ≡ 0 → place ≡ payload_place heads at k → newer ≡ now ++ place ∷ [] → GroupsTill heads at k old now → GroupsTill heads at (k + 1) old newer
groups_pushed heads at k old now newer place even here put are =
    let within : length old ≤ length now = (let e = ap length are.kept in let f = length-append old (drop (length old) now) in omega (arith, e, f)) in
    let mine = drop (length old) now in
    let rest : drop (length old) newer ≡ mine ++ place ∷ [] = ap (drop (length old)) put ∙ drop-append-le (length old) now (place ∷ []) within in
    let count = are.count in
    let more = length-append mine (place ∷ []) in
    record {
      kept = put ∙ ap (λ xs. xs ++ place ∷ []) are.kept ∙ append_assoc old mine (place ∷ []) ∙ ap (λ xs. old ++ xs) (sym rest);
      count = ap length rest ∙ omega (arith, even, count, more);
      told = λ g inside. ap (λ xs. slice_index xs g) rest ∙ elim (cases_lt g (length mine)) [
        | inl l ↦ get_or-append mine (place ∷ []) 0 g l ∙ are.told g (omega (arith, count, l))
        | inr r ↦ (
            let last : g ≡ length mine = omega (arith, inside, even, count, r) in
            let whole : k ≡ 4 * g = omega (arith, even, count, last) in
            ap (slice_index (mine ++ place ∷ [])) last ∙ get_or-append_seam mine place [] 0 ∙ here ∙ ap (payload_place heads at) whole)
      ];
    }

pub groups_stay : (heads : List HeadData) (at k : ℕ) (old now newer : List ℕ) → 1 ≤ k % 4 → newer ≡ now → GroupsTill heads at k old now → GroupsTill heads at (k + 1) old newer
groups_stay heads at k old now newer odd same are =
    subst (GroupsTill heads at (k + 1) old) (sym same)
    (let count = are.count in
    let stay : GroupsTill heads at (k + 1) old now = record {
      kept = are.kept;
      count = omega (arith, odd, count);
      told = λ g inside. are.told g (omega (arith, odd, inside));
    } in stay)
