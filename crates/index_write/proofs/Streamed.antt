-- An index that is written term by term.
use Rattle.shared_lemmas.proofs.Common.{◌≡◌, ℕ, ◌≤◌, ◌^◌, List, [], ◌∷◌, ◌++◌, length, get_or, All, ap, ◌∙◌, refl, arith, append-nil, AllPairs, length-map, get_or-map, All-head, All-tail, All-cons, All-nil}
use Rattle.std.specs.List.{sum_by}
use Rattle.std.proofs.lemmas.List.Concat.{flat_map-append}
use Rattle.index_write.proofs.Below.{AreDocs, BytesRise, Totals, chosen_codec, payload_size, Codec, SegmentData, TermData, IndexData, IsTerm, IsIndex, HeadData, head_postings, greatest_of, greatest_impact, index_greatest, totals_of, index_postings}
use Rattle.index_model.specs.Index as model
use Rattle.index_layout.specs.Heads.{TermHeads as EntryData}
use Rattle.index_write.specs.Chosen.{chosen_entry, chosen_head, chosen_heads, chosen_payloads, chosen_terms, table_payloads}
use Rattle.index_write.specs.Streaming.{AreEntries, FallsTo, IsEntry, IsHead, RisesTo, entries_totals}
use Rattle.index_write.proofs.Texts.{table_is, all_counted, greatest_chosen}

-- the payloads of terms, and of one more
pub payloads_more : (d : ℕ) (terms : List TermData) (t : TermData) → table_payloads d (terms ++ t ∷ []) ≡ table_payloads d terms ++ chosen_payloads d t.segments
payloads_more d terms t =
    flat_map-append (λ (t : TermData). chosen_payloads d t.segments) terms (t ∷ []) ∙ ap (λ xs. table_payloads d terms ++ xs) (append-nil (chosen_payloads d t.segments))

pub same_totals : (d n p g n2 p2 g2 : ℕ) → n ≡ n2 → p ≡ p2 → g ≡ g2
    → (let first : Totals = record { docs = d; terms = n; postings = p; greatest = g } in first) ≡ (let second : Totals = record { docs = d; terms = n2; postings = p2; greatest = g2 } in second)
same_totals d n p g n2 p2 g2 a b c = rw (a, b, c) refl

postings_chosen : (d : ℕ) (index : IndexData) → head_postings (chosen_terms d index.terms) ≡ index_postings index
postings_chosen d index = ap (sum_by (λ (h : HeadData). h.count)) (table_is d index.terms) ∙ all_counted d index.terms

count_chosen : (d : ℕ) (index : IndexData) → length (chosen_terms d index.terms) ≡ length index.terms
count_chosen d index = length-map index.terms (chosen_entry d)

pub totals_chosen : (index : IndexData) → entries_totals (length index.names) (chosen_terms (length index.names) index.terms) ≡ totals_of index
totals_chosen index =
    let d = length index.names in
    let terms = chosen_terms d index.terms in
    same_totals d (length terms) (head_postings terms) (greatest_impact terms) (length index.terms) (index_postings index) (index_greatest index)
    (count_chosen d index) (postings_chosen d index) (ap greatest_of (table_is d index.terms) ∙ greatest_chosen d index.terms)

-- a payload has a byte
abbrev pub Some : Type 0
Some = (codec : Codec) (d : ℕ) (docs : List ℕ) → AreDocs d docs → 1 ≤ payload_size d docs codec

-- an impact that isn't 0, and the documents of a segment
abbrev pub HasHead : ℕ → SegmentData → Type 0
HasHead d s = (1 ≤ s.impact) × AreDocs d s.docs

head_is : Some → (d : ℕ) (s : SegmentData) → HasHead d s → IsHead (chosen_head d s)
head_is some d s is = record {
  impact = is.0;
  count = (let e = is.1.some in omega (arith, e));
  size = some (chosen_codec d s.docs) d s.docs is.1;
}

pub heads_are : Some → (d : ℕ) (segments : List SegmentData) → All (HasHead d) segments → All IsHead (chosen_heads d segments)
heads_are some d [] are = All-nil IsHead
heads_are some d (s ∷ segments) are =
    All-cons IsHead (chosen_head d s) (chosen_heads d segments) (head_is some d s (All-head (HasHead d) s segments are)) (heads_are some d segments (All-tail (HasHead d) s segments are))

abbrev no_segment : SegmentData
no_segment = record { impact = 0; docs = [] }

pub heads_fall : (d : ℕ) (segments : List SegmentData) → AllPairs model.FallsTo segments → AllPairs FallsTo (chosen_heads d segments)
heads_fall d segments falling = λ i j other less inside.
    let within = length-map segments (chosen_head d) in
    let one = ap (λ (h : HeadData). h.impact) (get_or-map (chosen_head d) segments i no_segment other (omega (arith, less, inside, within))) in
    let two = ap (λ (h : HeadData). h.impact) (get_or-map (chosen_head d) segments j no_segment other (omega (arith, inside, within))) in
    let falls = falling i j no_segment less (omega (arith, inside, within)) in
    omega (arith, one, two, falls)

pub entry_is : Some → (d : ℕ) (t : TermData) → IsTerm d t → IsEntry (chosen_entry d t)
entry_is some d t is = record {
  text = is.text;
  fits = is.fits;
  some = (let e = is.some in omega (arith, e, length-map t.segments (chosen_head d)));
  heads = heads_are some d t.segments (λ i s inside. ((is.segments i s inside).impact.0, (is.segments i s inside).docs));
  falling = heads_fall d t.segments is.falling;
}

entries_each : Some → (d : ℕ) (terms : List TermData) → All (IsTerm d) terms → All IsEntry (chosen_terms d terms)
entries_each some d [] are = All-nil IsEntry
entries_each some d (t ∷ terms) are =
    All-cons IsEntry (chosen_entry d t) (chosen_terms d terms) (entry_is some d t (All-head (IsTerm d) t terms are)) (entries_each some d terms (All-tail (IsTerm d) t terms are))

abbrev no_term : TermData
no_term = record { term = []; segments = [] }

entries_rise : (d : ℕ) (terms : List TermData) → AllPairs model.RisesTo terms → AllPairs RisesTo (chosen_terms d terms)
entries_rise d terms rising = λ i j other less inside.
    let within = length-map terms (chosen_entry d) in
    let one = ap (λ (t : EntryData). t.term) (get_or-map (chosen_entry d) terms i no_term other (omega (arith, less, inside, within))) in
    let two = ap (λ (t : EntryData). t.term) (get_or-map (chosen_entry d) terms j no_term other (omega (arith, inside, within))) in
    both (get_or terms i no_term).term (get_or terms j no_term).term (get_or (chosen_terms d terms) i other).term (get_or (chosen_terms d terms) j other).term one two (rising i j no_term less (omega (arith, inside, within)))
  where
    both : (a b x y : List ℕ) → x ≡ a → y ≡ b → BytesRise a b → BytesRise x y
    both a b x y first second rise = rw (first, second) rise

pub entries_are : Some → (index : IndexData) → IsIndex index → index_postings index ≤ 2 ^ 29 → AreEntries (chosen_terms (length index.names) index.terms)
entries_are some index is few =
    let d = length index.names in
    record {
      few = (let e = is.few_terms in omega (arith, e, count_chosen d index));
      rising = entries_rise d index.terms is.rising;
      each = entries_each some d index.terms is.terms;
      postings = omega (arith, few, postings_chosen d index);
    }
