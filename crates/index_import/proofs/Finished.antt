-- An index file that is begun, and one that is whole.
use Rattle.shared_lemmas.proofs.Common.{◌≡◌, ◌≤◌, ◌<◌, ◌-◌, ◌^◌, ◌⊎◌, ℕ, ◌∷◌, get_or, List, ◌++◌, length, map, take, drop, suc, [], Option, Some, None, Ok, Err, refl, sym, ap, ap₂, subst, ◌∙◌, inl, inr, arith, append_assoc, get_or-append_seam, get_or-map, length-append, length-map}
use Rattle.shared_lemmas.proofs.Common.{take_all}
use Rattle.index_import.proofs.Below.{Files, Extends, ForContent, IsMissing, Sets, content_there, Totals, CiffFault, CiffRefusal, IndexData, SegmentData, TermData, HeadData, file_length, front_bytes, totals_of, index_text, chosen_entry, chosen_heads}
use Rattle.index_import.proofs.Below.{chosen_payloads, chosen_terms, table_payloads, LeavesPrefix, Untouched, Unappending, Unbegun, WriterView, change_of, entries_totals, entry_data, next_heads, no_entry, TermHeads, SaveFault, TermFault, Bits, Range, for_both}
use Rattle.ciff_read.specs.declared.refusal.CiffFault.TheVariants as reading
use Rattle.index_layout.specs.Heads.{TermHeads as EntryData}
use Rattle.index_write.specs.Streaming.{heads_left}
use Rattle.index_write.specs.declared.fault.SaveFault.TheVariants as saving
use Rattle.index_write.specs.declared.fault.TermFault.TheVariants as terms
use Rattle.index_import.specs.Private.Rereading.{segments_there}
use Rattle.index_import.specs.declared.list_entry.Place.{Place}
use Rattle.index_import.specs.declared.weighing.Weighing.{Weighing}
use Rattle.index_import.proofs.Beside.{for_same}
use Rattle.index_import.specs.Private.Faults.{unappended, unbegun, unread}
use Rattle.index_import.specs.Importing.{Begins}
use Rattle.index_import.specs.Private.Writing.{Writes}
use Rattle.index_import.proofs.Written.{front_of_whole, on_told, payloads_parted, prefix_wanted, whole_front}

abbrev pub index_with_terms : List (List ℕ) → List TermData → IndexData
index_with_terms names made = record { names = names; terms = made }

abbrev pub TextIs : Type 0
TextIs = (index : IndexData) → index_text index ≡ front_bytes index.names (chosen_terms (length index.names) index.terms) ++ table_payloads (length index.names) index.terms

abbrev pub TotalsIs : Type 0
TotalsIs = (index : IndexData) → entries_totals (length index.names) (chosen_terms (length index.names) index.terms) ≡ totals_of index

abbrev pub LengthIs : Type 0
LengthIs = (index : IndexData) → length (index_text index) ≡ file_length index.names (chosen_terms (length index.names) index.terms)

module _ (d : ℕ) (names : List (List ℕ)) (entries : List EntryData) (made : List TermData) (many : length names ≡ d) (are : entries ≡ chosen_terms d made) where
  pub text_is : TextIs → index_text (index_with_terms names made) ≡ front_bytes names entries ++ table_payloads d made
  text_is law = law (index_with_terms names made) ∙ ap₂ (λ (n : ℕ) (es : List EntryData). front_bytes names es ++ table_payloads n made) many (ap (λ (n : ℕ). chosen_terms n made) many ∙ sym are)

  pub parts_are : TextIs → (payloads : List ℕ) → payloads ≡ table_payloads d made → front_bytes names entries ++ payloads ≡ index_text (index_with_terms names made)
  parts_are law payloads is = ap (λ (all : List ℕ). front_bytes names entries ++ all) is ∙ sym (text_is law)

  pub length_is : LengthIs → length (index_text (index_with_terms names made)) ≡ file_length names entries
  length_is law = law (index_with_terms names made) ∙ ap (file_length names) (ap (λ (n : ℕ). chosen_terms n made) many ∙ sym are)

  pub fits : LengthIs → file_length names entries ≤ 2 ^ 32 → length (index_text (index_with_terms names made)) ≤ 2 ^ 32
  fits law few = omega (arith, length_is law, few)

  pub totals_are : TotalsIs → entries_totals d entries ≡ totals_of (index_with_terms names made)
  totals_are law = ap₂ (λ (n : ℕ) (es : List EntryData). entries_totals n es) (sym many) (are ∙ ap (λ (n : ℕ). chosen_terms n made) (sym many)) ∙ law (index_with_terms names made)

  -- what was written up to a term is a front of the text
  parted : TextIs → (i : ℕ) → index_text (index_with_terms names made) ≡ (front_bytes names entries ++ table_payloads d (take i made)) ++ table_payloads d (drop i made)
  parted law i = text_is law ∙ ap (λ (bytes : List ℕ). front_bytes names entries ++ bytes) (payloads_parted d i made) ∙ sym (append_assoc (front_bytes names entries) (table_payloads d (take i made)) (table_payloads d (drop i made)))

  pub begins : (old new : Option Files) (index : List ℕ) (i : ℕ) → TextIs → LengthIs → file_length names entries ≤ 2 ^ 32 → Sets old new index (front_bytes names entries ++ table_payloads d (take i made)) → Begins old new index (index_with_terms names made)
  begins old new index i text lengths few set = inr (fits lengths few, whole_front old new index (front_bytes names entries ++ table_payloads d (take i made)) (table_payloads d (drop i made)) (index_text (index_with_terms names made)) (parted text i) set)

  pub prefix_of_text : (old new : Option Files) (index : List ℕ) (i : ℕ) → TextIs → LeavesPrefix old new index (front_bytes names entries ++ table_payloads d (take i made)) → LeavesPrefix old new index (index_text (index_with_terms names made))
  prefix_of_text old new index i text is = front_of_whole old new index (front_bytes names entries ++ table_payloads d (take i made)) (table_payloads d (drop i made)) (index_text (index_with_terms names made)) (parted text i) is

  pub as_many : length made ≡ length entries
  as_many = sym (ap length are ∙ length-map made (chosen_entry d))

  pub whole_text : (old new : Option Files) (index : List ℕ) (n : ℕ) → n ≡ length entries → TextIs → Sets old new index (front_bytes names entries ++ table_payloads d (take n made)) → Sets old new index (index_text (index_with_terms names made))
  whole_text old new index n all law set =
      subst (λ (bytes : List ℕ). Sets old new index bytes) (ap (λ (ts : List TermData). front_bytes names entries ++ table_payloads d ts) (take_all n made (omega (arith, all, as_many))) ∙ sym (text_is law)) set

-- ---- what stands after each fault

module _ (old : Option Files) (name index : List ℕ) (d : ℕ) (names : List (List ℕ)) (entries : List EntryData) (made : List TermData) (many : length names ≡ d) (are : entries ≡ chosen_terms d made) (text : TextIs) (lengths : LengthIs) where
  abbrev made_index : IndexData
  made_index = index_with_terms names made

  -- the index wasn't begun
  pub not_begun : {C : Type 0} (told : C → Option Files) (before after : C) (fault : SaveFault) → told before ≡ old → Unbegun (file_length names entries) fault → Untouched before after fault → LeavesPrefix old (told after) index (front_bytes names entries)
      → Writes old (told after) name index made_index (Err (unbegun fault))
  not_begun told before after (saving.TooLarge n) same size kept front = (sym size.0 ∙ sym (length_is d names entries made many are lengths), size.1, ap told kept ∙ same)
  not_begun told before after saving.WriteFault same size kept front = (fits d names entries made many are lengths size, front_of_whole old (told after) index (front_bytes names entries) (table_payloads d made) (index_text made_index) (text_is d names entries made many are text) front)
  not_begun told before after saving.NoMemory same size kept front = inl (ap told kept ∙ same)

  -- a list wasn't read
  pub not_read : (now after : Option Files) (i : ℕ) (fault : CiffFault) → after ≡ now → file_length names entries ≤ 2 ^ 32 → Sets old now index (front_bytes names entries ++ table_payloads d (take i made))
      → ((refusal : CiffRefusal) → fault ≡ reading.Refused refusal → old ≡ None) → Writes old after name index made_index (Err (unread fault))
  not_read now after i (reading.Refused refusal) same few set told =
      let untold : old ≡ None = told refusal refl in
      let nothing : now ≡ None = subst (λ (m : Option Files). Sets m now index (front_bytes names entries ++ table_payloads d (take i made))) untold set in
      (subst (λ (m : Option Files). ForContent m name (λ content. ⊥)) (sym untold) tt, same ∙ nothing ∙ sym untold)
  not_read now after i reading.ReadFault same few set told = subst (λ (m : Option Files). Begins old m index made_index) (sym same) (begins d names entries made many are old now index i text lengths few set)
  not_read now after i reading.NoMemory same few set told = subst (λ (m : Option Files). Begins old m index made_index) (sym same) (begins d names entries made many are old now index i text lengths few set)

  -- the payloads of a term weren't appended
  pub not_appended : {C : Type 0} (told : C → Option Files) (before after : C) (i at : ℕ) (part wanted : List ℕ) (fault : TermFault) → file_length names entries ≤ 2 ^ 32 → Sets old (told before) index (front_bytes names entries ++ table_payloads d (take i made))
      → Unappending before after fault → table_payloads d (take (suc i) made) ≡ table_payloads d (take i made) ++ wanted
      → ((old' mid new : Option Files) (name text part : List ℕ) → Sets old' mid name text → (new ≡ mid) ⊎ ((n : ℕ) × Extends mid new name (take n part)) → LeavesPrefix old' new name (text ++ part))
      → (told after ≡ told before) ⊎ ((n : ℕ) × Extends (told before) (told after) index (take n part)) → (old ≡ None) ⊎ (part ≡ wanted)
      → ((kept found : ℕ) → fault ≡ terms.Changed kept found → old ≡ None) → Writes old (told after) name index made_index (Err (unappended at fault))
  not_appended told before after i at part wanted (terms.Changed kept found) few set same more prefix put here changed =
      let untold : old ≡ None = changed kept found refl in
      let nothing : told before ≡ None = subst (λ (m : Option Files). Sets m (told before) index (front_bytes names entries ++ table_payloads d (take i made))) untold set in
      (subst (λ (m : Option Files). ForContent m name (λ content. ⊥)) (sym untold) tt, ap told same ∙ nothing ∙ sym untold)
  not_appended told before after i at part wanted terms.WriteFault few set same more prefix put here changed =
      let left : LeavesPrefix old (told after) index ((front_bytes names entries ++ table_payloads d (take i made)) ++ wanted)
      = prefix_wanted prefix old (told before) (told after) index (front_bytes names entries ++ table_payloads d (take i made)) part wanted set put here in
      let joined : (front_bytes names entries ++ table_payloads d (take i made)) ++ wanted ≡ front_bytes names entries ++ table_payloads d (take (suc i) made)
      = append_assoc (front_bytes names entries) (table_payloads d (take i made)) wanted ∙ ap (λ (bytes : List ℕ). front_bytes names entries ++ bytes) (sym more) in
      (fits d names entries made many are lengths few, prefix_of_text d names entries made many are old (told after) index (suc i) text (subst (λ (bytes : List ℕ). LeavesPrefix old (told after) index bytes) joined left))
  not_appended told before after i at part wanted terms.NoMemory few set same more prefix put here changed =
      subst (λ (m : Option Files). Begins old m index made_index) (sym (ap told same)) (begins d names entries made many are old (told before) index i text lengths few set)

  -- all parts were written
  pub parts_written : (new : Option Files) (payloads : List ℕ) (totals : Totals) → payloads ≡ table_payloads d made → TotalsIs → totals ≡ entries_totals d entries → Sets old new index (front_bytes names entries ++ payloads)
      → file_length names entries ≤ 2 ^ 32 → Writes old new name index made_index (Ok totals)
  parts_written new payloads totals is sums counted set few =
      (subst (λ (all : List ℕ). Sets old new index all) (parts_are d names entries made many are text payloads is) set, fits d names entries made many are lengths few, counted ∙ totals_are d names entries made many are sums)

-- the heads of the next term
pub next_is : (writer : WriterView) (d i : ℕ) (entries : List EntryData) (made : List TermData) (x : TermData) → writer.entries ≡ entries → writer.left ≡ length entries - i → i < length entries → entries ≡ chosen_terms d made
    → next_heads writer ≡ chosen_heads d (get_or made i x).segments
unfolding heads_left
next_is writer d i entries made x same left low are =
    let at : length writer.entries - writer.left ≡ i = omega (arith, ap length same, left, low) in
    let short : i < length made = omega (arith, low, ap length are, length-map made (chosen_entry d)) in
    ap (λ (n : ℕ). (get_or writer.entries n no_entry).heads) at
    ∙ ap (λ (es : List EntryData). (get_or es i no_entry).heads) (same ∙ are)
    ∙ ap (λ (e : EntryData). e.heads) (get_or-map (chosen_entry d) made i x no_entry short)

pub writer_is : (w : WriterView) (name : List ℕ) (docs : ℕ) (entries : List EntryData) (left : ℕ) → w.name ≡ name → w.docs ≡ docs → w.entries ≡ entries → w.left ≡ left → w ≡ record { name = name; docs = docs; entries = entries; left = left }
writer_is w name docs entries left a b c d i = record { name = a i; docs = b i; entries = c i; left = d i }

-- the segments that are found are those of the next term, where the content is told
pub found_are : (old now : Option Files) (name : List ℕ) (d : ℕ) (w : Weighing) (bits : Bits) (range : Range) (places front rest : List Place) (p : Place) (made : List TermData) (x : TermData) (segments : List SegmentData)
    → content_there now name ≡ content_there old name → ¬ IsMissing old name → places ≡ front ++ p ∷ rest
    → ForContent now name (λ content. segments ≡ segments_there content d w bits range p.at)
    → ForContent old name (λ content. map (λ (t : TermData). t.segments) made ≡ map (λ (q : Place). segments_there content d w bits range q.at) places)
    → (old ≡ None) ⊎ (segments ≡ (get_or made (length front) x).segments)
found_are old now name d w bits range places front rest p made x segments same there parts found told =
    on_told old name (segments ≡ (get_or made (length front) x).segments)
    (for_both old name (λ content. segments ≡ segments_there content d w bits range p.at) (λ content. map (λ (t : TermData). t.segments) made ≡ map (λ (q : Place). segments_there content d w bits range q.at) places)
    (λ content. segments ≡ (get_or made (length front) x).segments) (λ content here all. here ∙ sym (at content all)) (for_same now old name (λ content. segments ≡ segments_there content d w bits range p.at) (sym same) found) told) there
  where
    at : (content : List ℕ) → map (λ (t : TermData). t.segments) made ≡ map (λ (q : Place). segments_there content d w bits range q.at) places → (get_or made (length front) x).segments ≡ segments_there content d w bits range p.at
    at content all =
        let S : Place → List SegmentData = λ (q : Place). segments_there content d w bits range q.at in
        let long : length made ≡ length places = sym (length-map made (λ (t : TermData). t.segments)) ∙ ap length all ∙ length-map places S in
        let low : length front < length places = omega (arith, ap length parts, length-append front (p ∷ rest)) in
        let item : get_or places (length front) p ≡ p = ap (λ (ps : List Place). get_or ps (length front) p) parts ∙ get_or-append_seam front p rest p in
        sym (get_or-map (λ (t : TermData). t.segments) made (length front) x x.segments (omega (arith, low, long)))
        ∙ ap (λ (ss : List (List SegmentData)). get_or ss (length front) x.segments) all
        ∙ get_or-map S places (length front) p x.segments low
        ∙ ap S item

-- what can't be where the content is told comes only where it isn't
pub only_untold : (old now : Option Files) (name : List ℕ) (P Q : List ℕ → Type 0) → content_there now name ≡ content_there old name → ¬ IsMissing old name → ForContent now name P → ForContent old name Q → ((content : List ℕ) → P content → Q content → ⊥) → old ≡ None
only_untold old now name P Q same there p q never = by (on_told old name ⊥ (for_both old name P Q (λ content. ⊥) never (for_same now old name P (sym same) p) q) there)
  where
    by : (old ≡ None) ⊎ ⊥ → old ≡ None
    by (inl is) = is
    by (inr is) = absurd is

-- the same by the walk's own name and number of documents
pub found_here : (old now : Option Files) (name : List ℕ) (d : ℕ) (w : Weighing) (bits : Bits) (range : Range) (places front rest : List Place) (p : Place) (made : List TermData) (own : List ℕ) (many : ℕ) (found : List SegmentData)
    → own ≡ name → many ≡ d → content_there now name ≡ content_there old name → ¬ IsMissing old name → places ≡ front ++ p ∷ rest
    → ForContent now own (λ content. found ≡ segments_there content many w bits range p.at)
    → ForContent old name (λ content. map (λ (t : TermData). t.segments) made ≡ map (λ (q : Place). segments_there content d w bits range q.at) places)
    → (old ≡ None) ⊎ (found ≡ (get_or made (length front) (record { term = []; segments = [] })).segments)
found_here old now name d w bits range places front rest p made own many found named counted same there parts read told =
    found_are old now name d w bits range places front rest p made (record { term = []; segments = [] }) found same there parts
    (subst (λ (n : List ℕ). ForContent now n (λ content. found ≡ segments_there content d w bits range p.at)) named
    (subst (λ (k : ℕ). ForContent now own (λ content. found ≡ segments_there content k w bits range p.at)) counted read)) told

pub turn_low : (places front rest : List Place) (p : Place) (terms : List TermHeads) → places ≡ front ++ p ∷ rest → length places ≡ length terms → length front < length (map entry_data terms)
turn_low places front rest p terms parts many = omega (arith, ap length parts, length-append front (p ∷ rest), many, length-map terms entry_data)

pub left_is : (terms : List TermHeads) (i : ℕ) → length terms - i ≡ length (map entry_data terms) - i
left_is terms i = ap (λ (n : ℕ). n - i) (sym (length-map terms entry_data))

pub same_payloads : (old : Option Files) (own d : ℕ) (found wanted : List SegmentData) → own ≡ d → (old ≡ None) ⊎ (found ≡ wanted) → (old ≡ None) ⊎ (chosen_payloads own found ≡ chosen_payloads d wanted)
same_payloads old own d found wanted same (inl untold) = inl untold
same_payloads old own d found wanted same (inr is) = inr (ap₂ (λ (n : ℕ) (ss : List SegmentData). chosen_payloads n ss) same is)

pub never_changed : (old : Option Files) (own d : ℕ) (found wanted : List SegmentData) (next : List HeadData) → own ≡ d → next ≡ chosen_heads d wanted → (old ≡ None) ⊎ (found ≡ wanted) → ((heads : List HeadData) → change_of heads heads ≡ None)
    → (k f : ℕ) → change_of next (chosen_heads own found) ≡ Some (record { kept = k; found = f }) → old ≡ None
never_changed old own d found wanted next same is (inl untold) law k f changed = untold
never_changed old own d found wanted next same is (inr here) law k f changed =
    let heads : chosen_heads own found ≡ next = ap₂ (λ (n : ℕ) (ss : List SegmentData). chosen_heads n ss) same here ∙ sym is in
    absurd (none_some (sym (law next) ∙ ap (change_of next) (sym heads) ∙ changed))
  where
    none_some : {X : Type 0} {x : X} → (let nothing : Option X = None in nothing) ≡ Some x → ⊥
    none_some is = cc
