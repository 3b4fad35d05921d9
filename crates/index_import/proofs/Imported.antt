-- The index that is made of a file that was judged.
use Rattle.shared_lemmas.proofs.Common.{◌≡◌, ℕ, inl, inr, List, [], ◌∷◌, length, map, Option, Some, None, Result, Ok, Err, refl, sym, ap, ap₂, subst, ◌∙◌, All, AllPairs, IfSome, IsSomeAnd, IsPermutation, get, AllByRecursion, All-from_recursion, All-map, recursion_from_All, map-map}
use Rattle.index_import.proofs.Below.{CollectionData, ListData, Files, ForContent, IsMissing, OnContent, BytesRise, Totals, Rule, Bits, Raw, Of, Range, empty_range, impact_of, range_of, IsKeptList, KeptList, read_ciff, LeavesWalk, WalkView, CiffFault, for_both, for_one, for_pair, index_with, IndexData}
use Rattle.index_import.proofs.Below.{SegmentData, TermData, TermHeads, collection_index, index_of, lengths_of, total_of, weights_in, weights_of, AreByTerm, list_term, lists_in_use, widened_by, outside}
use Rattle.ciff_read.specs.declared.refusal.CiffFault.TheVariants as reading
use Rattle.shared_lemmas.proofs.Pairs.{Pairs, pairs_by_places, pairs_by_recursion, pairs_map}
use Rattle.shared_lemmas.proofs.Lists.{all_unmap, all_weaker}
use Rattle.index_import.specs.Private.Faults.{unread}
use Rattle.index_import.specs.Private.Heading.{AreHeads, AreInside, FailsAllInside, places_of, term_there, terms_there}
use Rattle.index_import.specs.Importing.{Imports, IsMade}
use Rattle.index_import.specs.Private.Writing.{HasTerms, Writes}
use Rattle.index_import.specs.Private.Outlining.{IsOutline, IsOutlined, list_there, lists_there, names_of}
use Rattle.index_import.specs.Private.Ranging.{range_there}
use Rattle.index_import.specs.Private.Rereading.{IsInside, segments_there}
use Rattle.index_import.specs.Private.Spelling.{AreOf, IsSpelling}
use Rattle.index_import.specs.Private.Surveying.{AreGiven, KeepsAll, kept_entry}
use Rattle.index_write.specs.Spelled.{SpelledView}
use Rattle.index_import.specs.declared.fault.ImportFault.{ImportFault}
use Rattle.index_import.specs.declared.fault.ImportFault.TheVariants.{Refused, ReadFault, TooLarge, WriteFault, NoMemory}
use Rattle.index_import.specs.declared.list_entry.ListEntry.{ListEntry}
use Rattle.index_import.specs.declared.list_entry.Place.{Place}
use Rattle.index_import.specs.declared.weighing.Weighing.{Weighing}

-- what holds of a content holds on it, where the name isn't missing
pub on_there : (files : Option Files) (name : List ℕ) (P : List ℕ → Type 0) → ¬ IsMissing files name → ForContent files name P → OnContent files name P
on_there None name P here is = tt
on_there (Some files) name P here is = at (get files name) refl is
  where
    at : (o : Option (List ℕ)) → get files name ≡ o → IfSome o P → IsSomeAnd o P
    at None missing is = absurd (here missing)
    at (Some content) found is = is

-- ---- lists of entries

map_same : {A B : Type 0} (f g : A → B) (xs : List A) → AllByRecursion (λ (x : A). f x ≡ g x) xs → map f xs ≡ map g xs
map_same f g [] h = refl
map_same {A} {B} f g (x ∷ xs) h = ap₂ (λ (y : B) (ys : List B). y ∷ ys) h.0 (map_same f g xs h.1)

module _ {A B : Type 0} (f : A → B) (P : A → Type 0) (R : A → A → Type 0) (S : B → B → Type 0) (carry : (x y : A) → P x → P y → R x y → S (f x) (f y)) where
  ahead : (x : A) (ys : List A) → P x → AllByRecursion P ys → AllByRecursion (λ (y : A). R x y) ys → AllByRecursion (λ (y : A). S (f x) (f y)) ys
  ahead x [] p all r = tt
  ahead x (y ∷ ys) p all r = (carry x y p all.0 r.0, ahead x ys p all.1 r.1)

  carried : (xs : List A) → AllByRecursion P xs → Pairs R xs → Pairs (λ (x y : A). S (f x) (f y)) xs
  carried [] all rising = tt
  carried (x ∷ xs) all rising = (ahead x xs all.0 all.1 rising.0, carried xs all.1 rising.1)

-- ---- of a content

module _ (content : List ℕ) (docs : ℕ) where
  abbrev there : ListEntry → ListData
  there e = list_there content docs e.place.at

  abbrev Found : ListEntry → Type 0
  Found e = IsKeptList content docs (kept_entry e) (there e)

  by_term : (names : List (List ℕ)) (lengths : List ℕ) (lists : List ListEntry) (o : IsOutline content docs names lengths lists) → AllPairs (λ (a b : ListEntry). BytesRise a.term b.term) lists
      → AreByTerm o.collection (lists_there content docs lists)
  by_term names lengths lists o rising = record {
    same = o.all;
    rising = pairs_by_places Later (map there lists) (pairs_map Later there lists (carried there Found Before Later carry lists (recursion_from_All Found lists o.each) (pairs_by_recursion Before lists rising)));
  }
    where
      Before : ListEntry → ListEntry → Type 0
      Before a b = BytesRise a.term b.term

      Later : ListData → ListData → Type 0
      Later a b = BytesRise a.term b.term

      carry : (x y : ListEntry) → Found x → Found y → Before x y → Later (there x) (there y)
      carry x y p q r = subst (λ (t : List ℕ). BytesRise t (there y).term) p.term (subst (λ (t : List ℕ). BytesRise x.term t) q.term r)

-- ---- the laws of one list at a time

abbrev MakesIndex : Type 0
MakesIndex = (c : CollectionData) (rule : Rule) (bits : Bits) (range : Range) (names : List (List ℕ)) (lists : List ListData) → AreByTerm c lists
    → ((w : ℕ) → impact_of bits range w ≡ impact_of bits (range_of (weights_of c rule)) w)
    → index_with names (index_of c rule bits) ≡ record { names = names; terms = map (list_term rule (lengths_of c.docs) (total_of (lengths_of c.docs)) bits range) lists }

abbrev AsksNone : Type 0
AsksNone = (range other : Range) (w : ℕ) → impact_of Raw range w ≡ impact_of Raw other w

abbrev HasRange : Type 0
HasRange = (c : CollectionData) (rule : Rule) (lists : List ListData) → IsPermutation lists (lists_in_use c.lists)
    → widened_by rule (lengths_of c.docs) (total_of (lengths_of c.docs)) empty_range lists ≡ range_of (weights_of c rule)

abbrev HoldsEach : Type 0
HoldsEach = (rule : Rule) (bits : Bits) (lengths : List ℕ) (total : ℕ) (range : Range) (lists : List ListData)
    → All (λ (l : ListData). outside bits (widened_by rule lengths total range lists) (weights_in rule lengths total l.postings) ≡ None) lists

-- ---- the index of a content, where the laws hold

module _ (make : MakesIndex) (raw : AsksNone) (ranged : HasRange) (content : List ℕ) (docs : ℕ) (names : List (List ℕ)) (w : Weighing) (lists : List ListEntry) (o : IsOutline content docs names w.lengths.now lists) where
  total_is : w.total ≡ total_of (lengths_of o.collection.docs)
  total_is = w.total_is ∙ ap total_of o.lengths_are

  same_impact : (bits : Bits) (range : Range) → range ≡ range_there content docs w bits lists → (v : ℕ) → impact_of bits range v ≡ impact_of bits (range_of (weights_of o.collection w.rule)) v
  same_impact Raw range is v = raw range (range_of (weights_of o.collection w.rule)) v
  same_impact (Of b) range is v = ap (λ (r : Range). impact_of (Of b) r v)
      (is ∙ ap₂ (λ (lengths : List ℕ) (total : ℕ). widened_by w.rule lengths total empty_range (lists_there content docs lists)) o.lengths_are total_is
      ∙ ranged o.collection w.rule (lists_there content docs lists) o.all)

  terms_are : (bits : Bits) (range : Range)
      → terms_there content docs w bits range lists ≡ map (list_term w.rule (lengths_of o.collection.docs) (total_of (lengths_of o.collection.docs)) bits range) (lists_there content docs lists)
  terms_are bits range =
      let listed : ListData → TermData = list_term w.rule w.lengths.now w.total bits range in
      map_same (term_there content docs w bits range) (λ (e : ListEntry). listed (there content docs e)) lists
      (all_weaker (Found content docs) (λ (e : ListEntry). term_there content docs w bits range e ≡ listed (there content docs e))
      (λ e found. ap (λ (t : List ℕ). (let term : TermData = record { term = t; segments = segments_there content docs w bits range e.place.at } in term)) found.term) lists
      (recursion_from_All (Found content docs) lists o.each))
      ∙ sym (map-map listed (there content docs) lists)
      ∙ ap₂ (λ (lengths : List ℕ) (total : ℕ). map (list_term w.rule lengths total bits range) (lists_there content docs lists)) o.lengths_are total_is

  is_index : AllPairs (λ (a b : ListEntry). BytesRise a.term b.term) lists → (bits : Bits) (range : Range) (terms : List TermData)
      → range ≡ range_there content docs w bits lists → terms ≡ terms_there content docs w bits range lists
      → (c : CollectionData) × (read_ciff content ≡ Ok c) × ((let made : IndexData = record { names = names; terms = terms } in made) ≡ collection_index w.rule bits c)
  is_index rising bits range terms range_is terms_is =
      let c : CollectionData = o.collection in (
        c,
        o.read,
        ap₂ (λ (ns : List (List ℕ)) (ts : List TermData). (let made : IndexData = record { names = ns; terms = ts } in made)) o.names_are (terms_is ∙ terms_are bits range)
            ∙ sym (make c w.rule bits range (names_of c.docs) (lists_there content docs lists) (by_term content docs names w.lengths.now lists o rising) (same_impact bits range range_is)),
      )

is_inside : HoldsEach → (content : List ℕ) (docs : ℕ) (w : Weighing) (lists : List ListEntry) (bits : Bits) (range : Range) → range ≡ range_there content docs w bits lists → AreInside content docs w bits range lists
is_inside inside content docs w lists Raw range is = λ i d low. refl
is_inside inside content docs w lists (Of b) range is =
    let all : List ListData = lists_there content docs lists in
    let In : Range → ListData → Type 0 = λ (r : Range) (l : ListData). outside (Of b) r (weights_in w.rule w.lengths.now w.total l.postings) ≡ None in
    let whole : Range = widened_by w.rule w.lengths.now w.total empty_range all in
    subst (λ (r : Range). All (λ (e : ListEntry). In r (there content docs e)) lists) (sym is)
    (All-from_recursion (λ (e : ListEntry). In whole (there content docs e)) lists
    (all_unmap (In whole) (there content docs) lists (recursion_from_All (In whole) all (inside w.rule (Of b) w.lengths.now w.total empty_range all))))

-- ---- of a file that is told

imports : (old new : Option Files) (name index : List ℕ) (rule : Rule) (bits : Bits) (made : IndexData) (result : Result Totals ImportFault) → ¬ IsMissing old name → IsMade old name rule bits made
    → Writes old new name index made result → Imports old new name index rule bits result
imports old new name index rule bits made (Ok totals) here is writes = (made, is, writes.0, writes.1, writes.2)
imports old new name index rule bits made (Err (Refused refusal)) here is writes =
    (on_there old name (λ content. read_ciff content ≡ Err refusal) here (for_one old name (λ content. ⊥) (λ content. read_ciff content ≡ Err refusal) (λ content no. absurd no) writes.0), writes.1)
imports old new name index rule bits made (Err ReadFault) here is writes = inr (made, is, writes)
imports old new name index rule bits made (Err (TooLarge n)) here is writes = (made, is, writes.0, writes.1, writes.2)
imports old new name index rule bits made (Err WriteFault) here is writes = (made, is, writes.0, writes.1)
imports old new name index rule bits made (Err NoMemory) here is writes = inr (made, is, writes)

-- what is known of a file whose lists were read again once
module _ (files : Option Files) (walk : WalkView) (w : Weighing) (bits : Bits) (range : Range) (lists : List ListEntry) (here : ¬ IsMissing files walk.name) (found : ForContent files walk.name (λ content. range ≡ range_there content walk.docs w bits lists)) where
  -- no list is refused, since no weight lies outside the range
  pub never_refused : (inside : HoldsEach) (now : Option Files) (index : List ℕ) (fault : CiffFault) (result : ImportFault) → result ≡ unread fault → now ≡ files
      → ForContent files walk.name (λ content. FailsAllInside content walk.docs w bits range lists fault) → Imports files now walk.name index w.rule bits (Err result)
  never_refused inside now index fault result is same fails = subst (λ (r : ImportFault). Imports files now walk.name index w.rule bits (Err r)) (sym is) (by fault fails)
    where
      by : (fault : CiffFault) → ForContent files walk.name (λ content. FailsAllInside content walk.docs w bits range lists fault) → Imports files now walk.name index w.rule bits (Err (unread fault))
      by (reading.Refused refusal) outside = (
        on_there files walk.name (λ content. read_ciff content ≡ Err refusal) here
            (for_both files walk.name (λ content. range ≡ range_there content walk.docs w bits lists) (λ content. ¬ AreInside content walk.docs w bits range lists) (λ content. read_ciff content ≡ Err refusal)
            (λ content is outside. absurd (outside (is_inside inside content walk.docs w lists bits range is))) found outside),
        same,
      )
      by reading.ReadFault fails = inl same
      by reading.NoMemory fails = inl same

  -- the terms of the heads, with the places of their lists
  has_terms : (inside : HoldsEach) (places : List Place) (heads : List TermHeads) (are : AreHeads files walk.name walk.docs w bits range lists heads) → places ≡ places_of lists
      → HasTerms files walk.name walk.docs w bits range places heads are.terms
  has_terms inside places heads are placed =
      let segments_at : List ℕ → Place → List SegmentData = λ (content : List ℕ) (p : Place). segments_there content walk.docs w bits range p.at in
      let In : List ℕ → Place → Type 0 = λ (content : List ℕ) (p : Place). IsInside content walk.docs w bits range p.at in
      record {
        heads_are = are.heads_are;
        told = for_one files walk.name (λ content. are.terms ≡ terms_there content walk.docs w bits range lists) (λ content. map (λ (t : TermData). t.segments) are.terms ≡ map (segments_at content) places)
            (λ content is. ap (map (λ (t : TermData). t.segments)) is ∙ map-map (λ (t : TermData). t.segments) (term_there content walk.docs w bits range) lists
            ∙ sym (map-map (segments_at content) (λ (e : ListEntry). e.place) lists) ∙ ap (map (segments_at content)) (sym placed)) are.told;
        inside = for_one files walk.name (λ content. range ≡ range_there content walk.docs w bits lists) (λ content. All (In content) places)
            (λ content is. subst (All (In content)) (sym placed) (All-map (In content) (λ (e : ListEntry). e.place) lists (is_inside inside content walk.docs w lists bits range is))) found;
      }

  -- the index is that of the collection
  is_made : MakesIndex → AsksNone → HasRange → (names : List (List ℕ)) (terms : List TermData) → AllPairs (λ (a b : ListEntry). BytesRise a.term b.term) lists
      → ForContent files walk.name (λ content. IsOutline content walk.docs names w.lengths.now lists)
      → ForContent files walk.name (λ content. terms ≡ terms_there content walk.docs w bits range lists)
      → IsMade files walk.name w.rule bits (record { names = names; terms = terms })
  is_made make raw ranged names terms rising outlined terms_are =
      let made : IndexData = record { names = names; terms = terms } in
      let Made : List ℕ → Type 0 = λ (content : List ℕ). (c : CollectionData) × (read_ciff content ≡ Ok c) × (made ≡ collection_index w.rule bits c) in
      let Outline : List ℕ → Type 0 = λ (content : List ℕ). IsOutline content walk.docs names w.lengths.now lists in
      let Ranged : List ℕ → Type 0 = λ (content : List ℕ). range ≡ range_there content walk.docs w bits lists in
      let Terms : List ℕ → Type 0 = λ (content : List ℕ). terms ≡ terms_there content walk.docs w bits range lists in
      on_there files walk.name Made here
      (for_both files walk.name (λ content. Outline content × Ranged content) Terms Made
      (λ content known terms_is. is_index make raw ranged content walk.docs names w lists known.0 rising bits range terms known.1 terms_is)
      (for_pair files walk.name Outline Ranged outlined found) terms_are)

  -- the index is written, and it is that of the collection
  pub writes_made : MakesIndex → AsksNone → HasRange → HoldsEach → (now new : Option Files) (next : WalkView) (names : List (List ℕ)) (index : List ℕ) (places : List Place) (heads : List TermHeads) (result : Result Totals ImportFault)
      → AllPairs (λ (a b : ListEntry). BytesRise a.term b.term) lists → ForContent files walk.name (λ content. IsOutline content walk.docs names w.lengths.now lists)
      → AreHeads files walk.name walk.docs w bits range lists heads → places ≡ places_of lists → now ≡ files → LeavesWalk walk next
      → ((made : List TermData) → HasTerms now next.name next.docs w bits range places heads made → Writes now new next.name index (record { names = names; terms = made }) result)
      → Imports files new walk.name index w.rule bits result
  writes_made make raw ranged inside now new next names index places heads result rising outlined are placed same leaves writes =
      let made : IndexData = record { names = names; terms = are.terms } in
      let has : HasTerms now next.name next.docs w bits range places heads are.terms
      = subst (λ (f : Option Files). HasTerms f next.name next.docs w bits range places heads are.terms) (sym same) (subst (λ (n : List ℕ). HasTerms files n next.docs w bits range places heads are.terms) (sym leaves.name)
      (subst (λ (d : ℕ). HasTerms files walk.name d w bits range places heads are.terms) (sym leaves.docs) (has_terms inside places heads are placed))) in
      imports files new walk.name index w.rule bits made result here (is_made make raw ranged names are.terms rising outlined are.told)
      (subst (λ (f : Option Files). Writes f new walk.name index made result) same (subst (λ (n : List ℕ). Writes now new n index made result) leaves.name (writes are.terms has)))

  -- the lists are spelled, and what is written is the index of the collection
  pub spelled_made : MakesIndex → AsksNone → HasRange → (now new : Option Files) (names : List (List ℕ)) (index : List ℕ) (view : SpelledView) (payloads : List ℕ) (result : Result Totals ImportFault)
      → AllPairs (λ (a b : ListEntry). BytesRise a.term b.term) lists → length names ≡ walk.docs → ForContent files walk.name (λ content. IsOutline content walk.docs names w.lengths.now lists)
      → IsSpelling files walk.name walk.docs w bits range lists view payloads → now ≡ files
      → ((name : List ℕ) (made : List TermData) → AreOf (length names) view payloads made → Writes now new name index (record { names = names; terms = made }) result)
      → Imports files new walk.name index w.rule bits result
  spelled_made make raw ranged now new names index view payloads result rising many outlined spelled same writes =
      let made : IndexData = record { names = names; terms = spelled.terms } in
      imports files new walk.name index w.rule bits made result here (is_made make raw ranged names spelled.terms rising outlined spelled.told)
      (subst (λ (f : Option Files). Writes f new walk.name index made result) same (writes walk.name spelled.terms (subst (λ (d : ℕ). AreOf d view payloads spelled.terms) (sym many) spelled.are)))

-- an index is made of a file that was read by its walk's own name, which is the one before
pub imports_then : (files now new : Option Files) (old next : WalkView) (index : List ℕ) (rule : Rule) (bits : Bits) (result : Result Totals ImportFault) → now ≡ files → LeavesWalk old next
    → Imports now new next.name index rule bits result → Imports files new old.name index rule bits result
imports_then files now new old next index rule bits result same leaves is =
    subst (λ (f : Option Files). Imports f new old.name index rule bits result) same (subst (λ (n : List ℕ). Imports now new n index rule bits result) leaves.name is)

-- an outline is that of a walk that was asked for lists
pub outlined_then : (old next : WalkView) (names : List (List ℕ)) (lengths : List ℕ) (total : ℕ) (lists : List ListEntry) → LeavesWalk old next → IsOutlined old names lengths total lists → IsOutlined next names lengths total lists
outlined_then old next names lengths total lists leaves is = record {
  names_are = is.names_are;
  as_many = is.as_many ∙ sym leaves.docs;
  docs = is.docs ∙ sym leaves.docs;
  few = is.few;
  small = is.small;
  total_is = is.total_is;
  given = subst (λ (kept : List KeptList). AreGiven kept lists) (sym leaves.kept) is.given;
  few_lists = is.few_lists;
  rising = is.rising;
  postings = is.postings;
  keep_all = subst (λ (n : ℕ). All (KeepsAll n) lists) (sym leaves.docs) is.keep_all;
}
