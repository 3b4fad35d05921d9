-- The heads of lists that are read again, list by list.
use Rattle.shared_lemmas.proofs.Common.{rules, append-nil, ◌≡◌, ℕ, ◌+◌, ◌≤◌, ◌^◌, List, [], ◌∷◌, ◌++◌, length, map, Option, refl, sym, ap, ap₂, subst, ◌∙◌, arith, All, AllPairs, AllByRecursion, flat_map-append, length-map, map-append, All-push, sum_by-append, sum_by-cons}
use Rattle.std.specs.List.{sum_by}
use Rattle.index_import.proofs.Below.{CiffFault, Files, ForContent, BytesRise, Bits, LeavesWalk, Range, WalkView, for_all, for_both, for_one, SegmentData, TermData, HeadData, all_heads, head_postings, chosen_entry, chosen_head, chosen_heads, head_data, AreEntries, FallsTo}
use Rattle.index_import.proofs.Below.{IsEntry, IsHead, RisesTo, entry_data, TermHeads}
use Rattle.shared_lemmas.proofs.Pairs.{Pairs, pairs_by_places, pairs_by_recursion, pairs_map}
use Rattle.index_layout.specs.Heads.{TermHeads as EntryData}
use Rattle.ciff_read.specs.declared.refusal.CiffFault.TheVariants as faults
use Rattle.index_import.specs.Private.Heading.{AreHeads, AreInside, FailsAllInside, HasOneMore, term_there, terms_there}
use Rattle.index_import.specs.Private.Outlining.{list_there}
use Rattle.index_model.specs.Index.{FallsTo as SegmentFalls}
use Rattle.jass_base.specs.Gaps.{AreDocs}
use Rattle.index_import.specs.Private.Rereading.{AreSegments, FailsOf, IsInside, segments_there}
use Rattle.index_import.specs.declared.list_entry.ListEntry.{ListEntry}
use Rattle.index_import.specs.declared.weighing.Weighing.{Weighing}
use Rattle.index_import.proofs.Again.{told_then}
use Rattle.index_import.proofs.Turns.{middle}

same_entry : (docs : ℕ) (e : ListEntry) (t : TermHeads) (segments : List SegmentData) → t.term ≡ e.term → map head_data t.heads ≡ chosen_heads docs segments → entry_data t ≡ chosen_entry docs (record { term = e.term; segments = segments })
same_entry docs e t segments term made = ap₂ (λ (x : List ℕ) (hs : List HeadData). (let entry : EntryData = record { term = x; heads = hs } in entry)) term made

module _ (files : Option Files) (name : List ℕ) (docs : ℕ) (w : Weighing) (bits : Bits) (range : Range) where
  -- the terms of some lists and of one more
  pub terms_more : (lists : List ListEntry) (terms : List TermData) (e : ListEntry) (segments : List SegmentData) → ForContent files name (λ content. terms ≡ terms_there content docs w bits range lists)
      → ForContent files name (λ content. segments ≡ segments_there content docs w bits range e.place.at)
      → ForContent files name (λ content. terms ++ record { term = e.term; segments = segments } ∷ [] ≡ terms_there content docs w bits range (lists ++ e ∷ []))
  terms_more lists terms e segments before here =
      let one : TermData = record { term = e.term; segments = segments } in
      for_both files name (λ content. terms ≡ terms_there content docs w bits range lists) (λ content. segments ≡ segments_there content docs w bits range e.place.at)
      (λ content. terms ++ one ∷ [] ≡ terms_there content docs w bits range (lists ++ e ∷ []))
      (λ content before is. ap₂ (λ (ts : List TermData) (ss : List SegmentData). (let last : TermData = record { term = e.term; segments = ss } in ts ++ last ∷ [])) before is ∙ sym (map-append (term_there content docs w bits range) lists (e ∷ [])))
      before here

  pub no_heads : (heads : List TermHeads) → heads ≡ [] → AreHeads files name docs w bits range [] heads
  no_heads heads none = record {
    terms = [];
    heads_are = ap (map entry_data) none;
    told = for_all files name (λ content. (let nothing : List TermData = [] in nothing ≡ [])) (λ content. refl);
  }

  pub heads_more : (lists : List ListEntry) (heads : List TermHeads) (e : ListEntry) (t : TermHeads) (segments : List SegmentData) → t.term ≡ e.term → map head_data t.heads ≡ chosen_heads docs segments
      → ForContent files name (λ content. segments ≡ segments_there content docs w bits range e.place.at)
      → AreHeads files name docs w bits range lists heads → AreHeads files name docs w bits range (lists ++ e ∷ []) (heads ++ t ∷ [])
  heads_more lists heads e t segments term made told so_far =
      let one : TermData = record { term = e.term; segments = segments } in
      let same : entry_data t ≡ chosen_entry docs one = same_entry docs e t segments term made in
      record {
        terms = so_far.terms ++ one ∷ [];
        heads_are = map-append entry_data heads (t ∷ []) ∙ ap₂ (λ (xs : List EntryData) (x : EntryData). xs ++ x ∷ []) so_far.heads_are same ∙ sym (map-append (chosen_entry docs) so_far.terms (one ∷ []));
        told = terms_more lists so_far.terms e segments so_far.told told;
      }

-- what the entries of some lists have
pub record HaveEntries (lists : List ListEntry) (entries : List EntryData) : Type 0 where
  pub terms : map (λ (t : EntryData). t.term) entries ≡ map (λ (e : ListEntry). e.term) lists
  pub each : All IsEntry entries
  pub postings : head_postings entries ≡ sum_by (λ (e : ListEntry). e.place.count) lists

abbrev count_of : HeadData → ℕ
count_of h = h.count

-- the heads of segments count their documents
counted : (docs : ℕ) (segments : List SegmentData) → sum_by count_of (chosen_heads docs segments) ≡ sum_by (λ (s : SegmentData). length s.docs) segments
counted docs [] = refl
counted docs (s ∷ segments) =
    sum_by-cons count_of (chosen_head docs s) (chosen_heads docs segments)
    ∙ ap (λ n. length s.docs + n) (counted docs segments)
    ∙ sym (sum_by-cons (λ (s : SegmentData). length s.docs) s segments)

-- the heads of the segments that are made of an entry's list are those of an entry
pub entry_is : (docs count : ℕ) (e : ListEntry) (segments : List SegmentData) → AreSegments docs count segments → All (λ (s : SegmentData). 1 ≤ s.impact) segments
    → (All (λ (s : SegmentData). (1 ≤ s.impact) × AreDocs docs s.docs) segments → All IsHead (chosen_heads docs segments)) → (AllPairs SegmentFalls segments → AllPairs FallsTo (chosen_heads docs segments))
    → IsEntry (chosen_entry docs (record { term = e.term; segments = segments }))
entry_is docs count e segments are positive heads falls = record {
  text = e.term_is_text;
  fits = e.term_fits;
  some = omega (arith, are.some, length-map segments (chosen_head docs));
  heads = heads (λ i s low. (positive i s low, are.docs_are i s low));
  falling = falls are.falling;
}

pub entries_more : (docs : ℕ) (lists : List ListEntry) (entries : List EntryData) (e : ListEntry) (segments : List SegmentData)
    → IsEntry (chosen_entry docs (record { term = e.term; segments = segments })) → sum_by (λ (s : SegmentData). length s.docs) segments ≡ e.place.count
    → HaveEntries lists entries → HaveEntries (lists ++ e ∷ []) (entries ++ chosen_entry docs (record { term = e.term; segments = segments }) ∷ [])
entries_more docs lists entries e segments is count so_far =
    let one : EntryData = chosen_entry docs (record { term = e.term; segments = segments }) in
    record {
      terms = map-append (λ (t : EntryData). t.term) entries (one ∷ []) ∙ ap (λ (xs : List (List ℕ)). xs ++ e.term ∷ []) so_far.terms ∙ sym (map-append (λ (e : ListEntry). e.term) lists (e ∷ []));
      each = All-push IsEntry entries one so_far.each is;
      postings = ap (sum_by count_of) (flat_map-append (λ (x : EntryData). x.heads) entries (one ∷ []))
          ∙ sum_by-append count_of (all_heads entries) (all_heads (one ∷ []))
          ∙ ap₂ (λ (a b : ℕ). a + b) so_far.postings (ap (sum_by count_of) (append-nil (chosen_heads docs segments)) ∙ counted docs segments ∙ count)
          ∙ sym (sum_by-append (λ (e : ListEntry). e.place.count) lists (e ∷ []) ∙ ap (λ n. sum_by (λ (e : ListEntry). e.place.count) lists + n) (single e));
    }
  where
    single : (e : ListEntry) → sum_by (λ (e : ListEntry). e.place.count) (e ∷ []) ≡ e.place.count
    single e = search rules

-- the same by the heads that a row has
pub rows_more : (docs : ℕ) (lists : List ListEntry) (heads : List TermHeads) (e : ListEntry) (t : TermHeads) (segments : List SegmentData) → t.term ≡ e.term → map head_data t.heads ≡ chosen_heads docs segments
    → IsEntry (chosen_entry docs (record { term = e.term; segments = segments })) → sum_by (λ (s : SegmentData). length s.docs) segments ≡ e.place.count
    → HaveEntries lists (map entry_data heads) → HaveEntries (lists ++ e ∷ []) (map entry_data (heads ++ t ∷ []))
rows_more docs lists heads e t segments term made is count so_far =
    subst (λ (xs : List EntryData). HaveEntries (lists ++ e ∷ []) xs)
    (ap (λ (x : EntryData). map entry_data heads ++ x ∷ []) (sym (same_entry docs e t segments term made)) ∙ sym (map-append entry_data heads (t ∷ [])))
    (entries_more docs lists (map entry_data heads) e segments is count so_far)

pub unmap : {A B : Type 0} (R : B → B → Type 0) (f : A → B) (xs : List A) → Pairs R (map f xs) → Pairs (λ (a b : A). R (f a) (f b)) xs
unmap R f [] h = tt
unmap {A} {B} R f (x ∷ xs) h = (each xs h.0, unmap R f xs h.1)
  where
    each : (ys : List A) → AllByRecursion (λ (y : B). R (f x) y) (map f ys) → AllByRecursion (λ (y : A). R (f x) (f y)) ys
    each [] k = tt
    each (y ∷ ys) k = (k.0, each ys k.1)

pub as_many : (lists : List ListEntry) (entries : List EntryData) → HaveEntries lists entries → length entries ≡ length lists
as_many lists entries have = sym (length-map entries (λ (t : EntryData). t.term)) ∙ ap length have.terms ∙ length-map lists (λ (e : ListEntry). e.term)

-- all entries
pub all_entries : (lists : List ListEntry) (entries : List EntryData) → AllPairs (λ (a b : ListEntry). BytesRise a.term b.term) lists → length lists ≤ 2 ^ 24 → sum_by (λ (e : ListEntry). e.place.count) lists ≤ 2 ^ 29
    → HaveEntries lists entries → AreEntries entries
all_entries lists entries rising few postings have =
    let long : length entries ≡ length lists = as_many lists entries have in
    let terms : Pairs BytesRise (map (λ (t : EntryData). t.term) entries) = subst (λ (xs : List (List ℕ)). Pairs BytesRise xs) (sym have.terms) (pairs_map BytesRise (λ (e : ListEntry). e.term) lists (pairs_by_recursion (λ (a b : ListEntry). BytesRise a.term b.term) lists rising)) in
    record {
      few = omega (arith, long, few);
      rising = pairs_by_places RisesTo entries (unmap BytesRise (λ (t : EntryData). t.term) entries terms);
      each = have.each;
      postings = omega (arith, have.postings, postings);
    }

pub no_entries : HaveEntries [] []
no_entries = record { terms = refl; each = λ i d low. absurd (omega (arith, low)); postings = refl }

-- a list that is refused is one of all
module _ (files now : Option Files) (old walk : WalkView) (w : Weighing) (bits : Bits) (range : Range) (lists front rest : List ListEntry) (e : ListEntry) (is : lists ≡ front ++ e ∷ rest) where
  pub fails_one : (fault : CiffFault) → now ≡ files → LeavesWalk old walk → ForContent now walk.name (λ content. FailsOf w bits range (list_there content walk.docs e.place.at).postings fault)
      → ForContent files old.name (λ content. FailsAllInside content old.docs w bits range lists fault)
  fails_one fault same leaves fails =
      for_one files old.name (λ content. FailsOf w bits range (list_there content old.docs e.place.at).postings fault) (λ content. FailsAllInside content old.docs w bits range lists fault)
      (λ content. by content fault) (told_then files now old walk (λ docs content. FailsOf w bits range (list_there content docs e.place.at).postings fault) same leaves fails)
    where
      by : (content : List ℕ) (fault : CiffFault) → FailsOf w bits range (list_there content old.docs e.place.at).postings fault → FailsAllInside content old.docs w bits range lists fault
      by content (faults.Refused refusal) outside = λ inside.
          outside (middle (λ (e : ListEntry). IsInside content old.docs w bits range e.place.at) front rest e (subst (λ (ls : List ListEntry). AreInside content old.docs w bits range ls) is inside))
      by content faults.ReadFault fails = tt
      by content faults.NoMemory fails = tt

-- the heads of a list that was read by a walk's own name and number of documents, which are those before
pub headed_then : (files now : Option Files) (old walk : WalkView) (w : Weighing) (bits : Bits) (range : Range) (e : ListEntry) (before after : List TermHeads) → now ≡ files → LeavesWalk old walk
    → HasOneMore now walk.name walk.docs w bits range e before after → HasOneMore files old.name old.docs w bits range e before after
headed_then files now old walk w bits range e before after same leaves is =
    subst (λ (d : ℕ). HasOneMore files old.name d w bits range e before after) leaves.docs
    (subst (λ (n : List ℕ). HasOneMore files n walk.docs w bits range e before after) leaves.name
    (subst (λ (f : Option Files). HasOneMore f walk.name walk.docs w bits range e before after) same is))
