-- The lists that are spelled, one by one.
use Rattle.shared_lemmas.proofs.Common.{append-nil, append_assoc, ◌≡◌, ℕ, ◌≤◌, ◌^◌, List, [], ◌∷◌, ◌++◌, length, Option, refl, sym, ap, subst, ◌∙◌, arith, AllPairs, flat_map-append, length-append, map-append, sum_by-append}
use Rattle.std.specs.List.{sum_by}
use Rattle.index_import.proofs.Below.{BytesRise, Files, ForContent, Bits, Range, for_all, LeavesWalk, SegmentData, TermData, WalkView, chosen_entry, chosen_payloads, chosen_terms, table_payloads, IsEntry}
use Rattle.index_layout.specs.Heads.{TermHeads as EntryData, payloads_size}
use Rattle.index_write.specs.Spelled.{AreFew, AreSpelled, SpelledView}
use Rattle.index_import.specs.Private.Heading.{terms_there}
use Rattle.index_import.specs.Private.Spelling.{IsSpelling, SpellsOne}
use Rattle.index_import.specs.declared.list_entry.ListEntry.{ListEntry}
use Rattle.index_import.specs.declared.weighing.Weighing.{Weighing}
use Rattle.index_import.proofs.Headed.{HaveEntries, all_entries, as_many, entries_more, no_entries, terms_more}

abbrev count_in : ListEntry → ℕ
count_in e = e.place.count

-- what is spelled of some lists
pub record Spells (files : Option Files) (name : List ℕ) (docs : ℕ) (w : Weighing) (bits : Bits) (range : Range) (lists : List ListEntry) (view : SpelledView) (payloads : List ℕ) : Type 0 where
  pub terms : List TermData
  pub spelled : AreSpelled view (chosen_terms docs terms)
  pub payloads_are : payloads ≡ table_payloads docs terms
  pub entries : HaveEntries lists (chosen_terms docs terms)
  pub told : ForContent files name (λ content. terms ≡ terms_there content docs w bits range lists)

module _ (files : Option Files) (name : List ℕ) (docs : ℕ) (w : Weighing) (bits : Bits) (range : Range) where
  pub spells_none : (view : SpelledView) (payloads : List ℕ) → AreSpelled view [] → payloads ≡ [] → Spells files name docs w bits range [] view payloads
  spells_none view payloads are none = record {
    terms = [];
    spelled = are;
    payloads_are = none;
    entries = no_entries;
    told = for_all files name (λ content. (let nothing : List TermData = [] in nothing ≡ [])) (λ content. refl);
  }

  -- one list more
  pub spells_more : (lists front rest : List ListEntry) (e : ListEntry) (view after : SpelledView) (payloads more : List ℕ)
      → lists ≡ front ++ e ∷ rest → length lists ≤ 2 ^ 24 → sum_by count_in lists ≤ 2 ^ 29
      → (one : SpellsOne files name docs w bits range e view after payloads more) → IsEntry (chosen_entry docs (record { term = e.term; segments = one.segments }))
      → Spells files name docs w bits range front view payloads → Spells files name docs w bits range (front ++ e ∷ []) after more
  spells_more lists front rest e view after payloads more is short few here entry so_far =
      let segments : List SegmentData = here.segments in
      let one : TermData = record { term = e.term; segments = segments } in
      let entries : List EntryData = chosen_terms docs so_far.terms in
      let all : chosen_terms docs (so_far.terms ++ one ∷ []) ≡ entries ++ chosen_entry docs one ∷ [] = map-append (chosen_entry docs) so_far.terms (one ∷ []) in
      let have : HaveEntries (front ++ e ∷ []) (entries ++ chosen_entry docs one ∷ []) = entries_more docs front entries e segments entry here.are.postings so_far.entries in
      let parts : lists ≡ (front ++ e ∷ []) ++ rest = is ∙ sym (append_assoc front (e ∷ []) rest) in
      let fits : AreFew (entries ++ chosen_entry docs one ∷ []) = record {
        terms = omega (arith, as_many (front ++ e ∷ []) (entries ++ chosen_entry docs one ∷ []) have, short, ap length parts, length-append (front ++ e ∷ []) rest);
        postings = omega (arith, have.postings, ap (sum_by count_in) parts, sum_by-append count_in (front ++ e ∷ []) rest, few);
      } in
      record {
        terms = so_far.terms ++ one ∷ [];
        spelled = subst (AreSpelled after) (sym all) (here.put entries so_far.spelled fits);
        payloads_are = here.longer ∙ ap (λ (bytes : List ℕ). bytes ++ chosen_payloads docs segments) so_far.payloads_are
            ∙ ap (λ (bytes : List ℕ). table_payloads docs so_far.terms ++ bytes) (sym (append-nil (chosen_payloads docs segments)))
            ∙ sym (flat_map-append (λ (t : TermData). chosen_payloads docs t.segments) so_far.terms (one ∷ []));
        entries = subst (HaveEntries (front ++ e ∷ [])) (sym all) have;
        told = terms_more files name docs w bits range front so_far.terms e segments so_far.told here.told;
      }

  pub all_spelled : (lists front : List ListEntry) (view : SpelledView) (payloads : List ℕ) → front ≡ lists → AllPairs (λ (a b : ListEntry). BytesRise a.term b.term) lists → length lists ≤ 2 ^ 24 → sum_by count_in lists ≤ 2 ^ 29
      → ((d : ℕ) (terms : List TermData) → length (table_payloads d terms) ≡ payloads_size (chosen_terms d terms))
      → Spells files name docs w bits range front view payloads → IsSpelling files name docs w bits range lists view payloads
  all_spelled lists front view payloads all rising short few sizes so_far =
      let have : HaveEntries lists (chosen_terms docs so_far.terms) = subst (λ (ls : List ListEntry). HaveEntries ls (chosen_terms docs so_far.terms)) all so_far.entries in
      record {
        terms = so_far.terms;
        are = record {
          parts = record {
            spelled = so_far.spelled;
            are = all_entries lists (chosen_terms docs so_far.terms) rising short few have;
            sizes = ap length so_far.payloads_are ∙ sizes docs so_far.terms;
          };
          payloads_are = so_far.payloads_are;
        };
        told = subst (λ (ls : List ListEntry). ForContent files name (λ content. so_far.terms ≡ terms_there content docs w bits range ls)) all so_far.told;
      }

-- a list that was spelled by a walk's own name and number of documents, which are those before
pub spelled_then : (files now : Option Files) (old walk : WalkView) (w : Weighing) (bits : Bits) (range : Range) (e : ListEntry) (view after : SpelledView) (payloads more : List ℕ) → now ≡ files → LeavesWalk old walk
    → SpellsOne now walk.name walk.docs w bits range e view after payloads more → SpellsOne files old.name old.docs w bits range e view after payloads more
spelled_then files now old walk w bits range e view after payloads more same leaves is =
    subst (λ (d : ℕ). SpellsOne files old.name d w bits range e view after payloads more) leaves.docs
    (subst (λ (n : List ℕ). SpellsOne files n walk.docs w bits range e view after payloads more) leaves.name
    (subst (λ (f : Option Files). SpellsOne f walk.name walk.docs w bits range e view after payloads more) same is))
