-- The canonical file of a collection that keeps the limits stands for it.
use Rattle.shared_lemmas.proofs.Common.{◌≡◌, ℕ, suc, ◌+◌, ◌*◌, ◌^◌, ◌<◌, ◌≤◌, Bool, true, false, List, [], ◌∷◌, ◌++◌, length, refl, sym, ap, subst, ◌∙◌, append_assoc, arith, Some, ◌==◌, if◌then◌else◌, nat_eq, slice_get, AllByRecursion, AllZip, flat_map, nat_tests, recursion_from_All}
use Rattle.shared_lemmas.proofs.Common.{flat_map-append}
use Rattle.std.proofs.Common.{length-append}
use Rattle.std.specs.List.{IsDistinct}
use Rattle.ciff_write.proofs.Below.{IsSized, Spells, short_varint, ListData, DocData, CollectionData, IsCiff, IsHeader, IsList, IsDocAmong, FitsList, FitsDoc, sized, text_spelling, header_body, list_body, doc_body, docs_spelling}
use Rattle.jass_base.specs.CiffText.{canonical_ciff}
use Rattle.ciff_write.specs.Keeping.{KeepsLimits}
use Rattle.ciff_write.proofs.VarintLaws.{short_is_varint}
use Rattle.ciff_write.proofs.MessageLaws.{header_stands, doc_stands}
use Rattle.ciff_write.proofs.ListLaws.{list_stands}

-- ---- the messages

abbrev pub list_bodies : List ListData → List (List ℕ)
list_bodies [] = []
list_bodies (l ∷ ls) = list_body l ∷ list_bodies ls

abbrev pub doc_bodies : ℕ → List DocData → List (List ℕ)
doc_bodies number [] = []
doc_bodies number (d ∷ ds) = doc_body number d ∷ doc_bodies (number + 1) ds

abbrev pub header_of_file : CollectionData → List ℕ
header_of_file c = header_body c.header (length c.lists) (length c.docs)

abbrev pub bodies_of : CollectionData → List (List ℕ)
bodies_of c = list_bodies c.lists ++ doc_bodies 0 c.docs

lists_sized : (ls : List ListData) → flat_map sized (list_bodies ls) ≡ flat_map (λ (l : ListData). sized (list_body l)) ls
lists_sized [] = refl
lists_sized (l ∷ ls) = ap (λ (s : List ℕ). sized (list_body l) ++ s) (lists_sized ls)

docs_sized : (number : ℕ) (ds : List DocData) → flat_map sized (doc_bodies number ds) ≡ docs_spelling number ds
docs_sized number [] = refl
docs_sized number (d ∷ ds) = ap (λ (s : List ℕ). sized (doc_body number d) ++ s) (docs_sized (number + 1) ds)

pub file_messages : (c : CollectionData) → canonical_ciff c ≡ sized (header_of_file c) ++ flat_map sized (bodies_of c)
unfolding canonical_ciff
file_messages c =
    append_assoc (sized (header_of_file c)) (flat_map (λ (l : ListData). sized (list_body l)) c.lists) (docs_spelling 0 c.docs)
    ∙ ap (λ (s : List ℕ). sized (header_of_file c) ++ s)
    (ap (λ (s : List ℕ). s ++ docs_spelling 0 c.docs) (sym (lists_sized c.lists)) ∙ ap (λ (s : List ℕ). flat_map sized (list_bodies c.lists) ++ s) (sym (docs_sized 0 c.docs)) ∙ sym (flat_map-append sized (list_bodies c.lists) (doc_bodies 0 c.docs)))

-- each message is sized, where the file is short
all_sized : (bodies : List (List ℕ)) → length (flat_map sized bodies) ≤ 2 ^ 32 → Spells IsSized (flat_map sized bodies) bodies
all_sized [] short = refl
all_sized (b ∷ bs) short =
    let parts = length-append (sized b) (flat_map sized bs) in
    let size = length-append (short_varint (length b)) b in
    (sized b, flat_map sized bs, refl, record { size = short_varint (length b); parts = refl; sized = short_is_varint (length b) (omega (arith, short, parts, size)) }, all_sized bs (omega (arith, short, parts)))

-- ---- the lists

lists_stand : (docs : ℕ) (ls : List ListData) → docs ≤ 2 ^ 26 → AllByRecursion (FitsList docs) ls → AllZip (IsList docs) (list_bodies ls) ls
lists_stand docs [] few fits = tt
lists_stand docs (l ∷ ls) few fits = (list_stands docs l few fits.0, lists_stand docs ls few fits.1)

-- ---- the documents

abbrev numbers : ℕ → List DocData → List ℕ
numbers number [] = []
numbers number (d ∷ ds) = number ∷ numbers (number + 1) ds

there : (front : List DocData) (d : DocData) (ds : List DocData) → slice_get (front ++ d ∷ ds) (length front) ≡ Some d
there [] d ds = refl
there (x ∷ front) d ds = there front d ds

docs_among : (all front ds : List DocData) (number : ℕ) → all ≡ front ++ ds → number ≡ length front → length all ≤ 2 ^ 26 → AllByRecursion FitsDoc ds → AllZip (IsDocAmong all) (doc_bodies number ds) (numbers number ds)
docs_among all front [] number is at few fits = tt
docs_among all front (d ∷ ds) number is at few fits =
    let size : length all ≡ length (front ++ d ∷ ds) = ap (λ (xs : List DocData). length xs) is in
    let low : number < 2 ^ 26 = omega (arith, at, size, length-append front (d ∷ ds), few) in
    let more : length (front ++ d ∷ []) ≡ length front + 1 = length-append front (d ∷ []) in (
      record { doc = d; there = ap (slice_get all) at ∙ ap (λ (xs : List DocData). slice_get xs (length front)) is ∙ there front d ds; spelled = doc_stands number d low fits.0 },
      docs_among all (front ++ d ∷ []) ds (number + 1) (is ∙ sym (append_assoc front (d ∷ []) ds)) (omega (arith, at, more)) few fits.1,
    )

numbers_above : (low number : ℕ) (ds : List DocData) → low < number → AllByRecursion (λ y. nat_eq low y ≡ false) (numbers number ds)
numbers_above low number [] above = tt
numbers_above low number (d ∷ ds) above = (grind (arith, nat_tests), numbers_above low (number + 1) ds (omega (arith, above)))

numbers_differ : (number : ℕ) (ds : List DocData) → IsDistinct nat_eq (numbers number ds)
unfolding IsDistinct
numbers_differ number [] = tt
numbers_differ number (d ∷ ds) = (numbers_above number (number + 1) ds (omega arith), numbers_differ (number + 1) ds)

pub doc_bodies_long : (number : ℕ) (ds : List DocData) → length (doc_bodies number ds) ≡ length ds
doc_bodies_long number [] = refl
doc_bodies_long number (d ∷ ds) = ap suc (doc_bodies_long (number + 1) ds)

pub list_bodies_long : (ls : List ListData) → length (list_bodies ls) ≡ length ls
list_bodies_long [] = refl
list_bodies_long (l ∷ ls) = ap suc (list_bodies_long ls)

-- ---- the file

-- the description is shorter than the file
text_within : (i : ℕ) (text : List ℕ) → length text ≤ length (text_spelling i text)
text_within i text = go (length text == 0) refl
  where
    go : (b : Bool) → (length text == 0) ≡ b → length text ≤ length (if b then [] else short_varint (i * 8 + 2) ++ sized text)
    go true is = let none : length text ≡ 0 = grind (arith, nat_tests) in omega (arith, none)
    go false is = omega (arith, length-append (short_varint (i * 8 + 2)) (sized text), length-append (short_varint (length text)) text)

behind : (front back : List ℕ) → length back ≤ length (front ++ back)
behind front back = omega (arith, length-append front back)

description_within : (c : CollectionData) → length (text_spelling 8 c.header.description) ≤ length (header_of_file c)
description_within c = behind _ (text_spelling 8 c.header.description)

description_short : (c : CollectionData) → length (canonical_ciff c) ≤ 2 ^ 32 → length c.header.description < 2 ^ 64
description_short c short =
    let whole : length (canonical_ciff c) ≡ length (sized (header_of_file c) ++ flat_map sized (bodies_of c)) = ap (λ (s : List ℕ). length s) (file_messages c) in
    omega (arith, short, whole, length-append (sized (header_of_file c)) (flat_map sized (bodies_of c)), length-append (short_varint (length (header_of_file c))) (header_of_file c), text_within 8 c.header.description, description_within c)

pub file_header : (c : CollectionData) → KeepsLimits c → IsHeader (header_of_file c) c.header (length c.lists) (length c.docs)
file_header c keeps = header_stands c.header (length c.lists) (length c.docs) keeps.header keeps.average (description_short c keeps.short)

pub file_stands : (c : CollectionData) → KeepsLimits c → IsCiff (canonical_ciff c) c
file_stands c keeps =
    let head : List ℕ = header_of_file c in
    let short : length (sized head ++ flat_map sized (bodies_of c)) ≤ 2 ^ 32 = subst (λ (s : List ℕ). length s ≤ 2 ^ 32) (file_messages c) keeps.short in
    record {
      header_body = head;
      list_bodies = list_bodies c.lists;
      doc_bodies = doc_bodies 0 c.docs;
      messages = subst (λ (s : List ℕ). Spells IsSized s (head ∷ bodies_of c)) (sym (file_messages c)) (all_sized (head ∷ bodies_of c) short);
      header = file_header c keeps;
      lists = lists_stand (length c.docs) c.lists keeps.header.few_docs (recursion_from_All (FitsList (length c.docs)) c.lists keeps.lists);
      docs = record {
        numbers = numbers 0 c.docs;
        each = docs_among c.docs [] c.docs 0 refl refl keeps.header.few_docs (recursion_from_All FitsDoc c.docs keeps.docs);
        differ = numbers_differ 0 c.docs;
        all = doc_bodies_long 0 c.docs;
      };
      terms_differ = keeps.terms_differ;
      few_postings = keeps.few_postings;
      short = keeps.short;
    }
