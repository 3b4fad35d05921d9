-- What the first pass over a file keeps, piece by piece.
use Rattle.shared_lemmas.proofs.Common.{◌≡◌, ◌≢◌, ℕ, ◌+◌, ◌-◌, ◌≤◌, ◌<◌, ◌⊎◌, inl, inr, Bool, true, false, cond, List, [], ◌∷◌, ◌++◌, map, length, filter, Option, Some, None, Result, Ok, Err, refl, sym, ap, subst, ◌∙◌, arith, ◌||◌, ◌==◌, All, AllPairs, IsSome, bytes_eq, AllByRecursion, AllZip}
use Rattle.shared_lemmas.proofs.Common.{IsStrictlyIncreasing, nat_tests, not_from_Decides, length-append, map-append, All-from_recursion, All-nil, All-push, filter-append, all_pairs_push, bytes_eq-Decides}
use Rattle.index_import.proofs.Below.{header_data, list_data, FitsList, HeaderData, ListData, HasDocsBelow, Files, ForContent, HasTfInRange, docs_of, DocRecord, Header, Posting, PostingsList, Assembles, IsKeptList, Parts, collection_of, only_header, with_piece, Advances, GivesPiece, GivesTold}
use Rattle.index_import.proofs.Below.{piece_data, NumberedDoc, is_among, numbers_of, is_marked, DocPiece, EndPiece, IsReached, KeptList, ListPiece, PieceData, Progress, StartPiece, Step, header_of_file, next_of, terms_kept, FailsReading, read_ciff, is_seen, Begins, IsListAt, Keeps, KeepsRanges}
use Rattle.index_import.proofs.Below.{StandsFor, StandsTold, WalkView, kept_of, IsWalkOver, Piece, CiffFault, CiffRefusal, for_all, for_both, for_one, most_tf, list_fits}
use Rattle.ciff_read.specs.declared.piece.Piece.TheVariants as pieces
use Rattle.ciff_read.specs.declared.refusal.CiffFault.TheVariants as faults
use Rattle.index_import.specs.Private.KeptDocs.{numbered}
use Rattle.index_import.specs.Private.Surveying.{AreKept, HoldsMost, IsSurvey, KeepsAll, KeepsList, entry_postings, has_some, kept_entry}
use Rattle.index_import.specs.declared.list_entry.ListEntry.{ListEntry}

-- ---- what is kept, whether or not the content is told

-- what was kept of the pieces that a walk has given
pub record Holds (name : List ℕ) (w : WalkView) (docs : List NumberedDoc) (lists : List ListEntry) : Type 0 where
  pub name_is : w.name ≡ name
  pub unanswered : w.answered ≡ None
  pub ranges : KeepsRanges w
  pub lists_are : map kept_entry lists ≡ filter has_some w.kept
  pub differ : AllPairs (λ (a b : List ℕ). a ≢ b) (terms_kept w.kept)
  pub given : length docs ≡ w.given

pub nothing_held : (name : List ℕ) (w : WalkView) (docs : List NumberedDoc) (lists : List ListEntry) → Begins name w → KeepsRanges w → docs ≡ [] → lists ≡ [] → Holds name w docs lists
nothing_held name w docs lists begins ranges no_docs no_lists = record {
  name_is = begins.name_is;
  unanswered = begins.answered;
  ranges = ranges;
  lists_are = ap (map kept_entry) no_lists ∙ sym (ap (filter has_some) begins.kept);
  differ = subst (λ (kept : List KeptList). AllPairs (λ (a b : List ℕ). a ≢ b) (terms_kept kept)) (sym begins.kept) (λ i j d less inside. absurd (omega (arith, inside)));
  given = ap length no_docs ∙ sym begins.given;
}

-- a list without postings is passed over, another one is kept
pub none_more : (kept : List KeptList) (k : KeptList) → k.count ≡ 0 → filter has_some (kept ++ k ∷ []) ≡ filter has_some kept
none_more [] k none = rw none refl
none_more (x ∷ kept) k none = go (has_some x) (none_more kept k none)
  where
    go : (test : Bool) → filter has_some (kept ++ k ∷ []) ≡ filter has_some kept → cond test (x ∷ filter has_some (kept ++ k ∷ [])) (filter has_some (kept ++ k ∷ [])) ≡ cond test (x ∷ filter has_some kept) (filter has_some kept)
    go true again = ap (λ (l : List KeptList). x ∷ l) again
    go false again = again

pub one_more : (kept : List KeptList) (k : KeptList) → 1 ≤ k.count → filter has_some (kept ++ k ∷ []) ≡ filter has_some kept ++ k ∷ []
one_more kept k some =
    let passes : has_some k ≡ true = grind (arith, nat_tests) in
    filter-append has_some kept (k ∷ []) ∙ ap (λ (l : List KeptList). filter has_some kept ++ l) (one passes)
  where
    one : has_some k ≡ true → filter has_some (k ∷ []) ≡ k ∷ []
    one passes = rw passes refl

-- the terms of lists go on to differ with one that is new
unseen : (term : List ℕ) (terms : List (List ℕ)) → is_seen term terms ≡ false → AllByRecursion (λ (t : List ℕ). t ≢ term) terms
unseen term [] new = tt
unseen term (t ∷ terms) new = go (bytes_eq term t) refl (λ none. unseen term terms none) new
  where
    go : (test : Bool) → bytes_eq term t ≡ test → (is_seen term terms ≡ false → AllByRecursion (λ (u : List ℕ). u ≢ term) terms) → (test || is_seen term terms) ≡ false → (t ≢ term) × AllByRecursion (λ (u : List ℕ). u ≢ term) terms
    go true is again new = absurd cc
    go false is again new = ((λ same. not_from_Decides (bytes_eq term t) (bytes_eq-Decides term t) is (sym same)), again new)

pub terms_more : (kept : List KeptList) (k : KeptList) → AllPairs (λ (a b : List ℕ). a ≢ b) (terms_kept kept) → is_seen k.term (terms_kept kept) ≡ false → AllPairs (λ (a b : List ℕ). a ≢ b) (terms_kept (kept ++ k ∷ []))
terms_more kept k differ new =
    subst (λ (terms : List (List ℕ)). AllPairs (λ (a b : List ℕ). a ≢ b) terms) (sym (map-append (λ (x : KeptList). x.term) kept (k ∷ [])))
    (all_pairs_push (λ (a b : List ℕ). a ≢ b) (terms_kept kept) k.term differ (λ i d low. All-from_recursion (λ (t : List ℕ). t ≢ k.term) (terms_kept kept) (unseen k.term (terms_kept kept) new) i d low))

-- what is kept behind a piece
module _ (name : List ℕ) (old new : WalkView) (docs : List NumberedDoc) (lists : List ListEntry) (before : Holds name old docs lists) (named : new.name ≡ old.name) (unanswered : new.answered ≡ None) (ranges : KeepsRanges new) where
  pub same_held : new.kept ≡ old.kept → new.given ≡ old.given → Holds name new docs lists
  same_held kept given = record {
    name_is = named ∙ before.name_is;
    unanswered = unanswered;
    ranges = ranges;
    lists_are = before.lists_are ∙ sym (ap (filter has_some) kept);
    differ = subst (λ (ks : List KeptList). AllPairs (λ (a b : List ℕ). a ≢ b) (terms_kept ks)) (sym kept) before.differ;
    given = before.given ∙ sym given;
  }

  empty_held : (k : KeptList) → new.kept ≡ old.kept ++ k ∷ [] → new.given ≡ old.given → is_seen k.term (terms_kept old.kept) ≡ false → k.count ≡ 0 → Holds name new docs lists
  empty_held k kept given new_term none = record {
    name_is = named ∙ before.name_is;
    unanswered = unanswered;
    ranges = ranges;
    lists_are = before.lists_are ∙ sym (none_more old.kept k none) ∙ sym (ap (filter has_some) kept);
    differ = subst (λ (ks : List KeptList). AllPairs (λ (a b : List ℕ). a ≢ b) (terms_kept ks)) (sym kept) (terms_more old.kept k before.differ new_term);
    given = before.given ∙ sym given;
  }

  list_held : (k : KeptList) (entry : ListEntry) (longer : List ListEntry) → new.kept ≡ old.kept ++ k ∷ [] → new.given ≡ old.given → is_seen k.term (terms_kept old.kept) ≡ false → 1 ≤ k.count → kept_entry entry ≡ k → longer ≡ lists ++ entry ∷ [] → Holds name new docs longer
  list_held k entry longer kept given new_term some is more = record {
    name_is = named ∙ before.name_is;
    unanswered = unanswered;
    ranges = ranges;
    lists_are = ap (map kept_entry) more ∙ map-append kept_entry lists (entry ∷ []) ∙ ap (λ (ks : List KeptList). ks ++ kept_entry entry ∷ []) before.lists_are
        ∙ ap (λ (x : KeptList). filter has_some old.kept ++ x ∷ []) is ∙ sym (one_more old.kept k some) ∙ sym (ap (filter has_some) kept);
    differ = subst (λ (ks : List KeptList). AllPairs (λ (a b : List ℕ). a ≢ b) (terms_kept ks)) (sym kept) (terms_more old.kept k before.differ new_term);
    given = before.given ∙ sym given;
  }

  pub doc_held : (x : NumberedDoc) (longer : List NumberedDoc) → new.kept ≡ old.kept → new.given ≡ old.given + 1 → longer ≡ docs ++ x ∷ [] → Holds name new longer lists
  doc_held x longer kept given more = record {
    name_is = named ∙ before.name_is;
    unanswered = unanswered;
    ranges = ranges;
    lists_are = before.lists_are ∙ sym (ap (filter has_some) kept);
    differ = subst (λ (ks : List KeptList). AllPairs (λ (a b : List ℕ). a ≢ b) (terms_kept ks)) (sym kept) before.differ;
    given = ap length more ∙ length-append docs (x ∷ []) ∙ ap (λ n. n + 1) before.given ∙ sym given;
  }

pub entry_is : (e : ListEntry) (at : ℕ) (list : PostingsList) → e.term ≡ list.term → e.place.at ≡ at → e.place.count ≡ length list.postings → kept_entry e ≡ kept_of at list
entry_is e at list term place count = cc

-- the postings that are kept of a list are its own
module _ (e : ListEntry) (list : PostingsList) (count : e.place.count ≡ length list.postings) (kept : (entry_postings e ≡ []) ⊎ (entry_postings e ≡ list.postings)) where
  kept_same : 1 ≤ length (entry_postings e) → entry_postings e ≡ list.postings
  kept_same some = one kept
    where
      one : (entry_postings e ≡ []) ⊎ (entry_postings e ≡ list.postings) → entry_postings e ≡ list.postings
      one (inl none) = absurd (omega (arith, some, ap length none))
      one (inr same) = same

  kept_fit : (docs : ℕ) → HasDocsBelow docs list → KeepsAll docs e
  kept_fit docs below some =
      let same : entry_postings e ≡ list.postings = kept_same some in
      record {
        counted = ap length same ∙ sym count;
        rising = subst (λ (postings : List Posting). IsStrictlyIncreasing (docs_of postings)) (sym same) list.rising;
        tf = subst (All HasTfInRange) (sym same) list.tf_in_range;
        below = subst (λ (postings : List Posting). All (λ doc. doc < docs) (docs_of postings)) (sym same) below;
      }

-- keeping all, list by list
pub keeps_none : (docs : ℕ) (lists : List ListEntry) → lists ≡ [] → All (KeepsAll docs) lists
keeps_none docs lists none = subst (All (KeepsAll docs)) (sym none) (All-nil (KeepsAll docs))

pub keeps_same : (docs now : ℕ) (lists : List ListEntry) → now ≡ docs → All (KeepsAll docs) lists → All (KeepsAll now) lists
keeps_same docs now lists same all = subst (λ (n : ℕ). All (KeepsAll n) lists) (sym same) all

keeps_more : (docs now : ℕ) (lists longer : List ListEntry) (e : ListEntry) → now ≡ docs → longer ≡ lists ++ e ∷ [] → KeepsAll docs e → All (KeepsAll docs) lists → All (KeepsAll now) longer
keeps_more docs now lists longer e same more one all = keeps_same docs now longer same (subst (All (KeepsAll docs)) (sym more) (All-push (KeepsAll docs) lists e all one))

-- keeping a list, whether or not it has postings
pub list_kept_held : (name : List ℕ) (old new : WalkView) (docs : List NumberedDoc) (lists longer : List ListEntry) (at : ℕ) (list : PostingsList) → Holds name old docs lists → new.name ≡ old.name → new.answered ≡ None → KeepsRanges new
    → new.kept ≡ old.kept ++ kept_of at list ∷ [] → new.given ≡ old.given → is_seen list.term (terms_kept old.kept) ≡ false → KeepsList at list lists longer → Holds name new docs longer
list_kept_held name old new docs lists longer at list before named unanswered ranges kept given unseen (inl passed) =
    subst (Holds name new docs) (sym passed.1) (empty_held name old new docs lists before named unanswered ranges (kept_of at list) kept given unseen passed.0)
list_kept_held name old new docs lists longer at list before named unanswered ranges kept given unseen (inr (e, of, more)) =
    list_held name old new docs lists before named unanswered ranges (kept_of at list) e longer kept given unseen (subst (λ (n : ℕ). 1 ≤ n) of.count e.place.some) (entry_is e at list of.term of.placed of.count) more

pub keeps_list : (docs now at : ℕ) (list : PostingsList) (lists longer : List ListEntry) → now ≡ docs → HasDocsBelow docs list → KeepsList at list lists longer → All (KeepsAll docs) lists → All (KeepsAll now) longer
keeps_list docs now at list lists longer same below (inl passed) all = subst (All (KeepsAll now)) (sym passed.1) (keeps_same docs now lists same all)
keeps_list docs now at list lists longer same below (inr (e, of, more)) all = keeps_more docs now lists longer e same more (kept_fit e list of.count of.kept docs below) all

-- what was kept at the end of a file
pub all_kept : (name : List ℕ) (old new : WalkView) (docs : List NumberedDoc) (lists : List ListEntry) → Holds name old docs lists → All (KeepsAll old.docs) lists → KeepsRanges new → new.kept ≡ old.kept → old.given ≡ old.docs → new.docs ≡ old.docs
    → AreKept new docs lists
all_kept name old new docs lists before keeps ranges kept given count = record {
  ranges = ranges;
  lists_are = before.lists_are ∙ sym (ap (filter has_some) kept);
  differ = subst (λ (ks : List KeptList). AllPairs (λ (a b : List ℕ). a ≢ b) (terms_kept ks)) (sym kept) before.differ;
  docs_are = before.given ∙ given ∙ sym count;
  keep_all = keeps_same old.docs new.docs lists count keeps;
}

-- ---- how many pieces are left but for the last

abbrev pub headers_left : Option HeaderData → ℕ
headers_left (Some header) = 1
headers_left None = 0

abbrev pub pieces_left : WalkView → ℕ
pieces_left w = headers_left w.header + (w.lists - length w.kept) + (w.docs - w.given)

-- ---- what is known of the content, where that is told

-- what was kept are the parts of the content up to the walk's place
pub record Follows (content : List ℕ) (w : WalkView) (docs : List NumberedDoc) : Type 0 where
  pub progress : Progress
  pub parts : Parts
  pub keeps : Keeps w progress
  pub assembles : Assembles content progress parts
  pub records : parts.records ≡ docs
  pub once : AllPairs (λ (a b : NumberedDoc). a.number ≢ b.number) docs

-- that the pieces of a file make up the collection that is read of it
pub record PieceLaws : Type 0 where
  pub bad_header : (content : List ℕ) (e : CiffRefusal) → header_of_file content ≡ Err e → read_ciff content ≡ Err e
  pub start : (content : List ℕ) (p : Progress) (h : HeaderData) → IsReached content p → p.header ≡ Some h → Assembles content p (only_header h)
  pub piece : (content : List ℕ) (p : Progress) (parts : Parts) (s : Step) → Assembles content p parts → next_of content p ≡ Ok s → Assembles content s.later (with_piece parts s.piece)
  pub end : (content : List ℕ) (p : Progress) (parts : Parts) (s : Step) → Assembles content p parts → next_of content p ≡ Ok s → s.piece ≡ EndPiece → read_ciff content ≡ Ok (collection_of parts)
  pub refused : (content : List ℕ) (p : Progress) (parts : Parts) (e : CiffRefusal) → Assembles content p parts → next_of content p ≡ Err e → read_ciff content ≡ Err e

-- the last of some lists is the last one kept
last_kept : (R : KeptList → ListData → Type 0) (kept : List KeptList) (lists : List ListData) (k : KeptList) (l : ListData) → AllZip R (kept ++ k ∷ []) (lists ++ l ∷ []) → R k l
last_kept R [] [] k l each = each.0
last_kept R [] (x ∷ []) k l each = absurd each.1
last_kept R [] (x ∷ y ∷ lists) k l each = absurd each.1
last_kept R (x ∷ []) [] k l each = absurd each.1
last_kept R (x ∷ y ∷ kept) [] k l each = absurd each.1
last_kept R (x ∷ kept) (y ∷ lists) k l each = last_kept R kept lists k l each.1

-- a number that isn't marked is that of no record
unnumbered : (number : ℕ) (docs : List NumberedDoc) → is_among number (numbers_of docs) ≡ false → AllByRecursion (λ (x : NumberedDoc). x.number ≢ number) docs
unnumbered number [] new = tt
unnumbered number (x ∷ docs) new = go (x.number == number) refl (λ none. unnumbered number docs none) new
  where
    go : (test : Bool) → (x.number == number) ≡ test → (is_among number (numbers_of docs) ≡ false → AllByRecursion (λ (y : NumberedDoc). y.number ≢ number) docs)
        → (test || is_among number (numbers_of docs)) ≡ false → (x.number ≢ number) × AllByRecursion (λ (y : NumberedDoc). y.number ≢ number) docs
    go true is again new = absurd cc
    go false is again new = ((λ same. grind (arith, nat_tests)), again new)

module _ (laws : PieceLaws) (content : List ℕ) where
  -- a walk that has given nothing
  pub nothing_follows : (w : WalkView) (docs : List NumberedDoc) → IsSome w.header → w.answered ≡ None → docs ≡ [] → StandsFor content w → Follows content w docs
  nothing_follows w docs some unanswered none stands = subst (Follows content w) (sym none) (go w.header refl some)
    where
      go : (header : Option HeaderData) → w.header ≡ header → IsSome header → Follows content w []
      go None is none = absurd cc
      go (Some h) is some =
          let here = stands unanswered in
          record {
            progress = here.progress;
            parts = only_header h;
            keeps = here.keeps;
            assembles = laws.start content here.progress h here.reached (sym here.keeps.header ∙ is);
            records = refl;
            once = λ i j d less inside. absurd (omega (arith, inside));
          }

  module _ (old new : WalkView) (docs : List NumberedDoc) (before : Follows content old docs) where
    -- one piece more
    onward : (piece : PieceData) (later : List NumberedDoc) → Advances content before.progress piece new → (with_piece before.parts piece).records ≡ later → AllPairs (λ (a b : NumberedDoc). a.number ≢ b.number) later → Follows content new later
    onward piece later next records once = record {
      progress = next.step.later;
      parts = with_piece before.parts piece;
      keeps = next.keeps;
      assembles = subst (λ (x : PieceData). Assembles content next.step.later (with_piece before.parts x)) (sym next.piece_is) (laws.piece content before.progress before.parts next.step before.assembles next.next);
      records = records;
      once = once;
    }

    pub start_follows : (header : HeaderData) (lists count : ℕ) → Advances content before.progress (StartPiece header lists count) new → Follows content new docs
    start_follows header lists count next = onward (StartPiece header lists count) docs next before.records before.once

    pub list_follows : (at : ℕ) (list : ListData) → Advances content before.progress (ListPiece at list) new → Follows content new docs
    list_follows at list next = onward (ListPiece at list) docs next before.records before.once

    -- the list that was given is the one at its place
    pub list_kept : (at : ℕ) (list : ListData) (k : KeptList) → Advances content before.progress (ListPiece at list) new → new.kept ≡ old.kept ++ k ∷ [] → IsKeptList content new.docs k list
    list_kept at list k next kept =
        let later : Progress = next.step.later in
        let assembled : Assembles content later (with_piece before.parts (ListPiece at list))
        = subst (λ (x : PieceData). Assembles content later (with_piece before.parts x)) (sym next.piece_is) (laws.piece content before.progress before.parts next.step before.assembles next.next) in
        let all : List ListData = before.parts.lists ++ list ∷ [] in
        let named : AllZip (IsKeptList content new.docs) later.kept all = subst (λ (n : ℕ). AllZip (IsKeptList content n) later.kept all) (sym next.keeps.docs) assembled.lists in
        last_kept (IsKeptList content new.docs) old.kept before.parts.lists k list
        (subst (λ (ks : List KeptList). AllZip (IsKeptList content new.docs) ks all) (sym next.keeps.kept ∙ kept) named)

    pub doc_follows : (number : ℕ) (item : DocRecord) → is_marked old.marks number ≡ false → Advances content before.progress (DocPiece (numbered (number, item))) new → Follows content new (docs ++ numbered (number, item) ∷ [])
    doc_follows number item unmarked next =
        let known : before.progress.numbers ≡ numbers_of docs = before.assembles.numbers ∙ ap numbers_of before.records in
        let new_number : is_among number (numbers_of docs) ≡ false = ap (is_among number) (sym known) ∙ sym (before.keeps.marks number) ∙ unmarked in
        onward (DocPiece (numbered (number, item))) (docs ++ numbered (number, item) ∷ []) next
        (ap (λ (rs : List NumberedDoc). rs ++ numbered (number, item) ∷ []) before.records)
        (all_pairs_push (λ (a b : NumberedDoc). a.number ≢ b.number) docs (numbered (number, item)) before.once (λ i d low. All-from_recursion (λ (x : NumberedDoc). x.number ≢ number) docs (unnumbered number docs new_number) i d low))

    -- the last piece
    pub end_follows : (lists : List ListEntry) → new.kept ≡ old.kept → new.docs ≡ old.docs → Advances content before.progress EndPiece new → All (HoldsMost content old.docs) lists → IsSurvey content new docs lists
    end_follows lists kept count next most = record {
      parts = before.parts;
      read = laws.end content before.progress before.parts next.step before.assembles next.next (sym next.piece_is);
      records = before.records;
      once = before.once;
      lists = subst (λ (n : ℕ). AllZip (IsKeptList content n) new.kept before.parts.lists) (sym (count ∙ before.keeps.docs))
          (subst (λ (ks : List KeptList). AllZip (IsKeptList content before.progress.docs) ks before.parts.lists) (sym (kept ∙ before.keeps.kept)) before.assembles.lists);
      most = subst (λ (n : ℕ). All (HoldsMost content n) lists) (sym count) most;
    }

    -- no piece, but a fault
    pub fault_follows : (fault : CiffFault) → FailsReading fault (next_of content before.progress) → FailsReading fault (read_ciff content)
    fault_follows (faults.Refused refusal) is = laws.refused content before.progress before.parts refusal before.assembles is
    fault_follows faults.ReadFault is = tt
    fault_follows faults.NoMemory is = tt

-- what a call gives of the content under the name that the walk began with
pub gives_there : (told now : Option Files) (name : List ℕ) (old new : WalkView) (result : Result Piece CiffFault) → now ≡ told → old.name ≡ name → old.answered ≡ None → StandsTold told old → GivesTold now old new result
    → ForContent told name (λ content. (p : Progress) → Keeps old p → GivesPiece content p result new)
gives_there told now name old new result same named unanswered stands gives =
    subst (λ (n : List ℕ). ForContent told n (λ content. (p : Progress) → Keeps old p → GivesPiece content p result new)) named
    (for_both told old.name (λ content. StandsFor content old)
    (λ content. old.answered ≡ None → IsWalkOver content old → (p : Progress) → Keeps old p → GivesPiece content p result new)
    (λ content. (p : Progress) → Keeps old p → GivesPiece content p result new)
    (λ content here given. given unanswered (here unanswered).over) stands (subst (λ (files : Option Files). GivesTold files old new result) same gives))

-- nothing is kept of no list, and what was kept stays so where the documents are as many
pub no_most : (told : Option Files) (name : List ℕ) (docs : ℕ) (lists : List ListEntry) → lists ≡ [] → ForContent told name (λ content. All (HoldsMost content docs) lists)
no_most told name docs lists none = for_all told name (λ content. All (HoldsMost content docs) lists) (λ content. subst (All (HoldsMost content docs)) (sym none) (All-nil (HoldsMost content docs)))

pub same_most : (told : Option Files) (name : List ℕ) (docs now : ℕ) (lists : List ListEntry) → now ≡ docs → ForContent told name (λ content. All (HoldsMost content docs) lists) → ForContent told name (λ content. All (HoldsMost content now) lists)
same_most told name docs now lists same most = subst (λ (n : ℕ). ForContent told name (λ content. All (HoldsMost content n) lists)) (sym same) most

-- what follows of what a call gives, where the content is told
module _ (laws : PieceLaws) (told : Option Files) (name : List ℕ) (old new : WalkView) (docs : List NumberedDoc) (before : ForContent told name (λ content. Follows content old docs)) where
  module _ (piece : Piece) (given : ForContent told name (λ content. (p : Progress) → Keeps old p → Advances content p (piece_data piece) new)) where
    next_told : (known : Piece) → piece ≡ known → (R : List ℕ → Type 0) → ((content : List ℕ) (follows : Follows content old docs) → Advances content follows.progress (piece_data known) new → R content) → ForContent told name R
    next_told known is R step =
        for_both told name (λ content. Follows content old docs) (λ content. (p : Progress) → Keeps old p → Advances content p (piece_data piece) new) R
        (λ content follows next. step content follows (subst (λ (x : Piece). Advances content follows.progress (piece_data x) new) is (next follows.progress follows.keeps))) before given

    pub start_told : (header : Header) (lists count : ℕ) → piece ≡ pieces.Start header lists count → ForContent told name (λ content. Follows content new docs)
    start_told header lists count is =
        next_told (pieces.Start header lists count) is (λ content. Follows content new docs) (λ content follows next. start_follows laws content old new docs follows (header_data header) lists count next)

    pub list_told : (at : ℕ) (list : PostingsList) → piece ≡ pieces.List at list → ForContent told name (λ content. Follows content new docs)
    list_told at list is = next_told (pieces.List at list) is (λ content. Follows content new docs) (λ content follows next. list_follows laws content old new docs follows at (list_data list) next)

    pub doc_told : (number : ℕ) (item : DocRecord) (longer : List NumberedDoc) → piece ≡ pieces.Doc number item → is_marked old.marks number ≡ false → longer ≡ docs ++ numbered (number, item) ∷ [] → ForContent told name (λ content. Follows content new longer)
    doc_told number item longer is unmarked more =
        next_told (pieces.Doc number item) is (λ content. Follows content new longer)
        (λ content follows next. subst (λ (ds : List NumberedDoc). Follows content new ds) (sym more) (doc_follows laws content old new docs follows number item unmarked next))

    most_told : (at : ℕ) (list : PostingsList) (entry : ListEntry) (lists longer : List ListEntry) → piece ≡ pieces.List at list → new.docs ≡ old.docs → new.kept ≡ old.kept ++ kept_of at list ∷ [] → HasDocsBelow old.docs list
        → entry.place.at ≡ at → entry.place.count ≡ length list.postings → entry.place.most ≡ most_tf list.postings → (1 ≤ length (entry_postings entry) → entry_postings entry ≡ list.postings) → longer ≡ lists ++ entry ∷ []
        → ForContent told name (λ content. All (HoldsMost content old.docs) lists) → ForContent told name (λ content. All (HoldsMost content new.docs) longer)
    most_told at list entry lists longer is count kept below placed counted most same more so_far =
        let fits : FitsList new.docs (list_data list) = list_fits new.docs list (subst (λ (n : ℕ). HasDocsBelow n list) (sym count) below) in
        for_both told name (λ content. All (HoldsMost content old.docs) lists) (λ content. HoldsMost content new.docs entry) (λ content. All (HoldsMost content new.docs) longer)
        (λ content all one. subst (All (HoldsMost content new.docs)) (sym more) (All-push (HoldsMost content new.docs) lists entry (subst (λ (n : ℕ). All (HoldsMost content n) lists) (sym count) all) one)) so_far
        (next_told (pieces.List at list) is (λ content. HoldsMost content new.docs entry)
        (λ content follows next. record {
          list = list_data list;
          there = subst (λ (n : ℕ). IsListAt content new.docs n (list_data list)) (sym placed) (list_kept laws content old new docs follows at (list_data list) (kept_of at list) next kept).there;
          fits = fits;
          count = counted;
          most = most;
          kept = same;
        }))

    pub most_kept : (at : ℕ) (list : PostingsList) (lists longer : List ListEntry) → piece ≡ pieces.List at list → new.docs ≡ old.docs → new.kept ≡ old.kept ++ kept_of at list ∷ [] → HasDocsBelow old.docs list → KeepsList at list lists longer
        → ForContent told name (λ content. All (HoldsMost content old.docs) lists) → ForContent told name (λ content. All (HoldsMost content new.docs) longer)
    most_kept at list lists longer is count kept below (inl passed) so_far =
        subst (λ (ls : List ListEntry). ForContent told name (λ content. All (HoldsMost content new.docs) ls)) (sym passed.1) (same_most told name old.docs new.docs lists count so_far)
    most_kept at list lists longer is count kept below (inr (e, of, more)) so_far =
        most_told at list e lists longer is count kept below of.placed of.count of.most (kept_same e list of.count of.kept) more so_far

    pub end_told : (lists : List ListEntry) → piece ≡ pieces.End → new.kept ≡ old.kept → new.docs ≡ old.docs → ForContent told name (λ content. All (HoldsMost content old.docs) lists) → ForContent told name (λ content. IsSurvey content new docs lists)
    end_told lists is kept count most =
        for_both told name (λ content. All (HoldsMost content old.docs) lists) (λ content. All (HoldsMost content old.docs) lists → IsSurvey content new docs lists) (λ content. IsSurvey content new docs lists)
        (λ content all then. then all) most
        (next_told pieces.End is (λ content. All (HoldsMost content old.docs) lists → IsSurvey content new docs lists) (λ content follows next. end_follows laws content old new docs follows lists kept count next))

  pub fault_told : (fault : CiffFault) → ForContent told name (λ content. (p : Progress) → Keeps old p → FailsReading fault (next_of content p)) → ForContent told name (λ content. FailsReading fault (read_ciff content))
  fault_told fault given =
      for_both told name (λ content. Follows content old docs) (λ content. (p : Progress) → Keeps old p → FailsReading fault (next_of content p)) (λ content. FailsReading fault (read_ciff content))
      (λ content follows next. fault_follows laws content old new docs follows fault (next follows.progress follows.keeps)) before given

-- a file whose header is refused is refused
pub unopened : PieceLaws → (told : Option Files) (name : List ℕ) (fault : CiffFault) → ForContent told name (λ content. FailsReading fault (header_of_file content)) → ForContent told name (λ content. FailsReading fault (read_ciff content))
unopened laws told name fault fails = for_one told name (λ content. FailsReading fault (header_of_file content)) (λ content. FailsReading fault (read_ciff content)) (λ content. refused fault content) fails
  where
    refused : (fault : CiffFault) (content : List ℕ) → FailsReading fault (header_of_file content) → FailsReading fault (read_ciff content)
    refused (faults.Refused refusal) content is = laws.bad_header content refusal is
    refused faults.ReadFault content is = tt
    refused faults.NoMemory content is = tt
