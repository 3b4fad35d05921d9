-- The piece that a walk gives is the next one of the content.
use Rattle.shared_lemmas.proofs.Common.{◌≡◌, ◌∙◌, ℕ, suc, ◌+◌, ◌<◌, ◌≤◌, Bool, true, false, cond, List, [], ◌∷◌, ◌++◌, length, drop, Option, Some, None, Result, Ok, Err, refl, sym, ap, subst, arith, ◌==◌, ◌||◌, nat_lt, nat_tests, length-append, length-drop, list_any-append, cond-true, cond-false, lt-ltb}
use Rattle.shared_lemmas.proofs.Common.{le-ltb}
use Rattle.ciff_read.proofs.Below.{HeaderData, header_data, list_data, doc_data, Files, ForContent, DocRecord, Header, PostingsList}
use Rattle.ciff_read.specs.declared.piece.Piece.{Piece}
use Rattle.ciff_read.specs.declared.piece.Piece.TheVariants as pieces
use Rattle.ciff_read.specs.declared.refusal.CiffFault.{CiffFault}
use Rattle.ciff_read.specs.declared.refusal.CiffRefusal.{CiffRefusal}
use Rattle.ciff_read.specs.Given.{Advances, GivesPiece, GivesTold, piece_data}
use Rattle.ciff_read.specs.Judging.{is_among}
use Rattle.ciff_read.specs.Marks.{is_marked}
use Rattle.ciff_read.specs.Pieces.{KeptList, Progress, PieceData, StartPiece, ListPiece, DocPiece, EndPiece, Step, FileHeader, ListInFile, DocInFile, header_of_file, begun, with_list, with_doc, without_header, list_of_file, doc_of_file, list_next, doc_next, end_next, message_next, next_behind, next_of, postings_kept, terms_kept, after}
use Rattle.ciff_read.specs.Private.Reached.{GivesReading, MarksOf}
use Rattle.ciff_read.specs.Reaching.{FailsReading}
use Rattle.ciff_read.specs.Reading.{at_end}
use Rattle.ciff_read.specs.Refusals.{◌>>=◌}
use Rattle.ciff_read.specs.Walk.{WalkView, IsWalkOver, Keeps, Stands, StandsFor, StandsTold, OneMore, kept_of}
use Rattle.ciff_read.specs.Private.Walk.{StaysHeld, StaysOver, ListGiven, DocGiven, EndGiven, LeavesOthers, LeavesLists, LeavesPlace}
use Rattle.whole_files.specs.Windows.{AreFrom}
use Rattle.ciff_read.proofs.HeldParts.{reading_fails_on, reading_as}
use Rattle.whole_files.proofs.Told.{for_all, for_one, for_both, for_pair}

equal_turned : (m n : ℕ) → (m == n) ≡ (n == m)
equal_turned m n = grind (arith, nat_tests)

turned : (a b c : Bool) → a ≡ b → (a || c) ≡ (c || (b || false))
turned true true true same = refl
turned true true false same = refl
turned true false c same = absurd cc
turned false true c same = absurd cc
turned false false true same = refl
turned false false false same = refl

end_as : {A B : Type 0} (at : ℕ) (s : List ℕ) (x : A) (y : B) → (at_end at s x >>= λ z. Ok y) ≡ at_end at s y
end_as at [] x y = refl
end_as at (b ∷ s) x y = refl

no_more : {A : Type 0} (at : ℕ) (s : List ℕ) (x : A) → at_end at s x ≡ Ok x → length s ≡ 0
no_more at [] x is = refl
no_more at (b ∷ s) x is = absurd cc

next_as : (content : List ℕ) (p : Progress) (header : Option HeaderData) → p.header ≡ header → next_of content p ≡ next_behind header content p
unfolding next_of
next_as content p header is = ap (λ (o : Option HeaderData). next_behind o content p) is

module _ (content : List ℕ) (p : Progress) (old : WalkView) (keeps : Keeps old p) where
  start_given : (h : HeaderData) (now : WalkView) → old.header ≡ Some h → now.header ≡ None → now.lists ≡ old.lists → now.docs ≡ old.docs → now.at ≡ old.at → now.kept ≡ old.kept → now.given ≡ old.given → now.marks ≡ old.marks
      → Advances content p (StartPiece h old.lists old.docs) now
  start_given h now had gone lists docs at kept given marks = record {
    step = record { piece = StartPiece h p.lists p.docs; later = without_header p };
    next = next_as content p (Some h) (sym keeps.header ∙ had);
    piece_is = ap (λ n. StartPiece h n old.docs) keeps.lists ∙ ap (λ n. StartPiece h p.lists n) keeps.docs;
    keeps = record {
      header = gone;
      lists = lists ∙ keeps.lists;
      docs = docs ∙ keeps.docs;
      at = at ∙ keeps.at;
      kept = kept ∙ keeps.kept;
      given = given ∙ keeps.given;
      marks = λ n. ap (λ (words : List ℕ). is_marked words n) marks ∙ keeps.marks n;
    };
  }

  module _ (none : old.header ≡ None) where
    behind : next_of content p ≡ message_next content p
    behind = next_as content p None (sym keeps.header ∙ none)

    abbrev past : Result Step CiffRefusal
    past = cond (nat_lt (length p.numbers) p.docs) (doc_next content p) (end_next content p)

    -- where lists are left
    module _ (more : length old.kept < old.lists) where
      abbrev list_read : Result ListInFile CiffRefusal
      list_read = list_of_file content old.docs (postings_kept old.kept) (terms_kept old.kept) old.at

      abbrev list_there : Result ListInFile CiffRefusal
      list_there = list_of_file content p.docs (postings_kept p.kept) (terms_kept p.kept) p.at

      same_list : list_read ≡ list_there
      same_list =
          ap (λ n. list_of_file content n (postings_kept old.kept) (terms_kept old.kept) old.at) keeps.docs
          ∙ ap (λ (kept : List KeptList). list_of_file content p.docs (postings_kept kept) (terms_kept kept) old.at) keeps.kept
          ∙ ap (λ n. list_of_file content p.docs (postings_kept p.kept) (terms_kept p.kept) n) keeps.at

      to_list : next_of content p ≡ list_next content p
      to_list = behind ∙ cond-true (nat_lt (length p.kept) p.lists) (list_next content p) past (lt-ltb (length p.kept) p.lists (omega (arith, more, ap (λ (kept : List KeptList). length kept) keeps.kept, keeps.lists)))

      list_advances : (list : PostingsList) (now : WalkView) → list_read ≡ Ok (record { list = list_data list; end = now.at }) → now.kept ≡ old.kept ++ kept_of old.at list ∷ []
          → now.header ≡ old.header → now.lists ≡ old.lists → now.docs ≡ old.docs → now.given ≡ old.given → now.marks ≡ old.marks → Advances content p (ListPiece old.at (list_data list)) now
      list_advances list now read kept header lists docs given marks = record {
        step = record { piece = ListPiece p.at (list_data list); later = with_list p (list_data list) now.at };
        next = to_list ∙ ap (λ (r : Result ListInFile CiffRefusal). r >>= λ x. Ok (record { piece = ListPiece p.at x.list; later = with_list p x.list x.end })) (sym same_list ∙ read);
        piece_is = ap (λ n. ListPiece n (list_data list)) keeps.at;
        keeps = record {
          header = header ∙ none;
          lists = lists ∙ keeps.lists;
          docs = docs ∙ keeps.docs;
          at = refl;
          kept = kept ∙ ap (λ (ks : List KeptList). ks ++ kept_of old.at list ∷ []) keeps.kept ∙ ap (λ n. p.kept ++ kept_of n list ∷ []) keeps.at;
          given = given ∙ keeps.given;
          marks = λ n. ap (λ (words : List ℕ). is_marked words n) marks ∙ keeps.marks n;
        };
      }

      list_fails : (fault : CiffFault) → FailsReading fault list_read → FailsReading fault (next_of content p)
      list_fails fault fails =
          reading_as fault (list_next content p) (next_of content p) (sym to_list)
          (reading_fails_on fault list_there (λ (x : ListInFile). Ok (record { piece = ListPiece p.at x.list; later = with_list p x.list x.end })) (reading_as fault list_read list_there same_list fails))

    -- where no list is left
    module _ (lists_given : old.lists ≤ length old.kept) where
      past_lists : next_of content p ≡ past
      past_lists = behind ∙ cond-false (nat_lt (length p.kept) p.lists) (list_next content p) past (le-ltb (length p.kept) p.lists (omega (arith, lists_given, ap (λ (kept : List KeptList). length kept) keeps.kept, keeps.lists)))

      -- where documents are left
      module _ (more : old.given < old.docs) where
        abbrev doc_read : Result DocInFile CiffRefusal
        doc_read = doc_of_file content old.docs p.numbers old.at

        abbrev doc_there : Result DocInFile CiffRefusal
        doc_there = doc_of_file content p.docs p.numbers p.at

        same_doc : doc_read ≡ doc_there
        same_doc = ap (λ n. doc_of_file content n p.numbers old.at) keeps.docs ∙ ap (λ n. doc_of_file content p.docs p.numbers n) keeps.at

        to_doc : next_of content p ≡ doc_next content p
        to_doc = past_lists ∙ cond-true (nat_lt (length p.numbers) p.docs) (doc_next content p) (end_next content p) (lt-ltb (length p.numbers) p.docs (omega (arith, more, keeps.given, keeps.docs)))

        one_more : (words : List ℕ) (number : ℕ) → OneMore old.marks words number → (n : ℕ) → is_marked words n ≡ is_among n (p.numbers ++ number ∷ [])
        one_more words number is n =
            is n ∙ ap (λ b. n == number || b) (keeps.marks n) ∙ turned (n == number) (number == n) (is_among n p.numbers) (equal_turned n number) ∙ sym (list_any-append (λ m. m == n) p.numbers (number ∷ []))

        doc_advances : (number : ℕ) (item : DocRecord) (now : WalkView) → doc_read ≡ Ok (record { doc = record { number = number; doc = doc_data item }; end = now.at }) → OneMore old.marks now.marks number → now.given ≡ old.given + 1
            → now.header ≡ old.header → now.lists ≡ old.lists → now.docs ≡ old.docs → now.kept ≡ old.kept → Advances content p (DocPiece (record { number = number; doc = doc_data item })) now
        doc_advances number item now read marks given header lists docs kept = record {
          step = record { piece = DocPiece (record { number = number; doc = doc_data item }); later = with_doc p number now.at };
          next = to_doc ∙ ap (λ (r : Result DocInFile CiffRefusal). r >>= λ x. Ok (record { piece = DocPiece x.doc; later = with_doc p x.doc.number x.end })) (sym same_doc ∙ read);
          piece_is = refl;
          keeps = record {
            header = header ∙ none;
            lists = lists ∙ keeps.lists;
            docs = docs ∙ keeps.docs;
            at = refl;
            kept = kept ∙ keeps.kept;
            given = omega (arith, given, keeps.given, length-append p.numbers (number ∷ []));
            marks = one_more now.marks number marks;
          };
        }

        doc_fails : (fault : CiffFault) → FailsReading fault doc_read → FailsReading fault (next_of content p)
        doc_fails fault fails =
            reading_as fault (doc_next content p) (next_of content p) (sym to_doc)
            (reading_fails_on fault doc_there (λ (x : DocInFile). Ok (record { piece = DocPiece x.doc; later = with_doc p x.doc.number x.end })) (reading_as fault doc_read doc_there same_doc fails))

      -- where nothing is left
      module _ (docs_given : old.docs ≤ old.given) where
        to_end : next_of content p ≡ end_next content p
        to_end = past_lists ∙ cond-false (nat_lt (length p.numbers) p.docs) (doc_next content p) (end_next content p) (le-ltb (length p.numbers) p.docs (omega (arith, docs_given, keeps.given, keeps.docs)))

        abbrev end_read : Result PieceData CiffRefusal
        end_read = at_end old.at (drop old.at content) EndPiece

        abbrev last : Step
        last = record { piece = EndPiece; later = p }

        abbrev end_there : Result PieceData CiffRefusal
        end_there = at_end p.at (drop p.at content) EndPiece

        same_end : end_read ≡ end_there
        same_end = ap (λ n. at_end n (drop n content) EndPiece) keeps.at

        ended : (end_there >>= λ z. Ok last) ≡ end_next content p
        ended = end_as p.at (drop p.at content) EndPiece last

        end_advances : (now : WalkView) → end_read ≡ Ok EndPiece → now.header ≡ old.header → now.lists ≡ old.lists → now.docs ≡ old.docs → now.at ≡ old.at → now.kept ≡ old.kept → now.given ≡ old.given → now.marks ≡ old.marks → Advances content p EndPiece now
        end_advances now read header lists docs at kept given marks = record {
          step = last;
          next = to_end ∙ sym ended ∙ ap (λ (r : Result PieceData CiffRefusal). r >>= λ z. Ok last) (sym same_end ∙ read);
          piece_is = refl;
          keeps = record {
            header = header ∙ keeps.header;
            lists = lists ∙ keeps.lists;
            docs = docs ∙ keeps.docs;
            at = at ∙ keeps.at;
            kept = kept ∙ keeps.kept;
            given = given ∙ keeps.given;
            marks = λ n. ap (λ (words : List ℕ). is_marked words n) marks ∙ keeps.marks n;
          };
        }

        end_fails : (fault : CiffFault) → FailsReading fault end_read → FailsReading fault (next_of content p)
        end_fails fault fails =
            reading_as fault (end_there >>= λ z. Ok last) (next_of content p) (ended ∙ sym to_end) (reading_fails_on fault end_there (λ z. Ok last) (reading_as fault end_read end_there same_end fails))

-- the same where the content is told
module _ (told : Option Files) (old now : WalkView) where
  abbrev Given : Result Piece CiffFault → List ℕ → Type 0
  Given result content = old.answered ≡ None → IsWalkOver content old → (p : Progress) → Keeps old p → GivesPiece content p result now

  abbrev Read : {X Y : Type 0} → (X → Y) → Result X CiffFault → (List ℕ → Result Y CiffRefusal) → List ℕ → Type 0
  Read view result read content = AreFrom content old.start old.bytes → GivesReading view result (read content)

  pub told_start : (header : Header) (lists docs : ℕ) → lists ≡ old.lists → docs ≡ old.docs → old.header ≡ Some (header_data header) → now.header ≡ None → now.lists ≡ old.lists → now.docs ≡ old.docs → now.at ≡ old.at → now.kept ≡ old.kept → now.given ≡ old.given → now.marks ≡ old.marks
      → GivesTold told old now (Ok (pieces.Start header lists docs))
  told_start header lists docs lists_are docs_are had gone lists_stay docs_stay at kept given marks =
      subst (λ n. GivesTold told old now (Ok (pieces.Start header n docs))) (sym lists_are)
      (subst (λ n. GivesTold told old now (Ok (pieces.Start header old.lists n))) (sym docs_are)
      (for_all told old.name (Given (Ok (pieces.Start header old.lists old.docs))) (λ content. λ fresh over p keeps. start_given content p old keeps (header_data header) now had gone lists_stay docs_stay at kept given marks)))

  module _ (none : old.header ≡ None) where
    module _ (more : length old.kept < old.lists) where
      abbrev next_list : List ℕ → Result ListInFile CiffRefusal
      next_list content = list_of_file content old.docs (postings_kept old.kept) (terms_kept old.kept) old.at

      abbrev list_read_to : PostingsList → ListInFile
      list_read_to list = record { list = list_data list; end = now.at }

      pub told_list : (at : ℕ) (list : PostingsList) → at ≡ old.at → ListGiven told old now (Ok list) → now.kept ≡ old.kept ++ kept_of old.at list ∷ [] → LeavesOthers old now → GivesTold told old now (Ok (pieces.List at list))
      told_list at list here exact kept leaves =
          subst (λ n. GivesTold told old now (Ok (pieces.List n list))) (sym here)
          (for_one told old.name (Read list_read_to (Ok list) next_list) (Given (Ok (pieces.List old.at list)))
          (λ content read. λ fresh over p keeps. list_advances content p old keeps none more list now (read over.shows) kept leaves.header leaves.lists leaves.docs leaves.given leaves.marks) exact)

      pub told_list_not : (fault : CiffFault) → ListGiven told old now (Err fault) → GivesTold told old now (Err fault)
      told_list_not fault exact =
          for_one told old.name (Read list_read_to (Err fault) next_list) (Given (Err fault))
          (λ content fails. λ fresh over p keeps. list_fails content p old keeps none more fault (fails over.shows)) exact

    module _ (lists_given : old.lists ≤ length old.kept) where
      module _ (more : old.given < old.docs) where
        abbrev doc_read_to : ℕ × DocRecord → DocInFile
        doc_read_to x = record { doc = record { number = x.0; doc = doc_data x.1 }; end = now.at }

        abbrev DocRead : Result (ℕ × DocRecord) CiffFault → List ℕ → Type 0
        DocRead result content = AreFrom content old.start old.bytes → (numbers : List ℕ) → MarksOf old.marks numbers → GivesReading doc_read_to result (doc_of_file content old.docs numbers old.at)

        pub told_doc : (number : ℕ) (item : DocRecord) → DocGiven told old now (Ok (number, item)) → OneMore old.marks now.marks number → now.given ≡ old.given + 1 → LeavesLists old now → GivesTold told old now (Ok (pieces.Doc number item))
        told_doc number item exact marks given leaves =
            for_one told old.name (DocRead (Ok (number, item))) (Given (Ok (pieces.Doc number item)))
            (λ content read. λ fresh over p keeps.
            doc_advances content p old keeps none lists_given more number item now (read over.shows p.numbers keeps.marks) marks given leaves.header leaves.lists leaves.docs leaves.kept) exact

        pub told_doc_not : (fault : CiffFault) → DocGiven told old now (Err fault) → GivesTold told old now (Err fault)
        told_doc_not fault exact =
            for_one told old.name (DocRead (Err fault)) (Given (Err fault))
            (λ content fails. λ fresh over p keeps. doc_fails content p old keeps none lists_given more fault (fails over.shows p.numbers keeps.marks)) exact

      module _ (docs_given : old.docs ≤ old.given) where
        abbrev the_end : List ℕ → Result PieceData CiffRefusal
        the_end content = at_end old.at (drop old.at content) EndPiece

        abbrev EndRead : Result (Unit {0}) CiffFault → List ℕ → Type 0
        EndRead result content = IsWalkOver content old → GivesReading (λ (v : Unit {0}). EndPiece) result (the_end content)

        pub told_end : (u : Unit {0}) → EndGiven told old (Ok u) → LeavesLists old now → LeavesPlace old now → GivesTold told old now (Ok pieces.End)
        told_end u exact leaves place =
            for_one told old.name (EndRead (Ok u)) (Given (Ok pieces.End))
            (λ content read. λ fresh over p keeps. end_advances content p old keeps none lists_given docs_given now (read over) leaves.header leaves.lists leaves.docs place.at leaves.kept place.given place.marks) exact

        pub told_end_not : (fault : CiffFault) → EndGiven told old (Err fault) → GivesTold told old now (Err fault)
        told_end_not fault exact =
            for_one told old.name (EndRead (Err fault)) (Given (Err fault))
            (λ content fails. λ fresh over p keeps. end_fails content p old keeps none lists_given docs_given fault (fails over)) exact

-- a walk that gives a piece holds bytes of the content, and it ends where the walk has given the end
module _ (told : Option Files) (old now : WalkView) (held : StaysHeld told old now) where
  pub over_on : now.ended ≡ old.ended → old.at ≤ now.at → StaysOver told old now
  over_on same forward =
      for_one told old.name (λ content. AreFrom content old.start old.bytes → AreFrom content now.start now.bytes) (λ content. IsWalkOver content old → IsWalkOver content now)
      (λ content shows over. record { shows = shows over.shows; ends = λ is. omega (arith, over.ends (sym same ∙ is), forward) }) held

  pub over_end : (u : Unit {0}) → now.at ≡ old.at → EndGiven told old (Ok u) → StaysOver told old now
  over_end u stays exact =
      for_both told old.name (λ content. AreFrom content old.start old.bytes → AreFrom content now.start now.bytes) (λ content. IsWalkOver content old → at_end old.at (drop old.at content) EndPiece ≡ Ok EndPiece)
      (λ content. IsWalkOver content old → IsWalkOver content now)
      (λ content shows ended over. record { shows = shows over.shows; ends = λ is. omega (arith, stays, no_more old.at (drop old.at content) EndPiece (ended over), length-drop old.at content) }) held exact

-- one piece more
further : (count : ℕ) (content : List ℕ) (p : Progress) (step : Step) (r : Result FileHeader CiffRefusal) → (r >>= λ h. after count content (begun h)) ≡ Ok p → next_of content p ≡ Ok step
    → (r >>= λ h. after (suc count) content (begun h)) ≡ Ok step.later
further count content p step (Ok h) reached next =
    ap (λ (q : Result Progress CiffRefusal). q >>= λ q. next_of content q >>= λ s. Ok s.later) reached ∙ ap (λ (s : Result Step CiffRefusal). s >>= λ s. Ok s.later) next
further count content p step (Err e) reached next = absurd cc

stands_further : (content : List ℕ) (old now : WalkView) (piece : PieceData) (stands : Stands content old) → Advances content stands.progress piece now → IsWalkOver content now → Stands content now
stands_further content old now piece stands gives over = record {
  progress = gives.step.later;
  reached = record { count = suc stands.reached.count; reached = further stands.reached.count content stands.progress gives.step (header_of_file content) stands.reached.reached gives.next };
  keeps = gives.keeps;
  over = over;
}

-- a walk that gives a piece stands for the content
module _ (told : Option Files) (old now : WalkView) (held : StaysOver told old now) (name : now.name ≡ old.name) (answered : now.answered ≡ old.answered) (stands : StandsTold told old) where
  abbrev Held : List ℕ → Type 0
  Held content = IsWalkOver content old → IsWalkOver content now

  standing : ForContent told old.name (λ content. StandsFor content old × Held content)
  standing = for_pair told old.name (λ content. StandsFor content old) Held stands held

  renamed : ForContent told old.name (λ content. StandsFor content now) → StandsTold told now
  renamed is = subst (λ (n : List ℕ). ForContent told n (λ content. StandsFor content now)) (sym name) is

  pub told_stands : (piece : Piece) → GivesTold told old now (Ok piece) → StandsTold told now
  told_stands piece gives =
      renamed (for_both told old.name (λ content. StandsFor content old × Held content) (Given told old now (Ok piece)) (λ content. StandsFor content now)
      (λ content both given. λ fresh.
      let none : old.answered ≡ None = sym answered ∙ fresh in
      let s = both.0 none in
      stands_further content old now (piece_data piece) s (given none s.over s.progress s.keeps) (both.1 s.over)) standing gives)
