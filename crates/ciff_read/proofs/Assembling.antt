-- The pieces that are given of a file make up the collection that is read of it.
use Rattle.shared_lemmas.proofs.Common.{◌≡◌, ℕ, suc, ◌+◌, ◌-◌, ◌<◌, ◌≤◌, Bool, true, false, cond, List, [], ◌∷◌, ◌++◌, length, map, drop, Option, Some, None, Result, Ok, Err, refl, sym, ap, subst, ◌∙◌, append_assoc, arith, nat_lt, ltb-true, ltb-false, drop-drop, drop_at, length-append, length-map}
use Rattle.shared_lemmas.proofs.Common.{map-append, fold-append, sum_by-append, sum_by-cons, AllZip-long}
use Rattle.std.proofs.lemmas.List.{append-nil}
use Rattle.jass_base.specs.Ciff.{HeaderData, ListData, CollectionData}
use Rattle.ciff_read.specs.declared.refusal.CiffRefusal.{CiffRefusal}
use Rattle.ciff_read.specs.Assembling.{Parts, Assembles, IsKeptList, only_header, with_piece, by_number, collection_of, rest_of}
use Rattle.ciff_read.specs.Judging.{FileStart, NumberedDoc, numbers_of, is_among}
use Rattle.ciff_read.specs.Pieces.{KeptList, Progress, StartPiece, ListPiece, DocPiece, EndPiece, Step, FileHeader, ListInFile, DocInFile, postings_kept, terms_kept, header_of_file, begun, with_list, with_doc, list_of_file, doc_of_file, list_next, doc_next, end_next, message_next, without_header, next_behind, next_of}
use Rattle.ciff_read.specs.Reading.{Message, ListsRead, DocsRead, message_end, message_at, header_at, list_at, doc_at, lists_at, docs_at, docs_in_order, all_docs_at, at_end, inserted, read_ciff}
use Rattle.ciff_read.specs.Refusals.{◌>>=◌}
use Rattle.ciff_read.proofs.Among.{among_by_number, same_doc}
use Rattle.ciff_read.proofs.Fewer.{list_alone}
use Rattle.ciff_read.proofs.MessageLaws.{message_found}
use Rattle.ciff_read.proofs.WireLaws.{WireLaws, bound, done_is, ended_with}
use Rattle.shared_lemmas.proofs.Lists.{zip-append}

-- ---- refusals

-- what refuses the one refuses the other, too
abbrev RefusesToo : {A B : Type 0} → Result A CiffRefusal → Result B CiffRefusal → Type 0
RefusesToo r q = (e : CiffRefusal) → r ≡ Err e → q ≡ Err e

refuses_then : {A B C : Type 0} (r : Result A CiffRefusal) (f : A → Result B CiffRefusal) (g : A → Result C CiffRefusal) → ((x : A) → RefusesToo (f x) (g x)) → RefusesToo (r >>= f) (r >>= g)
refuses_then (Ok x) f g each e is = each x e is
refuses_then (Err d) f g each e is = let same : d ≡ e = cc in ap (λ (x : CiffRefusal). Err x) same

-- a last step that refuses nothing
refuses_on : {A B C D : Type 0} (r : Result A CiffRefusal) (q : Result B CiffRefusal) (h : A → C) (g : B → Result D CiffRefusal) → RefusesToo r q → RefusesToo (r >>= λ x. Ok (h x)) (q >>= g)
refuses_on (Ok x) q h g too e is = absurd cc
refuses_on (Err d) q h g too e is = let same : d ≡ e = cc in ap (λ t. t >>= g) (too e (ap (λ (x : CiffRefusal). Err x) same))

refuses_itself : {A : Type 0} (r : Result A CiffRefusal) → RefusesToo r r
refuses_itself r e is = is

-- ---- the end

ended_too : {A B : Type 0} (at : ℕ) (s : List ℕ) (x y : A) (z : B) → at_end at s x ≡ Ok y → at_end at s z ≡ Ok z
ended_too at [] x y z is = refl
ended_too at (b ∷ s) x y z is = absurd cc

unended_too : {A B : Type 0} (at : ℕ) (s : List ℕ) (x : A) (z : B) → RefusesToo (at_end at s x) (at_end at s z)
unended_too at [] x z e is = absurd cc
unended_too at (b ∷ s) x z e is = refuses_on (at_end at (b ∷ s) x) (at_end at (b ∷ s) x) (λ y. y) (λ y. Ok z) (refuses_itself (at_end at (b ∷ s) x)) e is

-- ---- lists

lists_alike : (docs at n k before count : ℕ) (terms others : List (List ℕ)) (s t : List ℕ) → n ≡ k → before ≡ count → terms ≡ others → s ≡ t → lists_at n docs before terms at s ≡ lists_at k docs count others at t
lists_alike docs at n k before count terms others s t a b c d i = lists_at (a i) docs (b i) (c i) at (d i)

docs_alike : (docs at n k : ℕ) (records others : List NumberedDoc) (s t : List ℕ) → n ≡ k → records ≡ others → s ≡ t → docs_at n docs records at s ≡ docs_at k docs others at t
docs_alike docs at n k records others s t a b c i = docs_at (a i) docs (b i) at (c i)

-- one record more, by rising numbers
by_number-snoc : (rs : List NumberedDoc) (x : NumberedDoc) → inserted x (by_number rs) ≡ by_number (rs ++ x ∷ [])
by_number-snoc rs x = sym (fold-append (λ (others : List NumberedDoc) (x : NumberedDoc). inserted x others) [] rs (x ∷ []))

-- what follows the documents, and what follows the lists
abbrev after_docs : HeaderData → List ListData → DocsRead → Result CollectionData CiffRefusal
after_docs header lists y = at_end y.at y.rest (record { header = header; lists = lists; docs = map (λ (r : NumberedDoc). r.doc) y.records })

abbrev after_lists : ℕ → Parts → ListsRead → Result CollectionData CiffRefusal
after_lists docs parts x = docs_at (docs - length parts.records) docs (by_number parts.records) x.at x.rest >>= after_docs parts.header (parts.lists ++ x.lists)

-- what a piece of each kind leads to
record Goes (content : List ℕ) (parts : Parts) (next : Result Step CiffRefusal) : Type 0 where
  piece : (s : Step) → next ≡ Ok s → Assembles content s.later (with_piece parts s.piece)
  end : (s : Step) → next ≡ Ok s → s.piece ≡ EndPiece → read_ciff content ≡ Ok (collection_of parts)
  refused : (e : CiffRefusal) → next ≡ Err e → read_ciff content ≡ Err e

module _ (laws : WireLaws) (content : List ℕ) where
  message_rest : (at : ℕ) (m : Message) → message_at at (drop at content) ≡ Ok m → m.rest ≡ drop (message_end m) content
  message_rest at m is =
      let f = message_found laws at (drop at content) m is in
      sym (drop_at f.first m.rest (length f.first) refl) ∙ ap (drop (length f.first)) (sym f.parts) ∙ drop-drop (length f.first) at content ∙ ap (λ n. drop n content) (sym f.ends)

  module _ (p : Progress) (parts : Parts) (is : Assembles content p parts) where
    lists_counted : length parts.lists ≡ length p.kept
    lists_counted = AllZip-long (IsKeptList content p.docs) p.kept parts.lists is.lists

    docs_counted : length p.numbers ≡ length parts.records
    docs_counted = ap (λ (ns : List ℕ). length ns) is.numbers ∙ length-map parts.records (λ (r : NumberedDoc). r.number)

    header_goes : (h : HeaderData) → Goes content parts (next_behind (Some h) content p)
    unfolding rest_of
    header_goes h = record {
      piece = λ s next. subst (λ (t : Step). Assembles content t.later (with_piece parts t.piece)) (done_is start s next) given;
      end = λ s next last. absurd (let other : StartPiece h p.lists p.docs ≡ EndPiece = ap (λ (t : Step). t.piece) (done_is start s next) ∙ last in cc);
      refused = λ e next. absurd cc;
    }
      where
        start : Step
        start = record { piece = StartPiece h p.lists p.docs; later = without_header p }

        given : Assembles content (without_header p) parts
        given = record { rest = is.rest; lists = is.lists; numbers = is.numbers }

    -- ---- a list

    module _ (more : length p.kept < p.lists) where
      abbrev before : ℕ
      before = postings_kept p.kept

      abbrev terms : List (List ℕ)
      terms = terms_kept p.kept

      abbrev left : ℕ
      left = p.lists - (length parts.lists + 1)

      abbrev list_read : Message → ListData → Result ListsRead CiffRefusal
      list_read m list = lists_at left p.docs (before + length list.postings) (terms ++ list.term ∷ []) (message_end m) m.rest >>= λ later. Ok (record { lists = list ∷ later.lists; at = later.at; rest = later.rest })

      list_begun : read_ciff content ≡ (message_at p.at (drop p.at content) >>= (λ m. list_at p.docs before terms p.at m >>= list_read m) >>= after_lists p.docs parts)
      unfolding rest_of lists_at
      list_begun =
          let count : p.lists - length parts.lists ≡ suc left = omega (arith, more, lists_counted) in
          is.rest ∙ ap (λ n. lists_at n p.docs before terms p.at (drop p.at content) >>= after_lists p.docs parts) count

      abbrev list_given : ListInFile → Step
      list_given x = record { piece = ListPiece p.at x.list; later = with_list p x.list x.end }

      list_refused : RefusesToo (list_next content p) (read_ciff content)
      list_refused e next =
          list_begun
          ∙ refuses_on (list_of_file content p.docs before terms p.at) (message_at p.at (drop p.at content) >>= λ m. list_at p.docs before terms p.at m >>= list_read m) list_given (after_lists p.docs parts)
          (refuses_then (message_at p.at (drop p.at content)) (λ m. list_at p.docs before terms p.at m >>= λ list. Ok (record { list = list; end = message_end m })) (λ m. list_at p.docs before terms p.at m >>= list_read m)
          (λ m. refuses_on (list_at p.docs before terms p.at m) (list_at p.docs before terms p.at m) (λ list. record { list = list; end = message_end m }) (list_read m) (refuses_itself (list_at p.docs before terms p.at m)))) e next

      module _ (m : Message) (l : ListData) (there : message_at p.at (drop p.at content) ≡ Ok m) (judged : list_at p.docs before terms p.at m ≡ Ok l) where
        abbrev one : KeptList
        one = record { term = l.term; at = p.at; count = length l.postings }

        regroup : (r : Result ListsRead CiffRefusal) → (r >>= (λ later. Ok (record { lists = l ∷ later.lists; at = later.at; rest = later.rest })) >>= after_lists p.docs parts) ≡ (r >>= after_lists p.docs (record parts { lists = parts.lists ++ l ∷ [] }))
        regroup (Ok x) = ap (λ (ls : List ListData). docs_at (p.docs - length parts.records) p.docs (by_number parts.records) x.at x.rest >>= after_docs parts.header ls) (sym (append_assoc parts.lists (l ∷ []) x.lists))
        regroup (Err e) = refl

        same_state : lists_at left p.docs (before + length l.postings) (terms ++ l.term ∷ []) (message_end m) m.rest
            ≡ lists_at (p.lists - length (parts.lists ++ l ∷ [])) p.docs (postings_kept (p.kept ++ one ∷ [])) (terms_kept (p.kept ++ one ∷ [])) (message_end m) (drop (message_end m) content)
        same_state =
            lists_alike p.docs (message_end m) left (p.lists - length (parts.lists ++ l ∷ [])) (before + length l.postings) (postings_kept (p.kept ++ one ∷ [])) (terms ++ l.term ∷ []) (terms_kept (p.kept ++ one ∷ [])) m.rest (drop (message_end m) content)
            (omega (arith, length-append parts.lists (l ∷ [])))
            (omega (arith, sum_by-append (λ (k : KeptList). k.count) p.kept (one ∷ []), sum_by-cons (λ (k : KeptList). k.count) one []))
            (sym (map-append (λ (k : KeptList). k.term) p.kept (one ∷ [])))
            (message_rest p.at m there)

        list_step : Assembles content (with_list p l (message_end m)) (record parts { lists = parts.lists ++ l ∷ [] })
        unfolding rest_of
        list_step = record {
          rest = list_begun
              ∙ ap (λ (r : Result Message CiffRefusal). r >>= (λ m. list_at p.docs before terms p.at m >>= list_read m) >>= after_lists p.docs parts) there
              ∙ ap (λ (r : Result ListData CiffRefusal). r >>= list_read m >>= after_lists p.docs parts) judged
              ∙ regroup (lists_at left p.docs (before + length l.postings) (terms ++ l.term ∷ []) (message_end m) m.rest)
              ∙ ap (λ (r : Result ListsRead CiffRefusal). r >>= after_lists p.docs (record parts { lists = parts.lists ++ l ∷ [] })) same_state;
          lists = zip-append (IsKeptList content p.docs) p.kept parts.lists (one ∷ []) (l ∷ []) is.lists
              (record { term = refl; count = refl; there = record { message = m; there = there; judged = list_alone p.docs before terms p.at m l judged } }, tt);
          numbers = is.numbers;
        }

      list_goes : Goes content parts (list_next content p)
      list_goes = record {
        piece = λ s next.
            let a = bound (list_of_file content p.docs before terms p.at) (λ x. Ok (list_given x)) s next in
            let b = bound (message_at p.at (drop p.at content)) (λ m. list_at p.docs before terms p.at m >>= λ list. Ok (record { list = list; end = message_end m })) a.0 a.1 in
            let d = bound (list_at p.docs before terms p.at b.0) (λ list. Ok (record { list = list; end = message_end b.0 })) a.0 b.2 in
            let made = done_is (record { list = d.0; end = message_end b.0 }) a.0 d.2 in
            subst (λ (t : Step). Assembles content t.later (with_piece parts t.piece)) (ap list_given made ∙ done_is (list_given a.0) s a.2) (list_step b.0 d.0 b.1 d.1);
        end = λ s next last.
            let a = bound (list_of_file content p.docs before terms p.at) (λ x. Ok (list_given x)) s next in
            absurd (let other : ListPiece p.at a.0.list ≡ EndPiece = ap (λ (t : Step). t.piece) (done_is (list_given a.0) s a.2) ∙ last in cc);
        refused = list_refused;
      }

    -- ---- a document, and the end

    module _ (all_lists : p.lists ≤ length p.kept) where
      no_lists : read_ciff content ≡ (docs_at (p.docs - length parts.records) p.docs (by_number parts.records) p.at (drop p.at content) >>= after_docs parts.header (parts.lists ++ []))
      unfolding rest_of lists_at
      no_lists =
          let none : p.lists - length parts.lists ≡ 0 = omega (arith, all_lists, lists_counted) in
          is.rest ∙ ap (λ n. lists_at n p.docs (postings_kept p.kept) (terms_kept p.kept) p.at (drop p.at content) >>= after_lists p.docs parts) none

      module _ (more : length p.numbers < p.docs) where
        abbrev docs_left : ℕ
        docs_left = p.docs - (length parts.records + 1)

        abbrev doc_read : Message → NumberedDoc → Result DocsRead CiffRefusal
        doc_read m x = docs_at docs_left p.docs (inserted x (by_number parts.records)) (message_end m) m.rest

        abbrev all_behind : DocsRead → Result CollectionData CiffRefusal
        all_behind = after_docs parts.header (parts.lists ++ [])

        judged_alike : (m : Message) → doc_at p.docs (numbers_of (by_number parts.records)) p.at m ≡ doc_at p.docs p.numbers p.at m
        judged_alike m = same_doc p.docs (numbers_of (by_number parts.records)) p.numbers p.at m (λ n. among_by_number n parts.records ∙ ap (is_among n) (sym is.numbers))

        doc_begun : read_ciff content ≡ (message_at p.at (drop p.at content) >>= (λ m. doc_at p.docs p.numbers p.at m >>= doc_read m) >>= all_behind)
        unfolding docs_at
        doc_begun =
            let count : p.docs - length parts.records ≡ suc docs_left = omega (arith, more, docs_counted) in
            no_lists ∙ ap (λ n. docs_at n p.docs (by_number parts.records) p.at (drop p.at content) >>= all_behind) count ∙ alike
          where
            alike : (message_at p.at (drop p.at content) >>= (λ m. doc_at p.docs (numbers_of (by_number parts.records)) p.at m >>= doc_read m) >>= all_behind) ≡ (message_at p.at (drop p.at content) >>= (λ m. doc_at p.docs p.numbers p.at m >>= doc_read m) >>= all_behind)
            alike i = message_at p.at (drop p.at content) >>= (λ m. judged_alike m i >>= doc_read m) >>= all_behind

        abbrev doc_given : DocInFile → Step
        doc_given x = record { piece = DocPiece x.doc; later = with_doc p x.doc.number x.end }

        doc_refused : RefusesToo (doc_next content p) (read_ciff content)
        doc_refused e next =
            doc_begun
            ∙ refuses_on (doc_of_file content p.docs p.numbers p.at) (message_at p.at (drop p.at content) >>= λ m. doc_at p.docs p.numbers p.at m >>= doc_read m) doc_given all_behind
            (refuses_then (message_at p.at (drop p.at content)) (λ m. doc_at p.docs p.numbers p.at m >>= λ doc. Ok (record { doc = doc; end = message_end m })) (λ m. doc_at p.docs p.numbers p.at m >>= doc_read m)
            (λ m. refuses_on (doc_at p.docs p.numbers p.at m) (doc_at p.docs p.numbers p.at m) (λ doc. record { doc = doc; end = message_end m }) (doc_read m) (refuses_itself (doc_at p.docs p.numbers p.at m)))) e next

        module _ (m : Message) (x : NumberedDoc) (there : message_at p.at (drop p.at content) ≡ Ok m) (judged : doc_at p.docs p.numbers p.at m ≡ Ok x) where
          doc_state : docs_at docs_left p.docs (inserted x (by_number parts.records)) (message_end m) m.rest ≡ docs_at (p.docs - length (parts.records ++ x ∷ [])) p.docs (by_number (parts.records ++ x ∷ [])) (message_end m) (drop (message_end m) content)
          doc_state =
              docs_alike p.docs (message_end m) docs_left (p.docs - length (parts.records ++ x ∷ [])) (inserted x (by_number parts.records)) (by_number (parts.records ++ x ∷ [])) m.rest (drop (message_end m) content)
              (omega (arith, length-append parts.records (x ∷ []))) (by_number-snoc parts.records x) (message_rest p.at m there)

          doc_step : Assembles content (with_doc p x.number (message_end m)) (record parts { records = parts.records ++ x ∷ [] })
          unfolding rest_of lists_at
          doc_step =
              let none : 0 ≡ p.lists - length parts.lists = omega (arith, all_lists, lists_counted) in
              record {
                rest = doc_begun
                    ∙ ap (λ (r : Result Message CiffRefusal). r >>= (λ m. doc_at p.docs p.numbers p.at m >>= doc_read m) >>= all_behind) there
                    ∙ ap (λ (r : Result NumberedDoc CiffRefusal). r >>= doc_read m >>= all_behind) judged
                    ∙ ap (λ (r : Result DocsRead CiffRefusal). r >>= all_behind) doc_state
                    ∙ ap (λ n. lists_at n p.docs (postings_kept p.kept) (terms_kept p.kept) (message_end m) (drop (message_end m) content) >>= after_lists p.docs (record parts { records = parts.records ++ x ∷ [] })) none;
                lists = is.lists;
                numbers = ap (λ (ns : List ℕ). ns ++ x.number ∷ []) is.numbers ∙ sym (map-append (λ (r : NumberedDoc). r.number) parts.records (x ∷ []));
              }

        doc_goes : Goes content parts (doc_next content p)
        doc_goes = record {
          piece = λ s next.
              let a = bound (doc_of_file content p.docs p.numbers p.at) (λ x. Ok (doc_given x)) s next in
              let b = bound (message_at p.at (drop p.at content)) (λ m. doc_at p.docs p.numbers p.at m >>= λ doc. Ok (record { doc = doc; end = message_end m })) a.0 a.1 in
              let d = bound (doc_at p.docs p.numbers p.at b.0) (λ doc. Ok (record { doc = doc; end = message_end b.0 })) a.0 b.2 in
              let made = done_is (record { doc = d.0; end = message_end b.0 }) a.0 d.2 in
              subst (λ (t : Step). Assembles content t.later (with_piece parts t.piece)) (ap doc_given made ∙ done_is (doc_given a.0) s a.2) (doc_step b.0 d.0 b.1 d.1);
          end = λ s next last.
              let a = bound (doc_of_file content p.docs p.numbers p.at) (λ x. Ok (doc_given x)) s next in
              absurd (let other : DocPiece a.0.doc ≡ EndPiece = ap (λ (t : Step). t.piece) (done_is (doc_given a.0) s a.2) ∙ last in cc);
          refused = doc_refused;
        }

      module _ (all_docs : p.docs ≤ length p.numbers) where
        abbrev last : Step
        last = record { piece = EndPiece; later = p }

        end_begun : read_ciff content ≡ at_end p.at (drop p.at content) (collection_of parts)
        unfolding docs_at
        end_begun =
            let none : p.docs - length parts.records ≡ 0 = omega (arith, all_docs, docs_counted) in
            no_lists ∙ ap (λ n. docs_at n p.docs (by_number parts.records) p.at (drop p.at content) >>= after_docs parts.header (parts.lists ++ [])) none
            ∙ ap (λ (ls : List ListData). at_end p.at (drop p.at content) (record { header = parts.header; lists = ls; docs = map (λ (r : NumberedDoc). r.doc) (by_number parts.records) })) (append-nil parts.lists)

        end_goes : Goes content parts (end_next content p)
        end_goes = record {
          piece = λ s next. subst (λ (t : Step). Assembles content t.later (with_piece parts t.piece)) (ended_with p.at (drop p.at content) last s next) is;
          end = λ s next is_last. end_begun ∙ ended_too p.at (drop p.at content) last s (collection_of parts) next;
          refused = λ e next. end_begun ∙ unended_too p.at (drop p.at content) last (collection_of parts) e next;
        }

    -- ---- the next piece

    message_goes : Goes content parts (message_next content p)
    message_goes = go (nat_lt (length p.kept) p.lists) refl
      where
        behind : p.lists ≤ length p.kept → (test : Bool) → nat_lt (length p.numbers) p.docs ≡ test → Goes content parts (cond test (doc_next content p) (end_next content p))
        behind all true is_less = doc_goes all (ltb-true (length p.numbers) p.docs is_less)
        behind all false is_not = end_goes all (ltb-false (length p.numbers) p.docs is_not)

        go : (test : Bool) → nat_lt (length p.kept) p.lists ≡ test → Goes content parts (cond test (list_next content p) (cond (nat_lt (length p.numbers) p.docs) (doc_next content p) (end_next content p)))
        go true is_less = list_goes (ltb-true (length p.kept) p.lists is_less)
        go false is_not = behind (ltb-false (length p.kept) p.lists is_not) (nat_lt (length p.numbers) p.docs) refl

    goes_on : Goes content parts (next_of content p)
    unfolding next_of
    goes_on = go p.header
      where
        go : (header : Option HeaderData) → Goes content parts (next_behind header content p)
        go (Some h) = header_goes h
        go None = message_goes

    pub piece_given : (s : Step) → next_of content p ≡ Ok s → Assembles content s.later (with_piece parts s.piece)
    piece_given = goes_on.piece

    pub end_given : (s : Step) → next_of content p ≡ Ok s → s.piece ≡ EndPiece → read_ciff content ≡ Ok (collection_of parts)
    end_given = goes_on.end

    pub piece_refused : (e : CiffRefusal) → next_of content p ≡ Err e → read_ciff content ≡ Err e
    piece_refused = goes_on.refused

  -- ---- the header

  abbrev behind_header : Message → FileStart → Result CollectionData CiffRefusal
  behind_header m start = lists_at start.lists start.docs 0 [] (message_end m) m.rest >>= λ x. all_docs_at start.docs x.at x.rest >>= λ y. at_end y.at y.rest (record { header = start.header; lists = x.lists; docs = y.docs })

  pub header_refused : RefusesToo (header_of_file content) (read_ciff content)
  unfolding read_ciff
  header_refused e is =
      refuses_then (message_at 0 content) (λ m. header_at 0 m >>= λ start. Ok (record { start = start; end = message_end m })) (λ m. header_at 0 m >>= behind_header m)
      (λ m. refuses_on (header_at 0 m) (header_at 0 m) (λ start. record { start = start; end = message_end m }) (behind_header m) (refuses_itself (header_at 0 m))) e is

  module _ (m : Message) (start : FileStart) (there : message_at 0 content ≡ Ok m) (judged : header_at 0 m ≡ Ok start) where
    abbrev first : FileHeader
    first = record { start = start; end = message_end m }

    regroup_docs : (lists : List ListData) (r : Result DocsRead CiffRefusal) → (r >>= (λ z. Ok (docs_in_order z)) >>= λ y. at_end y.at y.rest (record { header = start.header; lists = lists; docs = y.docs })) ≡ (r >>= after_docs start.header lists)
    regroup_docs lists (Ok y) = refl
    regroup_docs lists (Err e) = refl

    regroup_lists : (r : Result ListsRead CiffRefusal) → (r >>= λ x. all_docs_at start.docs x.at x.rest >>= λ y. at_end y.at y.rest (record { header = start.header; lists = x.lists; docs = y.docs })) ≡ (r >>= after_lists start.docs (only_header start.header))
    regroup_lists (Ok x) =
        let none : start.docs ≡ start.docs - 0 = omega arith in
        regroup_docs x.lists (docs_at start.docs start.docs [] x.at x.rest) ∙ ap (λ n. docs_at n start.docs [] x.at x.rest >>= after_docs start.header x.lists) none
    regroup_lists (Err e) = refl

    header_step : Assembles content (begun first) (only_header start.header)
    unfolding read_ciff rest_of
    header_step =
        let none : start.lists ≡ start.lists - 0 = omega arith in
        record {
          rest = ap (λ (r : Result Message CiffRefusal). r >>= λ m. header_at 0 m >>= behind_header m) there
              ∙ ap (λ (r : Result FileStart CiffRefusal). r >>= behind_header m) judged
              ∙ regroup_lists (lists_at start.lists start.docs 0 [] (message_end m) m.rest)
              ∙ ap (λ (r : Result ListsRead CiffRefusal). r >>= after_lists start.docs (only_header start.header)) (lists_alike start.docs (message_end m) start.lists (start.lists - 0) 0 0 [] [] m.rest (drop (message_end m) content) none refl refl (message_rest 0 m there));
          lists = tt;
          numbers = refl;
        }

  pub header_given : (h : FileHeader) → header_of_file content ≡ Ok h → Assembles content (begun h) (only_header h.start.header)
  header_given h is =
      let a = bound (message_at 0 content) (λ m. header_at 0 m >>= λ start. Ok (record { start = start; end = message_end m })) h is in
      let b = bound (header_at 0 a.0) (λ start. Ok (record { start = start; end = message_end a.0 })) h a.2 in
      subst (λ (k : FileHeader). Assembles content (begun k) (only_header k.start.header)) (done_is (record { start = b.0; end = message_end a.0 }) h b.2) (header_step a.0 b.0 a.1 b.1)
