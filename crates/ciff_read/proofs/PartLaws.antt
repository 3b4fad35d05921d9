-- What is read as a header or a list is one, and each is read.
use Rattle.shared_lemmas.proofs.Common.{◌≡◌, ℕ, ◌+◌, ◌^◌, ◌<◌, ◌≤◌, Bool, true, false, not, cond, List, [], length, Result, Ok, Err, refl, sym, ap, subst, ◌∙◌, arith, nat_lt, ◌||◌, IsUtf8, is_utf8, nat_tests, IsUtf8-from_is_utf8, is_utf8-from_IsUtf8, All-nil, not-false}
use Rattle.ciff_read.proofs.Below.{Posting, HeaderData, ListData, IsHeader, IsList, ArePostings, HasTfInRange, texts_field}
use Rattle.ciff_read.specs.declared.refusal.CiffWhy.{CiffWhy}
use Rattle.ciff_read.specs.declared.refusal.CiffWhy.TheVariants.{Range, Text, TermTwice, Limit}
use Rattle.ciff_read.specs.declared.refusal.CiffRefusal.{CiffRefusal}
use Rattle.ciff_read.specs.Judging.{FileStart, ListStart, start_of, list_start_of, over31, over63, judge_header, judge_list, postings_of}
use Rattle.ciff_read.specs.Private.Kept.{AreKept}
use Rattle.ciff_read.specs.Reading.{Message, ListWalk, start_at, list_walk_at, header_at, list_at}
use Rattle.ciff_read.specs.Refusals.{◌>>=◌, placed}
use Rattle.ciff_read.specs.Seen.{is_seen}
use Rattle.ciff_read.specs.Walking.{Walked, walk, nothing_inside, entry_inside}
use Rattle.ciff_read.proofs.PostingLaws.{gather_found, gather_only, have_fields, rise_there}
use Rattle.ciff_read.proofs.WalkLaws.{fields_found, entries_found, fields_only, list_only}
use Rattle.ciff_read.proofs.WireLaws.{WireLaws, bound, done_is, unplaced}

three_passed : {A : Type 0} (a b c : Bool) (u v w : CiffWhy) (x y : A) → (let r : Result A CiffWhy = cond a (Err u) (cond b (Err v) (cond c (Err w) (Ok x))) in r) ≡ Ok y → (a ≡ false) × (b ≡ false) × (c ≡ false) × (x ≡ y)
three_passed true b c u v w x y is = absurd cc
three_passed false true c u v w x y is = absurd cc
three_passed false false true u v w x y is = absurd cc
three_passed false false false u v w x y is = (refl, refl, refl, cc)

four_passed : {A : Type 0} (a b c d : Bool) (u v w z : CiffWhy) (x y : A) → (let r : Result A CiffWhy = cond a (Err u) (cond b (Err v) (cond c (Err w) (cond d (Err z) (Ok x)))) in r) ≡ Ok y → (a ≡ false) × (b ≡ false) × (c ≡ false) × (d ≡ false) × (x ≡ y)
four_passed true b c d u v w z x y is = absurd cc
four_passed false true c d u v w z x y is = absurd cc
four_passed false false true d u v w z x y is = absurd cc
four_passed false false false true u v w z x y is = absurd cc
four_passed false false false false u v w z x y is = (refl, refl, refl, refl, cc)

pub is_text : (s : List ℕ) → not (is_utf8 s) ≡ false → IsUtf8 s
is_text s h = IsUtf8-from_is_utf8 s (not-false (is_utf8 s) h)

pub no_fault : (s : List ℕ) → IsUtf8 s → not (is_utf8 s) ≡ false
no_fault s is = ap not (is_utf8-from_IsUtf8 s is)

module _ (laws : WireLaws) where
  pub header_found : (at : ℕ) (m : Message) (start : FileStart) → header_at at m ≡ Ok start → IsHeader m.body start.header start.lists start.docs
  unfolding header_at
  header_found at m start is =
      let a = bound (start_at m.from m.body) (λ start. placed at (judge_header start)) start is in
      let w = bound (walk nothing_inside m.from m.body) (λ walked. Ok (start_of walked.fields)) a.0 a.1 in
      let fields = w.0.fields in
      let x = a.0 in
      let made = done_is (start_of fields) x w.2 in
      let t = three_passed
      (over31 x.header.version || over31 x.lists || over31 x.docs || over31 x.header.total_lists || over31 x.header.total_docs || over63 x.header.total_terms)
      (not (is_utf8 x.header.description)) (nat_lt (2 ^ 24) x.lists || nat_lt (2 ^ 26) x.docs) Range Text Limit x start
      (unplaced at (judge_header x) start a.2) in
      let ranges = t.0 in
      let limits = t.2 in
      subst (λ (y : FileStart). IsHeader m.body y.header y.lists y.docs) t.3 (record {
        fields = fields;
        spelled = fields_found laws nothing_inside (length m.body) m.from m.body w.0 (omega arith) w.1;
        header = ap (λ (y : FileStart). y.header) (sym made);
        list_count = ap (λ (y : FileStart). y.lists) (sym made);
        doc_count = ap (λ (y : FileStart). y.docs) (sym made);
        fits = record {
          version = grind (arith, nat_tests);
          total_lists = grind (arith, nat_tests);
          total_docs = grind (arith, nat_tests);
          total_terms = grind (arith, nat_tests);
          description = is_text x.header.description t.1;
          few_lists = grind (arith, nat_tests);
          few_docs = grind (arith, nat_tests);
        };
      })

  pub header_only : (at from : ℕ) (body rest : List ℕ) (h : HeaderData) (lists docs : ℕ) → IsHeader body h lists docs → header_at at (record { from = from; body = body; rest = rest }) ≡ Ok (record { header = h; lists = lists; docs = docs })
  unfolding header_at
  header_only at from body rest h lists docs is =
      let x : FileStart = record { header = h; lists = lists; docs = docs } in
      let same : start_of is.fields ≡ x = rw (is.header, is.list_count, is.doc_count) refl in
      let walked = fields_only laws is.fields (length body) from body is.spelled (omega arith) in
      let start : start_at from body ≡ Ok x = ap (λ (r : Result Walked CiffRefusal). r >>= λ walked. Ok (start_of walked.fields)) walked ∙ ap (λ (y : FileStart). Ok y) same in
      let f = is.fits in
      let f1 = f.version in
      let f2 = f.total_lists in
      let f3 = f.total_docs in
      let f4 = f.total_terms in
      let f5 = f.few_lists in
      let f6 = f.few_docs in
      let ranges : (over31 h.version || over31 lists || over31 docs || over31 h.total_lists || over31 h.total_docs || over63 h.total_terms) ≡ false = grind (arith, nat_tests) in
      let limits : (nat_lt (2 ^ 24) lists || nat_lt (2 ^ 26) docs) ≡ false = grind (arith, nat_tests) in
      let text = no_fault h.description f.description in
      ap (λ (r : Result FileStart CiffRefusal). r >>= λ start. placed at (judge_header start)) start ∙ rw (ranges, text, limits) refl

  pub record ListFound (docs before : ℕ) (terms : List (List ℕ)) (body : List ℕ) (l : ListData) : Type 0 where
    pub is : IsList docs body l
    pub unseen : is_seen l.term terms ≡ false
    pub few : before + length l.postings ≤ 2 ^ 29

  pub list_found : (docs before : ℕ) (terms : List (List ℕ)) (at : ℕ) (m : Message) (l : ListData) → docs ≤ 2 ^ 26 → before ≤ 2 ^ 29 → list_at docs before terms at m ≡ Ok l → ListFound docs before terms m.body l
  unfolding list_at
  list_found docs before terms at m l few_docs few_before is =
      let a = bound (list_walk_at m.from m.body) (λ walked. placed at (judge_list terms walked.start) >>= λ start. postings_of docs before walked.entries >>= λ postings. Ok (record { term = start.term; df = start.df; cf = start.cf; postings = postings })) l is in
      let w = bound (walk entry_inside m.from m.body) (λ walked. Ok (record { start = list_start_of walked.fields; entries = walked.entries })) a.0 a.1 in
      let made : ListWalk = record { start = list_start_of w.0.fields; entries = w.0.entries } in
      let same = done_is made a.0 w.2 in
      let b = bound (placed at (judge_list terms a.0.start)) (λ start. postings_of docs before a.0.entries >>= λ postings. Ok (record { term = start.term; df = start.df; cf = start.cf; postings = postings })) l a.2 in
      let d = bound (postings_of docs before a.0.entries) (λ postings. Ok (record { term = b.0.term; df = b.0.df; cf = b.0.cf; postings = postings })) l b.2 in
      let x = a.0.start in
      let t = four_passed (not (is_utf8 x.term)) (nat_lt 65535 (length x.term)) (is_seen x.term terms) (over63 x.df || over63 x.cf) Text Limit TermTwice Range x b.0 (unplaced at (judge_list terms x) b.0 b.1) in
      let short = t.1 in
      let ranges = t.3 in
      let start : x ≡ list_start_of w.0.fields = ap (λ (y : ListWalk). y.start) (sym same) in
      let fields = fields_found laws entry_inside (length m.body) m.from m.body w.0 (omega arith) w.1 in
      let zip = entries_found laws (length m.body) m.from m.body w.0 w.1 (omega arith) in
      let kept : AreKept docs before 0 [] = record { few_docs = few_docs; few_postings = omega arith; last_is = refl; rising = λ k inside. absurd (omega arith); tf_in_range = All-nil HasTfInRange; up_to_last = All-nil (λ doc. doc ≤ 0); docs_below = All-nil (λ doc. doc < docs) } in
      let read : postings_of docs before w.0.entries ≡ Ok d.0 = ap (λ (y : ListWalk). postings_of docs before y.entries) same ∙ d.1 in
      let g = gather_found docs before (texts_field 4 w.0.fields) w.0.entries 0 [] d.0 zip kept read in
      let made_list : ListData = record { term = x.term; df = x.df; cf = x.cf; postings = d.0 } in
      let whole : made_list ≡ l = ap (λ (y : ListStart). record { term = y.term; df = y.df; cf = y.cf; postings = d.0 }) t.4 ∙ done_is (record { term = b.0.term; df = b.0.df; cf = b.0.cf; postings = d.0 }) l d.2 in
      subst (ListFound docs before terms m.body) whole (record {
        is = record {
          fields = w.0.fields;
          spelled = fields;
          term = ap (λ (y : ListStart). y.term) start;
          df = ap (λ (y : ListStart). y.df) start;
          cf = ap (λ (y : ListStart). y.cf) start;
          postings = subst (λ (ps : List Posting). ArePostings 0 (texts_field 4 w.0.fields) ps) (sym g.parts) g.are;
          fits = record {
            text = is_text x.term t.0;
            short = grind (arith, nat_tests);
            df = grind (arith, nat_tests);
            cf = grind (arith, nat_tests);
            rising = g.kept.rising;
            tf = g.kept.tf_in_range;
            below = g.kept.docs_below;
          };
        };
        unseen = t.2;
        few = g.kept.few_postings;
      })

  pub list_read : (docs before : ℕ) (terms : List (List ℕ)) (at from : ℕ) (body rest : List ℕ) (l : ListData) → docs ≤ 2 ^ 26 → ListFound docs before terms body l → list_at docs before terms at (record { from = from; body = body; rest = rest }) ≡ Ok l
  unfolding list_at
  list_read docs before terms at from body rest l few_docs found =
      let is = found.is in
      let f = is.fits in
      let x : ListStart = record { term = l.term; df = l.df; cf = l.cf } in
      let same : list_start_of is.fields ≡ x = rw (is.term, is.df, is.cf) refl in
      let have = have_fields 0 (texts_field 4 is.fields) l.postings is.postings in
      let w = list_only laws is.fields (length body) from body is.spelled have (omega arith) in
      let walked : list_walk_at from body ≡ Ok (record { start = x; entries = w.entries }) = ap
      (λ (r : Result Walked CiffRefusal). r >>= λ walked. Ok (record { start = list_start_of walked.fields; entries = walked.entries })) w.walked
      ∙ ap (λ (y : ListStart). Ok (record { start = y; entries = w.entries })) same in
      let f1 = f.short in
      let f2 = f.df in
      let f3 = f.cf in
      let short : nat_lt 65535 (length l.term) ≡ false = grind (arith, nat_tests) in
      let ranges : (over63 l.df || over63 l.cf) ≡ false = grind (arith, nat_tests) in
      let text = no_fault l.term f.text in
      let judged : placed at (judge_list terms x) ≡ Ok x = let unseen = found.unseen in rw (text, short, unseen, ranges) refl in
      let rise = rise_there docs 0 false l.postings f.rising f.tf f.below (λ no_start more. absurd cc) in
      let gathered = gather_only laws docs before (texts_field 4 is.fields) w.entries [] l.postings few_docs w.are is.postings rise found.few in
      ap (λ (r : Result ListWalk CiffRefusal). r >>= λ walked. placed at (judge_list terms walked.start) >>= λ start. postings_of docs before walked.entries >>= λ postings. Ok (record { term = start.term; df = start.df; cf = start.cf; postings = postings })) walked
      ∙ ap (λ (r : Result ListStart CiffRefusal). r >>= λ start. postings_of docs before w.entries >>= λ postings. Ok (record { term = start.term; df = start.df; cf = start.cf; postings = postings })) judged
      ∙ ap (λ (r : Result (List Posting) CiffRefusal). r >>= λ postings. Ok (record { term = l.term; df = l.df; cf = l.cf; postings = postings })) gathered
