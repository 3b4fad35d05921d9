-- What the lists of a trial keep.
use Rattle.shared_lemmas.proofs.Common.{◌≡◌, ℕ, zero, suc, ◌+◌, ◌-◌, ◌*◌, ◌<◌, ◌≤◌, ◌==◌, false, cond, List, [], ◌∷◌, ◌++◌, length, get_or, map, take, drop, replicate, true, eq-eqb, refl, sym, ap, ap₂, ◌∙◌, inl, inr, subst, arith, append_assoc, All, AllPairs, codes, range_with_len, cases_eq}
use Rattle.shared_lemmas.proofs.Common.{nat_tests, length-map, get_or-map, get_or-replicate, length-replicate, map_push, take_at, get_or-map-range_with_len, sum_by-cons, map-map}
use Rattle.std.specs.List.{sum_by}
use Rattle.shared_lemmas.proofs.Sums.{sum_map}
use Rattle.jass_base.specs.declared.posting.Posting.{Posting}
use Rattle.jass_base.specs.declared.doc_record.DocRecord.{DocRecord}
use Rattle.jass_base.specs.declared.postings_list.PostingsList.{PostingsList}
use Rattle.jass_base.specs.Ciff.{HeaderData, ListData, DocData}
use Rattle.jass_base.specs.CiffViews.{list_data, doc_data}
use Rattle.jass_base.specs.Lists.{DifferInTerm}
use Rattle.jass_base.specs.Postings.{docs_of}
use Rattle.trial_data.specs.Private.Gathering.{with_postings, with_lists, records_from, cf_sum}
use Rattle.trial_data.specs.Trials.{DrawnLists, term_postings, list_with, lists_from, put_list, term_name, doc_name, tf_in, doc_length, doc_with, header_with, collection_with}
use Rattle.trial_data.proofs.Drawing.{AreDrawn, term_drawn, docs_below, few_drawn, tf_sum_small}
use Rattle.trial_data.proofs.Lengths.{tf_in-cons, with_postings_at, length-with_postings}
use Rattle.trial_data.proofs.Naming.{terms_apart}

-- ---- one turn of drawing them

-- lists before those that are drawn
abbrev pub with_front : List ListData → DrawnLists → DrawnLists
with_front ls later = record { lists = ls ++ later.lists; state = later.state }

pub one_more : (ls : List ListData) (l : ListData) (later : DrawnLists) → with_front ls (put_list l later) ≡ with_front (ls ++ l ∷ []) later
one_more ls l later = ap (λ (ks : List ListData). (let d : DrawnLists = record { lists = ks; state = later.state } in d)) (sym (append_assoc ls (l ∷ []) later.lists))

-- the next list, where terms are left
pub next_list : (docs terms term state : ℕ) → term < terms → lists_from docs (terms - term) term state
    ≡ put_list (list_with term (term_postings docs term state).postings) (lists_from docs (terms - (term + 1)) (term + 1) (term_postings docs term state).state)
next_list docs terms term state low = let left : terms - term ≡ suc (terms - (term + 1)) = omega arith in ap (λ n. lists_from docs n term state) left

pub lists_more : (docs terms term state next : ℕ) (whole : DrawnLists) (lists now : List PostingsList) (list : PostingsList) → term < terms
    → whole ≡ with_front (map list_data lists) (lists_from docs (terms - term) term state)
    → list_data list ≡ list_with term (term_postings docs term state).postings → next ≡ (term_postings docs term state).state → now ≡ lists ++ list ∷ []
    → whole ≡ with_front (map list_data now) (lists_from docs (terms - (term + 1)) (term + 1) next)
lists_more docs terms term state next whole lists now list low before is moved put =
    before ∙ ap (with_front (map list_data lists)) (next_list docs terms term state low)
    ∙ one_more (map list_data lists) (list_with term (term_postings docs term state).postings) (lists_from docs (terms - (term + 1)) (term + 1) (term_postings docs term state).state)
    ∙ ap₂ (λ (ls : List ListData) (n : ℕ). with_front ls (lists_from docs (terms - (term + 1)) (term + 1) n))
    (ap (λ (l : ListData). map list_data lists ++ l ∷ []) (sym is) ∙ sym (ap (map list_data) put ∙ map_push list_data lists list)) (sym moved)

pub rest_more : (docs terms term state next : ℕ) (lengths now whole : List ℕ) (postings : List Posting) → term < terms
    → with_lists lengths (lists_from docs (terms - term) term state).lists ≡ whole
    → postings ≡ (term_postings docs term state).postings → next ≡ (term_postings docs term state).state → now ≡ with_postings lengths postings
    → with_lists now (lists_from docs (terms - (term + 1)) (term + 1) next).lists ≡ whole
rest_more docs terms term state next lengths now whole postings low before is moved added =
    ap₂ (λ (s : List ℕ) (n : ℕ). with_lists s (lists_from docs (terms - (term + 1)) (term + 1) n).lists) (added ∙ ap (with_postings lengths) is) moved
    ∙ sym (ap (λ (d : DrawnLists). with_lists lengths d.lists) (next_list docs terms term state low)) ∙ before

-- ---- each document once

none_in : (docs from doc : ℕ) (ps : List Posting) → AreDrawn docs from ps → doc < from → tf_in doc ps ≡ 0
none_in docs from doc [] h low = refl
none_in docs from doc (p ∷ ps) h low =
    let test : (p.doc == doc) ≡ false = grind (arith, nat_tests) in
    let first : cond (p.doc == doc) p.tf 0 ≡ 0 = rw test refl in
    let more = none_in docs (p.doc + 1) doc ps h.4 (omega arith) in
    omega (arith, h.0, tf_in-cons doc p ps)

pub one_in : (docs from doc : ℕ) (ps : List Posting) → AreDrawn docs from ps → tf_in doc ps ≤ 8
one_in docs from doc [] h = omega arith
one_in docs from doc (p ∷ ps) h = let later = one_in docs (p.doc + 1) doc ps h.4 in elim (cases_eq p.doc doc) [
  | inl e ↦
      let none = none_in docs (p.doc + 1) doc ps h.4 (omega arith) in
      let test : (p.doc == doc) ≡ true = eq-eqb p.doc doc e in
      let first : cond (p.doc == doc) p.tf 0 ≡ p.tf = rw test refl in
      omega (arith, h.3, tf_in-cons doc p ps)
  | inr apart ↦
      let test : (p.doc == doc) ≡ false = grind (arith, nat_tests) in
      let first : cond (p.doc == doc) p.tf 0 ≡ 0 = rw test refl in
      omega (arith, tf_in-cons doc p ps)
]

-- a term adds at most 8 to a document's length
pub term_adds : (docs term state : ℕ) (lengths : List ℕ) (bound : ℕ) → length lengths ≡ docs → ((doc : ℕ) → get_or lengths doc 0 ≤ bound)
    → (doc : ℕ) → get_or (with_postings lengths (term_postings docs term state).postings) doc 0 ≤ bound + 8
term_adds docs term state lengths bound long small doc =
    let ps = (term_postings docs term state).postings in
    let drawn = term_drawn docs term state in
    let below = subst (λ (n : ℕ). All (λ d. d < n) (docs_of ps)) (sym long) (docs_below docs 0 ps drawn) in
    omega (arith, with_postings_at lengths ps doc below, one_in docs 0 doc ps drawn, small doc)

-- ---- the lengths of the documents

pub length-with_lists : (lengths : List ℕ) (ls : List ListData) → length (with_lists lengths ls) ≡ length lengths
length-with_lists lengths [] = refl
length-with_lists lengths (l ∷ ls) = length-with_lists (with_postings lengths l.postings) ls ∙ length-with_postings lengths l.postings

with_lists_at : (docs terms term state : ℕ) (lengths : List ℕ) (doc : ℕ) → length lengths ≡ docs
    → get_or (with_lists lengths (lists_from docs terms term state).lists) doc 0 ≡ get_or lengths doc 0 + doc_length (lists_from docs terms term state).lists doc
with_lists_at docs zero term state lengths doc long = omega arith
with_lists_at docs (suc terms) term state lengths doc long =
    let d = term_postings docs term state in
    let drawn = term_drawn docs term state in
    let below = subst (λ (n : ℕ). All (λ x. x < n) (docs_of d.postings)) (sym long) (docs_below docs 0 d.postings drawn) in
    let first = with_postings_at lengths d.postings doc below in
    let later = with_lists_at docs terms (term + 1) d.state (with_postings lengths d.postings) doc (length-with_postings lengths d.postings ∙ long) in
    omega (arith, sum_by-cons (λ (l : ListData). tf_in doc l.postings) (list_with term d.postings) (lists_from docs terms (term + 1) d.state).lists)

records : (ls : List ListData) (doc : ℕ) (lengths : List ℕ) → ((i : ℕ) → i < length lengths → get_or lengths i 0 ≡ doc_length ls (doc + i)) → records_from doc lengths ≡ map (doc_with ls) (range_with_len doc (length lengths))
records ls doc [] h = refl
records ls doc (n ∷ lengths) h =
    let zeroth : doc + 0 ≡ doc = omega arith in
    let first : n ≡ doc_length ls doc = h 0 (omega arith) ∙ ap (doc_length ls) zeroth in
    let later = records ls (doc + 1) lengths (λ i low. let on : doc + suc i ≡ doc + 1 + i = omega arith in h (suc i) (omega arith) ∙ ap (doc_length ls) on) in
    ap₂ (λ (m : ℕ) (ds : List DocData). (let d : DocData = record { name = doc_name doc; length = m } in d) ∷ ds) first later

none_at : (n i : ℕ) → i < n → get_or (replicate n zero) i zero ≡ zero
none_at n i low = get_or-replicate n i zero zero low

pub length-records : (doc : ℕ) (lengths : List ℕ) → length (records_from doc lengths) ≡ length lengths
length-records doc [] = refl
length-records doc (n ∷ lengths) = ap suc (length-records (doc + 1) lengths)

pub records_are : (docs terms state : ℕ) (lengths : List ℕ) → lengths ≡ with_lists (replicate docs 0) (lists_from docs terms 0 state).lists
    → records_from 0 lengths ≡ map (doc_with (lists_from docs terms 0 state).lists) (range_with_len 0 docs)
records_are docs terms state lengths is =
    let ls = (lists_from docs terms 0 state).lists in
    let long : length lengths ≡ docs = ap length is ∙ length-with_lists (replicate docs 0) ls ∙ length-replicate docs 0 in
    records ls 0 lengths (λ i low.
    let at = ap (λ (s : List ℕ). get_or s i 0) is in
    let sum = with_lists_at docs terms 0 state (replicate docs 0) i (length-replicate docs 0) in
    let none = none_at docs i (omega arith) in
    let here : 0 + i ≡ i = omega arith in
    let same = ap (doc_length ls) here in
    omega arith)
    ∙ ap (λ n. map (doc_with ls) (range_with_len 0 n)) long

-- ---- the sum of all tf

pub cf_small : (docs terms term state : ℕ) → docs ≤ 1048576 → sum_by (λ (l : ListData). l.cf) (lists_from docs terms term state).lists ≤ 8388608 * terms
cf_small docs zero term state few = omega arith
cf_small docs (suc terms) term state few =
    let d = term_postings docs term state in
    let drawn = term_drawn docs term state in
    let count = few_drawn docs 0 d.postings drawn (omega arith) in
    let first = tf_sum_small docs 0 d.postings drawn in
    let later = cf_small docs terms (term + 1) d.state few in
    omega (arith, sum_by-cons (λ (l : ListData). l.cf) (list_with term d.postings) (lists_from docs terms (term + 1) d.state).lists)

pub cf_is : (lists : List PostingsList) (ls : List ListData) → map list_data lists ≡ ls → cf_sum lists ≡ sum_by (λ (l : ListData). l.cf) ls
cf_is lists ls is = sym (sum_map (λ (l : ListData). l.cf) list_data lists) ∙ ap (sum_by (λ (l : ListData). l.cf)) is

-- ---- their terms

pub length-lists : (docs terms term state : ℕ) → length (lists_from docs terms term state).lists ≡ terms
length-lists docs zero term state = refl
length-lists docs (suc terms) term state = ap suc (length-lists docs terms (term + 1) (term_postings docs term state).state)

names : (docs terms term state : ℕ) → map (λ (l : ListData). l.term) (lists_from docs terms term state).lists ≡ map term_name (range_with_len term terms)
names docs zero term state = refl
names docs (suc terms) term state = ap (λ (rest : List (List ℕ)). term_name term ∷ rest) (names docs terms (term + 1) (term_postings docs term state).state)

pub terms_differ : (docs terms state : ℕ) (lists : List PostingsList) → terms ≤ 1048576 → map list_data lists ≡ (lists_from docs terms 0 state).lists → AllPairs DifferInTerm lists
terms_differ docs terms state lists few is i j d before inside =
    let long : length lists ≡ terms = sym (length-map lists list_data) ∙ ap length is ∙ length-lists docs terms 0 state in
    let named : map (λ (l : PostingsList). l.term) lists ≡ map term_name (range_with_len 0 terms) =
    sym (map-map (λ (l : ListData). l.term) list_data lists) ∙ ap (map (λ (l : ListData). l.term)) is ∙ names docs terms 0 state in
    let text : (k : ℕ) → k < length lists → (get_or lists k d).term ≡ term_name k = λ k low.
    sym (get_or-map (λ (l : PostingsList). l.term) lists k d [] low) ∙ ap (λ (l : List (List ℕ)). get_or l k []) named
    ∙ get_or-map-range_with_len term_name 0 terms k k [] (omega arith) (omega arith) in
    λ same. terms_apart i j (omega arith) (omega arith) (λ e. omega arith) (sym (text i (omega arith)) ∙ same ∙ text j inside)

-- ---- how many there are

pub lists_many : (docs terms state : ℕ) (lists : List PostingsList) → map list_data lists ≡ (lists_from docs terms 0 state).lists → length lists ≡ terms
lists_many docs terms state lists is = sym (length-map lists list_data) ∙ ap length is ∙ length-lists docs terms 0 state

pub records_many : (docs : ℕ) (ls : List ListData) (lengths : List ℕ) (records : List DocRecord) → lengths ≡ with_lists (replicate docs 0) ls
    → map doc_data records ≡ records_from 0 lengths → length records ≡ docs
records_many docs ls lengths records is made =
    sym (length-map records doc_data) ∙ ap length made ∙ length-records 0 lengths ∙ ap length is ∙ length-with_lists (replicate docs 0) ls ∙ length-replicate docs 0

-- ---- the whole collection

-- lengths that were written in place
pub lengths_are : (docs n : ℕ) (ls : List ListData) (before now slice old : List ℕ) → before ≡ replicate docs 0 → now ≡ with_lists before ls → n ≡ docs
    → slice ≡ take n (now ++ drop (length now) old) → slice ≡ with_lists (replicate docs 0) ls
lengths_are docs n ls before now slice old empty counted many is =
    let long : length now ≡ n = ap length counted ∙ length-with_lists before ls ∙ ap length empty ∙ length-replicate docs 0 ∙ sym many in
    is ∙ take_at now (drop (length now) old) n long ∙ counted ∙ ap (λ (s : List ℕ). with_lists s ls) empty

abbrev header_counting : ℕ → ℕ → ℕ → HeaderData
header_counting lists docs total = record {
  version = 1;
  total_lists = lists;
  total_docs = docs;
  total_terms = total;
  average = replicate 8 0;
  description = codes "trial";
}

pub collection_is : (docs terms state total : ℕ) (header : HeaderData) (lists : List PostingsList) (records : List DocData) (lengths : List ℕ)
    → header ≡ header_counting terms docs total → total ≡ cf_sum lists → map list_data lists ≡ (lists_from docs terms 0 state).lists
    → records ≡ records_from 0 lengths → lengths ≡ with_lists (replicate docs 0) (lists_from docs terms 0 state).lists
    → record { header = header; lists = map list_data lists; docs = records } ≡ collection_with docs (lists_from docs terms 0 state).lists
collection_is docs terms state total header lists records lengths head sum is made counted =
    let ls = (lists_from docs terms 0 state).lists in
    let head_is : header ≡ header_with docs ls = head ∙ ap₂ (λ (n m : ℕ). header_counting n docs m) (sym (length-lists docs terms 0 state)) (sum ∙ cf_is lists ls is) in
    let records_is : records ≡ map (doc_with ls) (range_with_len 0 docs) = made ∙ records_are docs terms state lengths counted in
    (λ i. record { header = head_is i; lists = is i; docs = records_is i })
