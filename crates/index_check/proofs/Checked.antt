-- What the check of an index file answers, from what its parts read.
use Rattle.shared_lemmas.proofs.Common.{◌≡◌, ◌*◌, ◌∙◌, ℕ, zero, suc, List, [], ◌∷◌, length, replicate, Option, Some, None, IsSomeAnd, Result, Ok, Err, ap, sym, refl, arith, sum_by, flat_map, get, length-replicate, sum_by-cons, sum_by-replicate}
use Rattle.std.specs.Prelude.{⊤}
use Rattle.jass_base.specs.Outside.{Files, OnContent}
use Rattle.jass_base.specs.declared.answer.Totals.{Totals}
use Rattle.index_model.specs.Index.{SegmentData, TermData, IndexData}
use Rattle.index_layout.specs.Reading.{Front, NamesRead, TermsRead, IndexRead, after_front, after_names, after_payloads, after_terms, end_checks, head_codecs, read_front, read_index, read_names, read_payloads, read_terms}
use Rattle.index_layout.specs.Refusals.{judged, ◌>>=◌}
use Rattle.index_layout.specs.Totals.{greatest_in, totals_of}
use Rattle.index_layout.specs.View.{FileView, index_postings, term_postings}
use Rattle.index_layout.specs.declared.refusal.OpenFault.{OpenFault}
use Rattle.index_layout.specs.declared.refusal.OpenFault.TheVariants as faults
use Rattle.index_layout.specs.declared.refusal.OpenRefusal.{OpenRefusal}
use Rattle.index_file.specs.Contents.{IsContent}
use Rattle.index_check.specs.Checking.{Checks}
use Rattle.index_file.specs.Answers.{IsThere, Stops}
use Rattle.index_file.proofs.Stopping.{stops_as, stops_on}

-- a term without segments
abbrev bare : TermData
bare = record { term = []; segments = [] }

-- a term with one segment
abbrev whole_term : ℕ → ℕ → TermData
whole_term postings greatest = record { term = []; segments = record { impact = greatest; docs = replicate postings 0 } ∷ [] }

bare_segments : (n : ℕ) → flat_map (λ (t : TermData). t.segments) (replicate n bare) ≡ []
bare_segments zero = refl
bare_segments (suc n) = bare_segments n

-- of terms without segments, and one before them with all postings
whole_postings : (n postings greatest : ℕ) → sum_by term_postings (whole_term postings greatest ∷ replicate n bare) ≡ postings
whole_postings n postings greatest =
    let docs : List ℕ = replicate postings 0 in
    let s : SegmentData = record { impact = greatest; docs = docs } in
    let first = sum_by-cons term_postings (whole_term postings greatest) (replicate n bare) in
    let one : sum_by (λ (s : SegmentData). length s.docs) (s ∷ []) ≡ length docs = omega (arith, sum_by-cons (λ (s : SegmentData). length s.docs) s []) in
    let none : sum_by term_postings (replicate n bare) ≡ n * 0 = sum_by-replicate term_postings n bare in
    let size : length docs ≡ postings = length-replicate postings 0 in
    omega (arith, first, one, none, size)

whole_greatest : (n postings greatest : ℕ) → greatest_in (flat_map (λ (t : TermData). t.segments) (whole_term postings greatest ∷ replicate n bare)) ≡ greatest
whole_greatest n postings greatest =
    let s : SegmentData = record { impact = greatest; docs = replicate postings 0 } in
    let rest : flat_map (λ (t : TermData). t.segments) (whole_term postings greatest ∷ replicate n bare) ≡ s ∷ [] = ap (λ (more : List SegmentData). s ∷ more) (bare_segments n) in
    let only : greatest_in (s ∷ []) ≡ greatest = omega arith in
    ap greatest_in rest ∙ only

same_totals : (docs terms postings greatest a b c d : ℕ) → docs ≡ a → terms ≡ b → postings ≡ c → greatest ≡ d
    → (let x : Totals = record { docs = docs; terms = terms; postings = postings; greatest = greatest } in x) ≡ record { docs = a; terms = b; postings = c; greatest = d }
same_totals docs terms postings greatest a b c d one two three four = rw (one, two, three, four) refl

made : (docs terms postings greatest : ℕ) → (terms ≡ 0 → (postings ≡ 0) × (greatest ≡ 0))
    → (file : FileView) × ((let x : Totals = record { docs = docs; terms = terms; postings = postings; greatest = greatest } in x) ≡ totals_of file.index)
made docs zero postings greatest none =
    let names : List (List ℕ) = replicate docs [] in
    let index : IndexData = record { names = names; terms = [] } in (
      record { index = index; codecs = [] },
      same_totals docs 0 postings greatest (length names) 0 0 0 (sym (length-replicate docs [])) refl (none refl).0 (none refl).1,
    )
made docs (suc n) postings greatest none =
    let names : List (List ℕ) = replicate docs [] in
    let terms : List TermData = whole_term postings greatest ∷ replicate n bare in
    let index : IndexData = record { names = names; terms = terms } in (
      record { index = index; codecs = [] },
      same_totals docs (suc n) postings greatest (length names) (length terms) (index_postings index) (greatest_in (flat_map (λ (t : TermData). t.segments) terms))
          (sym (length-replicate docs [])) (ap suc (sym (length-replicate n bare))) (sym (whole_postings n postings greatest)) (sym (whole_greatest n postings greatest)),
    )

-- some view has these totals
pub made_view : (totals : Totals) → (totals.terms ≡ 0 → (totals.postings ≡ 0) × (totals.greatest ≡ 0)) → (file : FileView) × (totals ≡ totals_of file.index)
made_view totals none = made totals.docs totals.terms totals.postings totals.greatest none

-- a name that is there has what each content of it has
each_there : (files : Option Files) (name : List ℕ) (P : List ℕ → Type 0) → OnContent files name (λ content. ⊤) → ((content : List ℕ) → IsContent files name content → P content) → OnContent files name P
each_there None name P there each = tt
each_there (Some files) name P there each = at (get files name) there each
  where
    at : (o : Option (List ℕ)) → IsSomeAnd o (λ content. ⊤) → ((content : List ℕ) → o ≡ Some content → P content) → IsSomeAnd o P
    at None there each = there
    at (Some content) there each = each content refl

-- the totals are those of what is read
pub checks_ok : (files : Option Files) (name : List ℕ) (totals : Totals) → OnContent files name (λ content. ⊤) → ((file : FileView) × (totals ≡ totals_of file.index))
    → ((content : List ℕ) → IsContent files name content → (file : FileView) × (totals ≡ totals_of file.index) × (read_index content ≡ Ok file)) → Checks files name (Ok totals)
checks_ok None name totals there some each = (some.0, some.1, tt)
checks_ok (Some files) name totals there some each = at (get files name) there each
  where
    at : (o : Option (List ℕ)) → IsSomeAnd o (λ content. ⊤)
        → ((content : List ℕ) → o ≡ Some content → (file : FileView) × (totals ≡ totals_of file.index) × (read_index content ≡ Ok file))
        → (file : FileView) × (totals ≡ totals_of file.index) × IsSomeAnd o (λ content. read_index content ≡ Ok file)
    at None there each = absurd there
    at (Some content) there each = each content refl

-- a fault stops the check as reading does
pub checks_err : (files : Option Files) (name : List ℕ) (fault : OpenFault) → (let result : Result Totals OpenFault = Err fault in IsThere files name result)
    → ((content : List ℕ) → IsContent files name content → Stops fault (read_index content)) → Checks files name (Err fault)
checks_err files name (faults.Refused refusal) there each = each_there files name (λ content. read_index content ≡ Err refusal) there each
checks_err files name faults.ReadFault there each = tt
checks_err files name faults.NoMemory there each = tt

module _ (content : List ℕ) where
  front_there : (front : Front) → read_front content ≡ Ok front → read_index content ≡ after_front content front
  unfolding read_index
  front_there front is = ap (λ (r : Result Front OpenRefusal). r >>= after_front content) is

  names_there : (front : Front) (x : NamesRead) → read_names content front.docs 40 ≡ Ok x → after_front content front ≡ after_names content front x
  names_there front x is = ap (λ (r : Result NamesRead OpenRefusal). r >>= after_names content front) is

  terms_there : (front : Front) (x : NamesRead) (y : TermsRead) → read_terms content front.docs front.terms None x.end ≡ Ok y → after_names content front x ≡ after_terms content front x.names y
  terms_there front x y is = ap (λ (r : Result TermsRead OpenRefusal). r >>= after_terms content front x.names) is

  payloads_there : (front : Front) (names : List (List ℕ)) (y : TermsRead) (z : IndexRead) → read_payloads content front.docs y.terms y.end ≡ Ok z → after_terms content front names y ≡ after_payloads content names y.terms z
  payloads_there front names y z is = ap (λ (r : Result IndexRead OpenRefusal). r >>= after_payloads content names y.terms) is

-- what stops a part of the reading stops the whole
pub front_stops : (content : List ℕ) (fault : OpenFault) → Stops fault (read_front content) → Stops fault (read_index content)
unfolding read_index
front_stops content fault stops = stops_on fault (read_front content) (after_front content) stops

pub names_stop : (content : List ℕ) (fault : OpenFault) (front : Front) → read_front content ≡ Ok front
    → Stops fault (read_names content front.docs 40) → Stops fault (read_index content)
names_stop content fault front front_is stops =
    stops_as fault (read_index content) (after_front content front) (front_there content front front_is)
    (stops_on fault (read_names content front.docs 40) (after_names content front) stops)

pub terms_stop : (content : List ℕ) (fault : OpenFault) (front : Front) (x : NamesRead) → read_front content ≡ Ok front → read_names content front.docs 40 ≡ Ok x
    → Stops fault (read_terms content front.docs front.terms None x.end) → Stops fault (read_index content)
terms_stop content fault front x front_is names_are stops =
    stops_as fault (read_index content) (after_names content front x) (front_there content front front_is ∙ names_there content front x names_are)
    (stops_on fault (read_terms content front.docs front.terms None x.end) (after_terms content front x.names) stops)

pub payloads_stop : (content : List ℕ) (fault : OpenFault) (front : Front) (x : NamesRead) (y : TermsRead) → read_front content ≡ Ok front → read_names content front.docs 40 ≡ Ok x
    → read_terms content front.docs front.terms None x.end ≡ Ok y
    → Stops fault (read_payloads content front.docs y.terms y.end) → Stops fault (read_index content)
payloads_stop content fault front x y front_is names_are terms_are stops =
    stops_as fault (read_index content) (after_terms content front x.names y)
    (front_there content front front_is ∙ names_there content front x names_are ∙ terms_there content front x y terms_are)
    (stops_on fault (read_payloads content front.docs y.terms y.end) (after_payloads content x.names y.terms) stops)

-- what stands before the last checks
pub up_to_ends : (content : List ℕ) (front : Front) (x : NamesRead) (y : TermsRead) (z : IndexRead) → read_front content ≡ Ok front → read_names content front.docs 40 ≡ Ok x
    → read_terms content front.docs front.terms None x.end ≡ Ok y → read_payloads content front.docs y.terms y.end ≡ Ok z
    → read_index content ≡ judged (end_checks content y.terms z.end) (record { index = record { names = x.names; terms = z.terms }; codecs = head_codecs y.terms })
up_to_ends content front x y z front_is names_are terms_are payloads_are =
    front_there content front front_is ∙ names_there content front x names_are ∙ terms_there content front x y terms_are ∙ payloads_there content front x.names y z payloads_are
