-- Impacts written at the documents of a term's segments are those of the documents.
use Rattle.shared_lemmas.proofs.Common.{◌≡◌, ◌≢◌, ℕ, suc, ◌+◌, ◌*◌, ◌<◌, ◌≤◌, ◌==◌, List, [], ◌∷◌, length, get_or, set, replicate, count_by, cond, true, false, refl, sym, ap, subst, ◌∙◌, arith, inl, inr, ◌⊎◌, All, AllByRecursion, eq-eqb, cases_eq, nat_tests, sum_by-cons}
use Rattle.shared_lemmas.proofs.Common.{get_or-set_other, get_or-set_same, length-set, recursion_from_All, ext_get_or, All-set, drop, drop_all, drop-cons, length-map-range_with_len, get_or-map-range_with_len, length-replicate, get_or-replicate}
use Rattle.shared_lemmas.proofs.Members.{In, contains_from_in}
use Rattle.shared_lemmas.proofs.Pairs.{Pairs, pairs_by_recursion, rising_pairs}
use Rattle.index_model.specs.Index.{IsSegment, IsTerm, SegmentData, SharesNoDocument, TermData}
use Rattle.max_score.specs.Cursors.{impact_in, impacts_of, postings_in}
use Rattle.max_score.specs.Private.Stamping.{stamped, stamped_all}

abbrev count : ℕ → List ℕ → ℕ
count doc docs = count_by (λ d. d == doc) docs

nothing : (n : ℕ) → n * 0 ≡ 0
nothing n = omega arith

itself : (n : ℕ) → n * 1 ≡ n
itself n = omega arith

-- ---- counts

pub counted : (doc : ℕ) (docs : List ℕ) → 1 ≤ count doc docs → In doc docs
counted doc [] some = absurd (omega arith)
counted doc (d ∷ docs) some = by (cases_eq d doc) (counted doc docs) where
  by : (d ≡ doc) ⊎ (d ≡ doc → ⊥) → (1 ≤ count doc docs → In doc docs) → In doc (d ∷ docs)
  by (inl e) later = inl (sym e)
  by (inr apart) later =
      let s = sum_by-cons (λ (x : ℕ). cond (x == doc) 1 0) d docs in
      let f : (d == doc) ≡ false = grind (arith, nat_tests) in
      let t : count doc (d ∷ docs) ≡ count doc docs = rw (s, f) (omega arith) in
      inr (later (omega arith))

none_above : (doc : ℕ) (docs : List ℕ) → AllByRecursion (λ d. doc < d) docs → count doc docs ≡ 0
none_above doc [] above = refl
none_above doc (d ∷ docs) above =
    let s = sum_by-cons (λ (x : ℕ). cond (x == doc) 1 0) d docs in
    let more = above.0 in
    let f : (d == doc) ≡ false = grind (arith, nat_tests) in
    let rest = none_above doc docs above.1 in
    rw (s, f) (omega arith)

pub once : (doc : ℕ) (docs : List ℕ) → Pairs (λ x y. x < y) docs → count doc docs ≤ 1
once doc [] rising = omega arith
once doc (d ∷ docs) rising = by (cases_eq d doc) (once doc docs rising.1) where
  by : (d ≡ doc) ⊎ (d ≡ doc → ⊥) → count doc docs ≤ 1 → count doc (d ∷ docs) ≤ 1
  by (inl e) rest =
      let s = sum_by-cons (λ (x : ℕ). cond (x == doc) 1 0) d docs in
      let t : (d == doc) ≡ true = eq-eqb d doc e in
      let none = subst (λ n. count n docs ≡ 0) e (none_above d docs rising.0) in
      rw (s, t) (omega arith)
  by (inr apart) rest =
      let s = sum_by-cons (λ (x : ℕ). cond (x == doc) 1 0) d docs in
      let f : (d == doc) ≡ false = grind (arith, nat_tests) in
      rw (s, f) (omega arith)

-- ---- one segment

pub length_stamped : (impact : ℕ) (docs impacts : List ℕ) → length (stamped impact docs impacts) ≡ length impacts
length_stamped impact [] impacts = refl
length_stamped impact (d ∷ docs) impacts = length_stamped impact docs (set impacts d impact) ∙ length-set impacts d impact

other : (impact doc : ℕ) (docs impacts : List ℕ) → count doc docs ≡ 0 → get_or (stamped impact docs impacts) doc 0 ≡ get_or impacts doc 0
other impact doc [] impacts none = refl
other impact doc (d ∷ docs) impacts none = by (cases_eq d doc) (other impact doc docs (set impacts d impact)) where
  s : count doc (d ∷ docs) ≡ cond (d == doc) 1 0 + count doc docs
  s = sum_by-cons (λ (x : ℕ). cond (x == doc) 1 0) d docs

  by : (d ≡ doc) ⊎ (d ≡ doc → ⊥) → (count doc docs ≡ 0 → get_or (stamped impact docs (set impacts d impact)) doc 0 ≡ get_or (set impacts d impact) doc 0)
      → get_or (stamped impact docs (set impacts d impact)) doc 0 ≡ get_or impacts doc 0
  by (inl e) later = let t : (d == doc) ≡ true = eq-eqb d doc e in let some : count doc (d ∷ docs) ≡ 1 + count doc docs = rw (s, t) refl in absurd (omega arith)
  by (inr apart) later =
      let f : (d == doc) ≡ false = grind (arith, nat_tests) in
      let rest : count doc (d ∷ docs) ≡ count doc docs = rw (s, f) (omega arith) in
      let ne : doc ≢ d = λ e. apart (sym e) in
      later (omega arith) ∙ get_or-set_other impacts d doc impact 0 ne

stays : (impact doc : ℕ) (docs impacts : List ℕ) → get_or impacts doc 0 ≡ impact → doc < length impacts → get_or (stamped impact docs impacts) doc 0 ≡ impact
stays impact doc [] impacts is inside = is
stays impact doc (d ∷ docs) impacts is inside = stays impact doc docs (set impacts d impact) (by (cases_eq d doc)) (let n = length-set impacts d impact in omega arith) where
  by : (d ≡ doc) ⊎ (d ≡ doc → ⊥) → get_or (set impacts d impact) doc 0 ≡ impact
  by (inl e) = subst (λ n. get_or (set impacts d impact) n 0 ≡ impact) e (get_or-set_same impacts d impact 0 (omega arith))
  by (inr apart) = let ne : doc ≢ d = λ e. apart (sym e) in get_or-set_other impacts d doc impact 0 ne ∙ is

there : (impact doc : ℕ) (docs impacts : List ℕ) → In doc docs → doc < length impacts → get_or (stamped impact docs impacts) doc 0 ≡ impact
there impact doc [] impacts is inside = absurd is
there impact doc (d ∷ docs) impacts (inl e) inside =
    stays impact doc docs (set impacts d impact) (subst (λ n. get_or (set impacts d impact) n 0 ≡ impact) (sym e) (get_or-set_same impacts d impact 0 (omega arith))) (let n = length-set impacts d impact in omega arith)
there impact doc (d ∷ docs) impacts (inr k) inside = there impact doc docs (set impacts d impact) k (let n = length-set impacts d impact in omega arith)

-- ---- all segments of a term

pub length_all : (segments : List SegmentData) (impacts : List ℕ) → length (stamped_all segments impacts) ≡ length impacts
length_all [] impacts = refl
length_all (s ∷ segments) impacts = length_all segments (stamped s.impact s.docs impacts) ∙ length_stamped s.impact s.docs impacts

other_all : (doc : ℕ) (segments : List SegmentData) (impacts : List ℕ) → AllByRecursion (λ (s : SegmentData). count doc s.docs ≡ 0) segments
    → (get_or (stamped_all segments impacts) doc 0 ≡ get_or impacts doc 0) × (impact_in segments doc ≡ 0)
other_all doc [] impacts none = (refl, refl)
other_all doc (s ∷ segments) impacts none =
    let rest = other_all doc segments (stamped s.impact s.docs impacts) none.1 in
    let split = sum_by-cons (λ (s : SegmentData). s.impact * count doc s.docs) s segments in
    let zero_here : s.impact * count doc s.docs ≡ 0 = ap (λ n. s.impact * n) none.0 ∙ nothing s.impact in
    (rest.0 ∙ other s.impact doc s.docs impacts none.0, let sum = rest.1 in omega arith)

pub none_of : (doc : ℕ) (s : SegmentData) (segments : List SegmentData) → AllByRecursion (λ (t : SegmentData). SharesNoDocument s t) segments → In doc s.docs → AllByRecursion (λ (t : SegmentData). count doc t.docs ≡ 0) segments
none_of doc s [] apart is = tt
none_of doc s (t ∷ segments) apart is = (by (cases_eq (count doc t.docs) 0), none_of doc s segments apart.1 is) where
  by : (count doc t.docs ≡ 0) ⊎ (count doc t.docs ≡ 0 → ⊥) → count doc t.docs ≡ 0
  by (inl e) = e
  by (inr some) = absurd (apart.0 doc (contains_from_in s.docs doc is) (contains_from_in t.docs doc (counted doc t.docs (omega arith))))

all_at : (doc : ℕ) (segments : List SegmentData) (impacts : List ℕ) → AllByRecursion (λ (s : SegmentData). Pairs (λ x y. x < y) s.docs) segments → Pairs SharesNoDocument segments
    → doc < length impacts → get_or impacts doc 0 ≡ 0 → get_or (stamped_all segments impacts) doc 0 ≡ impact_in segments doc
all_at doc [] impacts rising apart inside is = is
all_at doc (s ∷ segments) impacts rising apart inside is = by (cases_eq (count doc s.docs) 0) (all_at doc segments (stamped s.impact s.docs impacts) rising.1 apart.1 (let n = length_stamped s.impact s.docs impacts in omega arith)) where
  split : impact_in (s ∷ segments) doc ≡ s.impact * count doc s.docs + impact_in segments doc
  split = sum_by-cons (λ (s : SegmentData). s.impact * count doc s.docs) s segments

  by : (count doc s.docs ≡ 0) ⊎ (count doc s.docs ≡ 0 → ⊥) → (get_or (stamped s.impact s.docs impacts) doc 0 ≡ 0 → get_or (stamped_all segments (stamped s.impact s.docs impacts)) doc 0 ≡ impact_in segments doc)
      → get_or (stamped_all segments (stamped s.impact s.docs impacts)) doc 0 ≡ impact_in (s ∷ segments) doc
  by (inl none) later =
      let zero_here : s.impact * count doc s.docs ≡ 0 = ap (λ n. s.impact * n) none ∙ nothing s.impact in
      let rest = later (other s.impact doc s.docs impacts none ∙ is) in
      rest ∙ (let e : impact_in segments doc ≡ impact_in (s ∷ segments) doc = omega (arith, split, zero_here) in e)
  by (inr some) later =
      let here = counted doc s.docs (omega arith) in
      let one : count doc s.docs ≡ 1 = (let most = once doc s.docs rising.0 in omega arith) in
      let mine : s.impact * count doc s.docs ≡ s.impact = ap (λ n. s.impact * n) one ∙ itself s.impact in
      let rest = other_all doc segments (stamped s.impact s.docs impacts) (none_of doc s segments apart.0 here) in
      let sum = rest.1 in
      let e : s.impact ≡ impact_in (s ∷ segments) doc = omega (arith, split, mine, sum) in
      rest.0 ∙ there s.impact doc s.docs impacts here inside ∙ e

-- ---- one segment more

pub below_stamped : (limit impact : ℕ) (docs impacts : List ℕ) → impact ≤ limit → All (λ i. i ≤ limit) impacts → All (λ i. i ≤ limit) (stamped impact docs impacts)
below_stamped limit impact [] impacts small all = all
below_stamped limit impact (d ∷ docs) impacts small all = below_stamped limit impact docs (set impacts d impact) small (All-set (λ i. i ≤ limit) impacts d impact small all)

pub record IsReadTo (segments : List SegmentData) (s : ℕ) (first now : List ℕ) (greatest before steps : ℕ) : Type 0 where
  pub left : stamped_all (drop s segments) now ≡ stamped_all segments first
  pub greatest_is : All (λ i. i ≤ greatest) now
  pub long : length now ≡ length first
  pub counted : steps + postings_in (drop s segments) ≡ before + postings_in segments

pub one_more : (segments : List SegmentData) (s : ℕ) (none : SegmentData) (first now next : List ℕ) (greatest before steps impact more later : ℕ)
    → IsReadTo segments s first now greatest before steps → s < length segments → impact ≡ (get_or segments s none).impact → next ≡ stamped impact (get_or segments s none).docs now → greatest ≤ more → impact ≤ more
    → later ≡ steps + length (get_or segments s none).docs → IsReadTo segments (s + 1) first next more before later
one_more segments s none first now next greatest before steps impact more later was inside of is rises covers counts = record {
  left = ap (stamped_all (drop (s + 1) segments)) (is ∙ ap (λ i. stamped i here.docs now) of) ∙ ap (λ l. stamped_all l now) (sym parted) ∙ was.left;
  greatest_is = subst (All (λ i. i ≤ more)) (sym is) (below_stamped more impact here.docs now covers (λ k d h. let less = was.greatest_is k d h in omega arith));
  long = ap (λ (l : List ℕ). length l) is ∙ length_stamped impact here.docs now ∙ was.long;
  counted = let sum = was.counted in let split = postings in omega arith;
}
  where
    here : SegmentData
    here = get_or segments s none

    parted : drop s segments ≡ here ∷ drop (s + 1) segments
    parted = drop-cons segments s none inside ∙ ap (λ n. here ∷ drop n segments) (let e : suc s ≡ s + 1 = omega arith in e)

    postings : postings_in (drop s segments) ≡ length here.docs + postings_in (drop (s + 1) segments)
    postings = ap postings_in parted ∙ sum_by-cons (λ (t : SegmentData). length t.docs) here (drop (s + 1) segments)

pub none_read : (segments : List SegmentData) (first : List ℕ) (steps : ℕ) → All (λ i. i ≡ 0) first → IsReadTo segments 0 first first 0 steps steps
none_read segments first steps least = record { left = refl; greatest_is = λ k d h. let zero_there = least k d h in omega arith; long = refl; counted = refl }

pub all_read : (segments : List SegmentData) (s : ℕ) (first now : List ℕ) (greatest before steps : ℕ) → IsReadTo segments s first now greatest before steps → length segments ≤ s
    → (now ≡ stamped_all segments first) × (steps ≡ before + postings_in segments)
all_read segments s first now greatest before steps read past =
    let none : drop s segments ≡ [] = drop_all s segments past in
    let sum = read.counted in
    let zero_left : postings_in (drop s segments) ≡ 0 = ap postings_in none in
    (ap (λ l. stamped_all l now) (sym none) ∙ read.left, omega arith)

-- the segments of a term written over nothing
pub stamped_term : (docs : ℕ) (t : TermData) → IsTerm docs t → stamped_all t.segments (replicate docs 0) ≡ impacts_of docs t.segments
stamped_term docs t is = ext_get_or 0 (stamped_all t.segments (replicate docs 0)) (impacts_of docs t.segments) (long ∙ sym (length-map-range_with_len (impact_in t.segments) 0 docs)) each where
  blank : (let zeros : List ℕ = replicate docs 0 in length zeros) ≡ docs
  blank = length-replicate docs 0

  long : length (stamped_all t.segments (replicate docs 0)) ≡ docs
  long = length_all t.segments (replicate docs 0) ∙ length-replicate docs 0

  rising : (segments : List SegmentData) → AllByRecursion (IsSegment docs) segments → AllByRecursion (λ (s : SegmentData). Pairs (λ x y. x < y) s.docs) segments
  rising [] all = tt
  rising (s ∷ segments) all = (rising_pairs s.docs all.0.docs.rising, rising segments all.1)

  each : (i : ℕ) → i < length (stamped_all t.segments (replicate docs 0)) → get_or (stamped_all t.segments (replicate docs 0)) i 0 ≡ get_or (impacts_of docs t.segments) i 0
  each i inside =
      let below : i < docs = (let n = long in omega arith) in
      all_at i t.segments (replicate docs 0) (rising t.segments (recursion_from_All (IsSegment docs) t.segments is.segments)) (pairs_by_recursion SharesNoDocument t.segments is.once)
      (omega (arith, blank, below)) (get_or-replicate docs i 0 0 below) ∙ sym (get_or-map-range_with_len (impact_in t.segments) 0 docs i i 0 below (omega arith))
