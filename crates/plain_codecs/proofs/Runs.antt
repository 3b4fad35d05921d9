-- Gaps that bytes spell from a place on.
use Rattle.shared_lemmas.proofs.Common.{◌≡◌, ℕ, zero, suc, ◌+◌, ◌-◌, ◌^◌, ◌<◌, ◌≤◌, Bool, true, false, List, [], ◌∷◌, ◌++◌, length, get_or, take, drop, set, All, refl, sym, ap, ◌∙◌, subst, append_assoc, arith, nat_lt, IsOk, nat_tests, drop-drop, length-drop, take_more_set, length-append}
use Rattle.shared_lemmas.proofs.Common.{length-take-le, get_or-take, All-drop, drop-append_seam, take-append_seam, take-add}
use Rattle.std.proofs.lemmas.List.{length-set, append-nil}
use Rattle.jass_base.proofs.GapGroups.{one_group_written}
use Rattle.jass_base.specs.Gaps.{gap_in, spelled_gaps}
use Rattle.jass_base.specs.Wire.{short_varint}
use Rattle.plain_codecs.specs.Private.Runs.{IsRun}
use Rattle.jass_base.proofs.GapSpelling.{spelled, GapFound, spelled_same}

-- the first gap of a run
pub record Stepped (bytes : List ℕ) (next count gap : ℕ) (gaps : List ℕ) : Type 0 where
  pub first : take 1 gaps ≡ gap ∷ []
  pub rest : IsRun bytes next count (drop 1 gaps)

pub run_read : GapFound → (bytes : List ℕ) (at next gap count : ℕ) (gaps : List ℕ) → IsRun bytes at count gaps → 0 < count → gap_in (drop at bytes) ≡ spelled gap (next - at) → at < next → next ≤ length bytes
    → Stepped bytes next (count - 1) gap gaps
run_read found bytes at next gap count [] run some is on within = absurd (let e = run.enough in omega arith)
run_read found bytes at next gap count (x ∷ xs) run some is on within =
    let e = run.enough in
    let here = spelled_same gap x (next - at) (length (short_varint x)) (sym is ∙ ap gap_in run.spelled ∙ found x (spelled_gaps xs) (run.small 0 0 (omega arith))) in
    let place : at + length (short_varint x) ≡ next = omega (arith, here.1) in
    record {
      first = ap (λ n. n ∷ []) (sym here.0);
      rest = record {
        within = within;
        spelled = ap (λ n. drop n bytes) (sym place) ∙ sym (drop-drop (length (short_varint x)) at bytes) ∙ ap (drop (length (short_varint x))) run.spelled ∙ drop-append_seam (short_varint x) (spelled_gaps xs);
        small = λ k d h. run.small (suc k) d (omega arith);
        enough = omega arith;
      };
    }

pub run_known : GapFound → (bytes : List ℕ) (at count : ℕ) (gaps : List ℕ) → IsRun bytes at count gaps → 0 < count → IsOk (gap_in (drop at bytes))
run_known found bytes at count [] run some = absurd (let e = run.enough in omega arith)
run_known found bytes at count (x ∷ xs) run some = subst IsOk (sym (ap gap_in run.spelled ∙ found x (spelled_gaps xs) (run.small 0 0 (omega arith)))) refl

short_large : (gap : ℕ) (rest : List ℕ) → 128 ≤ gap → 128 ≤ get_or (short_varint gap ++ rest) 0 0
unfolding short_varint
short_large gap rest large = let test : nat_lt gap 128 ≡ false = grind (arith, nat_tests) in rw test (omega arith)

abbrev AreSmall : ℕ → List ℕ → Type 0
AreSmall n gaps = (take n gaps ≡ take n (spelled_gaps gaps)) × (drop n (spelled_gaps gaps) ≡ spelled_gaps (drop n gaps))

small_first : (n gap : ℕ) (gaps : List ℕ) → gap < 128 → AreSmall n gaps → AreSmall (suc n) (gap ∷ gaps)
small_first n gap gaps small rest = rw (one_group_written gap small) (ap (λ (xs : List ℕ). gap ∷ xs) rest.0, rest.1)

are_small : (n : ℕ) (gaps : List ℕ) → n ≤ length gaps → n ≤ length (spelled_gaps gaps) → All (λ byte. byte < 128) (take n (spelled_gaps gaps)) → AreSmall n gaps
are_small zero gaps few long small = (refl, refl)
are_small (suc n) [] few long small = absurd (omega arith)
are_small (suc n) (gap ∷ gaps) few long small =
    go (nat_lt gap 128) refl (λ low.
    let is : spelled_gaps (gap ∷ gaps) ≡ gap ∷ spelled_gaps gaps = ap (λ (s : List ℕ). s ++ spelled_gaps gaps) (one_group_written gap low) in
    let longer : suc n ≤ length (gap ∷ spelled_gaps gaps) = subst (λ (s : List ℕ). suc n ≤ length s) is long in
    let smaller : All (λ byte. byte < 128) (take (suc n) (gap ∷ spelled_gaps gaps)) = subst (λ (s : List ℕ). All (λ byte. byte < 128) (take (suc n) s)) is small in
    are_small n gaps (omega arith) (omega arith) (λ k d h. smaller (suc k) d (omega arith)))
  where
    go : (test : Bool) → nat_lt gap 128 ≡ test → (gap < 128 → AreSmall n gaps) → AreSmall (suc n) (gap ∷ gaps)
    go true t more = let low : gap < 128 = grind (arith, nat_tests) in small_first n gap gaps low (more low)
    go false t more =
        let high : 128 ≤ gap = grind (arith, nat_tests) in
        let s : List ℕ = spelled_gaps (gap ∷ gaps) in
        let first = small 0 0 (omega (arith, length-take-le (suc n) s long)) in
        absurd (omega (arith, first, short_large gap (spelled_gaps gaps) high, get_or-take (suc n) s 0 0 (omega arith)))

pub small_run : (bytes : List ℕ) (at n count : ℕ) (gaps : List ℕ) → IsRun bytes at count gaps → n ≤ count → at + n ≤ length bytes → All (λ byte. byte < 128) (take n (drop at bytes))
    → (take n gaps ≡ take n (drop at bytes)) × IsRun bytes (at + n) (count - n) (drop n gaps)
small_run bytes at n count gaps run few within small =
    let enough = run.enough in
    let long : n ≤ length (spelled_gaps gaps) = omega (arith, length-drop at bytes, ap length run.spelled) in
    let are = are_small n gaps (omega arith) long (subst (λ (s : List ℕ). All (λ byte. byte < 128) (take n s)) run.spelled small) in (
      are.0 ∙ ap (take n) (sym run.spelled),
      record {
        within = within;
        spelled = sym (drop-drop n at bytes) ∙ ap (drop n) run.spelled ∙ are.1;
        small = All-drop (λ gap. gap < 2 ^ 28) n gaps run.small;
        enough = omega (arith, length-drop n gaps);
      },
    )

-- the gaps that were read to the front of `out`
pub record ReadSoFar (bytes : List ℕ) (from count at filled : ℕ) (out : List ℕ) : Type 0 where
  pub few : filled ≤ count
  pub within : at ≤ length bytes
  pub long : length out ≡ 128
  pub front : (gaps : List ℕ) → IsRun bytes from count gaps → take filled out ≡ take filled gaps
  pub rest : (gaps : List ℕ) → IsRun bytes from count gaps → IsRun bytes at (count - filled) (drop filled gaps)

same_run : (bytes : List ℕ) (at m n : ℕ) (xs ys : List ℕ) → m ≡ n → xs ≡ ys → IsRun bytes at m xs → IsRun bytes at n ys
same_run bytes at m n xs ys is same run = subst (λ (zs : List ℕ). IsRun bytes at n zs) same (subst (λ k. IsRun bytes at k xs) is run)

fewer_run : (bytes : List ℕ) (at m n : ℕ) (gaps : List ℕ) → n ≤ length gaps → IsRun bytes at m gaps → IsRun bytes at n gaps
fewer_run bytes at m n gaps enough run = record { within = run.within; spelled = run.spelled; small = run.small; enough = enough }

-- the gaps that were read one by one, to the places from `first` on
pub record EachSoFar (bytes : List ℕ) (from first end at place : ℕ) (old out : List ℕ) : Type 0 where
  pub up : first ≤ place
  pub few : place ≤ end
  pub within : at ≤ length bytes
  pub long : length out ≡ 128
  pub front : (gaps : List ℕ) → IsRun bytes from (end - first) gaps → take place out ≡ take first old ++ take (place - first) gaps
  pub rest : (gaps : List ℕ) → IsRun bytes from (end - first) gaps → IsRun bytes at (end - place) (drop (place - first) gaps)

pub none_each : (bytes : List ℕ) (from first end : ℕ) (old gaps : List ℕ) → IsRun bytes from (end - first) gaps → first ≤ end → length old ≡ 128 → EachSoFar bytes from first end from first old old
none_each bytes from first end old gaps run order long =
    let none : first - first ≡ 0 = omega arith in
    record {
      up = omega arith;
      few = order;
      within = run.within;
      long = long;
      front = λ gaps run. sym (ap (λ n. take first old ++ take n gaps) none ∙ append-nil (take first old));
      rest = λ gaps run. same_run bytes from (end - first) (end - first) gaps (drop (first - first) gaps) refl (ap (λ n. drop n gaps) (sym none)) run;
    }

pub one_each : GapFound → (bytes : List ℕ) (from first end at place gap next : ℕ) (old out : List ℕ) → EachSoFar bytes from first end at place old out → end ≤ 128 → place < end
    → gap_in (drop at bytes) ≡ spelled gap (next - at) → at < next → next ≤ length bytes → EachSoFar bytes from first end next (place + 1) old (set out place gap)
one_each found bytes from first end at place gap next old out far block left is on within =
    let up = far.up in
    let n : ℕ = place - first in
    let more : place + 1 - first ≡ n + 1 = omega arith in
    let step = λ (gaps : List ℕ) (run : IsRun bytes from (end - first) gaps). run_read found bytes at next gap (end - place) (drop n gaps) (far.rest gaps run) (omega arith) is on within in
    record {
      up = omega arith;
      few = omega arith;
      within = within;
      long = length-set out place gap ∙ far.long;
      front = λ gaps run.
          take_more_set out place gap (omega (arith, far.long))
          ∙ ap (λ (xs : List ℕ). xs ++ gap ∷ []) (far.front gaps run)
          ∙ append_assoc (take first old) (take n gaps) (gap ∷ [])
          ∙ ap (λ (xs : List ℕ). take first old ++ (take n gaps ++ xs)) (sym (step gaps run).first)
          ∙ ap (λ (xs : List ℕ). take first old ++ xs) (sym (take-add n 1 gaps))
          ∙ ap (λ m. take first old ++ take m gaps) (sym more);
      rest = λ gaps run. same_run bytes next (end - place - 1) (end - (place + 1)) (drop 1 (drop n gaps)) (drop (place + 1 - first) gaps) (omega arith) (drop-drop 1 n gaps ∙ ap (λ m. drop m gaps) (sym more)) (step gaps run).rest;
    }

pub part_run : (bytes : List ℕ) (from count at filled part : ℕ) (out : List ℕ) → ReadSoFar bytes from count at filled out → filled + part ≤ count → (gaps : List ℕ) → IsRun bytes from count gaps → IsRun bytes at (filled + part - filled) (drop filled gaps)
part_run bytes from count at filled part out far left gaps run =
    let enough = run.enough in
    fewer_run bytes at (count - filled) (filled + part - filled) (drop filled gaps) (omega (arith, length-drop filled gaps)) (far.rest gaps run)

-- a part that was read one by one
pub more_each : (bytes : List ℕ) (from count at filled part behind : ℕ) (out new : List ℕ) → ((gaps : List ℕ) × IsRun bytes from count gaps) → ReadSoFar bytes from count at filled out → filled + part ≤ count → length new ≡ 128
    → ((gaps : List ℕ) → IsRun bytes at (filled + part - filled) gaps → take (filled + part) new ≡ take filled out ++ take (filled + part - filled) gaps)
    → ((gaps : List ℕ) → IsRun bytes at (filled + part - filled) gaps → IsRun bytes behind 0 (drop (filled + part - filled) gaps))
    → ReadSoFar bytes from count behind (filled + part) new
more_each bytes from count at filled part behind out new stands far left long read rest_read =
    let size : filled + part - filled ≡ part = omega arith in
    let inner = part_run bytes from count at filled part out far left in
    record {
      few = left;
      within = (rest_read (drop filled stands.0) (inner stands.0 stands.1)).within;
      long = long;
      front = λ gaps run.
          read (drop filled gaps) (inner gaps run)
          ∙ ap (λ (xs : List ℕ). xs ++ take (filled + part - filled) (drop filled gaps)) (far.front gaps run)
          ∙ ap (λ n. take filled gaps ++ take n (drop filled gaps)) size
          ∙ sym (take-add filled part gaps);
      rest = λ gaps run.
          let enough = run.enough in
          let same : drop (filled + part - filled) (drop filled gaps) ≡ drop (filled + part) gaps = ap (λ n. drop n (drop filled gaps)) size ∙ drop-drop part filled gaps in
          fewer_run bytes behind 0 (count - (filled + part)) (drop (filled + part) gaps) (omega (arith, length-drop (filled + part) gaps))
          (same_run bytes behind 0 0 (drop (filled + part - filled) (drop filled gaps)) (drop (filled + part) gaps) refl same (rest_read (drop filled gaps) (inner gaps run)));
    }

pub more_small : (bytes : List ℕ) (from count at filled : ℕ) (out new : List ℕ) → ReadSoFar bytes from count at filled out → count ≤ 128 → filled + 16 ≤ count → at + 16 ≤ length bytes
    → All (λ byte. byte < 128) (take 16 (drop at bytes)) → new ≡ take filled out ++ take 16 (drop at bytes) ++ drop (filled + 16) out → ReadSoFar bytes from count (at + 16) (filled + 16) new
more_small bytes from count at filled out new far block left within small is =
    let step = λ (gaps : List ℕ) (run : IsRun bytes from count gaps). small_run bytes at 16 (count - filled) (drop filled gaps) (far.rest gaps run) (omega arith) within small in
    let front : List ℕ = take filled out in
    let middle : List ℕ = take 16 (drop at bytes) in
    let back : List ℕ = drop (filled + 16) out in
    let long_front : length front ≡ filled = length-take-le filled out (omega (arith, far.long)) in
    let long_middle : length middle ≡ 16 = length-take-le 16 (drop at bytes) (omega (arith, length-drop at bytes)) in
    let long_both : length (front ++ middle) ≡ filled + 16 = omega (arith, length-append front middle) in
    let parts : new ≡ (front ++ middle) ++ back = is in
    record {
      few = omega arith;
      within = within;
      long = ap length parts ∙ omega (arith, length-append (front ++ middle) back, length-drop (filled + 16) out, far.long);
      front = λ gaps run.
          ap (take (filled + 16)) parts
          ∙ ap (λ n. take n ((front ++ middle) ++ back)) (sym long_both)
          ∙ take-append_seam (front ++ middle) back
          ∙ ap (λ (xs : List ℕ). xs ++ middle) (far.front gaps run)
          ∙ ap (λ (xs : List ℕ). take filled gaps ++ xs) (sym (step gaps run).0)
          ∙ sym (take-add filled 16 gaps);
      rest = λ gaps run. same_run bytes (at + 16) (count - filled - 16) (count - (filled + 16)) (drop 16 (drop filled gaps)) (drop (filled + 16) gaps) (omega arith) (drop-drop 16 filled gaps) (step gaps run).1;
    }

pub record AllEach (bytes : List ℕ) (from first end at : ℕ) (old out : List ℕ) : Type 0 where
  pub gaps : (gaps : List ℕ) → IsRun bytes from (end - first) gaps → take end out ≡ take first old ++ take (end - first) gaps
  pub behind : (gaps : List ℕ) → IsRun bytes from (end - first) gaps → IsRun bytes at 0 (drop (end - first) gaps)

pub all_each : (bytes : List ℕ) (from first end at place : ℕ) (old out : List ℕ) → EachSoFar bytes from first end at place old out → end ≤ place → AllEach bytes from first end at old out
all_each bytes from first end at place old out far past =
    let few = far.few in
    let same : place ≡ end = omega arith in
    record {
      gaps = λ gaps run. ap (λ n. take n out) (sym same) ∙ far.front gaps run ∙ ap (λ n. take first old ++ take (n - first) gaps) same;
      behind = λ gaps run. same_run bytes at (end - place) 0 (drop (place - first) gaps) (drop (end - first) gaps) (omega arith) (ap (λ n. drop (n - first) gaps) same) (far.rest gaps run);
    }

pub moved : (bytes : List ℕ) (from count at at' filled filled' : ℕ) (out out' : List ℕ) → at ≡ at' → filled ≡ filled' → out ≡ out' → ReadSoFar bytes from count at filled out → ReadSoFar bytes from count at' filled' out'
moved bytes from count at at' filled filled' out out' same_at same_filled same_out far =
    subst (λ (xs : List ℕ). ReadSoFar bytes from count at' filled' xs) same_out (subst (λ n. ReadSoFar bytes from count at' n out) same_filled (subst (λ n. ReadSoFar bytes from count n filled out) same_at far))
