-- Documents and the bytes that spell their gaps.
use Rattle.shared_lemmas.proofs.Common.{◌≡◌, ℕ, zero, suc, ◌+◌, ◌-◌, ◌^◌, ◌<◌, ◌≤◌, ◌==◌, true, cond, List, [], ◌∷◌, ◌++◌, length, drop, sum, All, Result, Ok, Err, refl, sym, ap, ◌∙◌, subst, arith, nat_lt, nat_tests, take-append-drop, All-drop, sum_by-cons, drop-append_seam}
use Rattle.jass_base.specs.declared.payload_fault.PayloadFault.{PayloadFault}
use Rattle.jass_base.specs.declared.payload_fault.PayloadFault.TheVariants.{Longer, DocRange}
use Rattle.jass_base.specs.Gaps.{GapSpelling, ◌>>=◌, gaps_from, docs_from, spelled_gaps, gap_in, read_gaps}
use Rattle.jass_base.specs.Wire.{short_varint}
use Rattle.jass_base.proofs.Gaps.{RiseFrom, docs_again, below_room, length-gaps_from}
use Rattle.jass_base.proofs.GapSpelling.{bound, gap_found, gap_spells}
use Rattle.shared_lemmas.proofs.Results.{if_ok, ok_same}

pub gaps_found : (d least : ℕ) (gaps : List ℕ) → least + sum gaps + length gaps ≤ d → d ≤ 2 ^ 28 → read_gaps d least (length gaps) (spelled_gaps gaps) ≡ Ok (docs_from least gaps)
gaps_found d least [] room limit = refl
gaps_found d least (gap ∷ gaps) room limit =
    let fits : least + gap + 1 + sum gaps + length gaps ≤ d = omega (arith, room, sum_by-cons (λ y. y) gap gaps) in
    let is = gap_found gap (spelled_gaps gaps) (omega arith) in
    let low : nat_lt (least + gap) d ≡ true = grind (arith, nat_tests) in
    let inner = gaps_found d (least + gap + 1) gaps fits limit in
    rw is (rw (low, drop-append_seam (short_varint gap) (spelled_gaps gaps), inner) refl)

-- what is read behind the first gap
abbrev behind_first : ℕ → ℕ → ℕ → List ℕ → GapSpelling → Result (List ℕ) PayloadFault
behind_first d least n bytes first =
    cond (nat_lt (least + first.gap) d) (read_gaps d (least + first.gap + 1) n (drop first.size bytes) >>= λ docs. Ok ((least + first.gap) ∷ docs)) (Err DocRange)

-- documents that were read
pub record AreRead (d least count : ℕ) (docs : List ℕ) : Type 0 where
  pub count_is : length docs ≡ count
  pub rise : RiseFrom least docs
  pub below : All (λ doc. doc < d) docs

none_read : (d least : ℕ) → AreRead d least 0 []
none_read d least = record { count_is = refl; rise = tt; below = λ k e h. absurd (omega arith) }

more_below : (d doc : ℕ) (docs : List ℕ) → doc < d → All (λ x. x < d) docs → All (λ x. x < d) (doc ∷ docs)
more_below d doc docs low below zero e h = low
more_below d doc docs low below (suc k) e h = below k e (omega arith)

pub are_read : (d least count : ℕ) (docs bytes : List ℕ) → read_gaps d least count bytes ≡ Ok docs → AreRead d least count docs
are_read d least zero docs bytes is =
    let t = if_ok (length bytes == 0) (Ok []) Longer docs is in
    subst (AreRead d least 0) (ok_same [] docs t.1) (none_read d least)
are_read d least (suc n) docs bytes is =
    let x = bound (gap_in bytes) (behind_first d least n bytes) docs is in
    let doc = least + x.0.gap in
    let t = if_ok (nat_lt doc d) (read_gaps d (doc + 1) n (drop x.0.size bytes) >>= λ docs. Ok (doc ∷ docs)) DocRange docs x.2 in
    let more = bound (read_gaps d (doc + 1) n (drop x.0.size bytes)) (λ docs. Ok (doc ∷ docs)) docs t.1 in
    let inner = are_read d (doc + 1) n more.0 (drop x.0.size bytes) more.1 in
    let test = t.0 in
    let low : doc < d = grind (arith, nat_tests) in
    let up : least ≤ doc = omega arith in
    subst (AreRead d least (suc n)) (ok_same (doc ∷ more.0) docs more.2)
    (record { count_is = ap suc inner.count_is; rise = (up, inner.rise); below = more_below d doc more.0 low inner.below })

pub bytes_read : (d least count : ℕ) (docs bytes : List ℕ) → All (λ byte. byte < 256) bytes → read_gaps d least count bytes ≡ Ok docs → bytes ≡ spelled_gaps (gaps_from least docs)
bytes_read d least zero docs [] all is =
    let t = if_ok true (Ok []) Longer docs is in
    subst (λ (s : List ℕ). (let none : List ℕ = [] in none) ≡ spelled_gaps (gaps_from least s)) (ok_same [] docs t.1) refl
bytes_read d least zero docs (b ∷ bytes) all is =
    let t = if_ok (length (b ∷ bytes) == 0) (Ok []) Longer docs is in
    absurd (let no = t.0 in grind (arith, nat_tests))
bytes_read d least (suc n) docs bytes all is =
    let x = bound (gap_in bytes) (behind_first d least n bytes) docs is in
    let doc = least + x.0.gap in
    let t = if_ok (nat_lt doc d) (read_gaps d (doc + 1) n (drop x.0.size bytes) >>= λ docs. Ok (doc ∷ docs)) DocRange docs x.2 in
    let more = bound (read_gaps d (doc + 1) n (drop x.0.size bytes)) (λ docs. Ok (doc ∷ docs)) docs t.1 in
    let inner = bytes_read d (doc + 1) n more.0 (drop x.0.size bytes) (All-drop (λ byte. byte < 256) x.0.size bytes all) more.1 in
    let front = gap_spells bytes x.0 all x.1 in
    let gap : least + x.0.gap - least ≡ x.0.gap = omega arith in
    subst (λ (s : List ℕ). bytes ≡ spelled_gaps (gaps_from least s)) (ok_same (doc ∷ more.0) docs more.2)
    (rw gap (sym (take-append-drop x.0.size bytes) ∙ ap (λ (s : List ℕ). s ++ drop x.0.size bytes) front ∙ ap (λ (s : List ℕ). short_varint x.0.gap ++ s) inner))

pub docs_found : (d least : ℕ) (docs : List ℕ) → RiseFrom least docs → All (λ doc. doc < d) docs → d ≤ 2 ^ 28 → read_gaps d least (length docs) (spelled_gaps (gaps_from least docs)) ≡ Ok docs
docs_found d least [] rise below limit = refl
docs_found d least (doc ∷ docs) rise below limit =
    let up = rise.0 in
    let low = below 0 0 (omega arith) in
    let again = docs_again least (doc ∷ docs) rise in
    let room = below_room d least (gaps_from least (doc ∷ docs)) (omega arith) (subst (λ (s : List ℕ). All (λ x. x < d) s) (sym again) below) in
    ap (λ n. read_gaps d least n (spelled_gaps (gaps_from least (doc ∷ docs)))) (sym (length-gaps_from least (doc ∷ docs)))
    ∙ gaps_found d least (gaps_from least (doc ∷ docs)) room limit
    ∙ ap (λ (s : List ℕ). Ok s) again
