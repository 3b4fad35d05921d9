-- Heads of a piece, read as those of the whole.
use Rattle.shared_lemmas.proofs.Common.{◌≡◌, ℕ, zero, suc, ◌+◌, ◌*◌, ◌<◌, ◌≤◌, ◌⊎◌, inl, inr, cases_lt, true, nat_lt, List, [], ◌∷◌, length, Result, Ok, Err, refl, ap, sym, ◌∙◌, arith, nat_tests, is_none, ◌==◌, ◌||◌, nat_le, Bool, false, ⊤, if◌then◌else◌}
use Rattle.whole_files.specs.Windows.{AreFrom}
use Rattle.segment_codecs.specs.Codecs.{codec_of}
use Rattle.index_layout.specs.Bytes.{u16_in}
use Rattle.index_layout.specs.Heads.{HeadData}
use Rattle.index_layout.specs.Reading.{HeadsRead, head_in, head_checks, head_end, read_heads}
use Rattle.index_layout.specs.Refusals.{◌>>=◌, Check, judged, refuse}
use Rattle.index_layout.specs.declared.refusal.OpenRefusal.{OpenRefusal}
use Rattle.index_layout.specs.declared.refusal.OpenWhy.TheVariants.{Length}
use Rattle.index_layout.proofs.Judging.{judged_ok}
use Rattle.index_file.proofs.Pieces.{SameHead, head_moved, same_head}
use Rattle.index_check.specs.Private.Answers.{moved}
use Rattle.index_file.specs.Pieces.{IsPiece}
use Rattle.index_check.proofs.Judging.{judged_moved}

-- heads of a piece that begins at a place, or a refusal there, as they stand in the whole
abbrev pub moved_heads : ℕ → Result HeadsRead OpenRefusal → Result HeadsRead OpenRefusal
moved_heads by (Ok x) = Ok (record { heads = x.heads; end = by + x.end })
moved_heads by (Err refusal) = Err (record { at = by + refusal.at; why = refusal.why })

-- a head that doesn't fit
head_short : (bytes : List ℕ) (d above at : ℕ) → length bytes < at + 11 → head_end bytes d above at ≡ refuse at Length
unfolding head_end head_checks
head_short bytes d above at long =
    let outside : nat_lt (length bytes) (at + 11) ≡ true = grind (arith) in
    rw outside refl

-- one that fits
head_judged : (content bytes : List ℕ) (at d above i : ℕ) → AreFrom content at bytes → at + length bytes ≤ length content → i + 11 ≤ length bytes → head_end content d above (at + i) ≡ moved at (head_end bytes d above i)
unfolding head_end head_checks
head_judged content bytes at d above i from within inside =
    let same = same_head content bytes at i from inside in
    let a : nat_lt (length content) (at + i + 11) ≡ false = grind (arith) in
    let b : nat_lt (length bytes) (i + 11) ≡ false = grind (arith) in
    let place : at + i + 11 ≡ at + (i + 11) = omega arith in
    judged_moved at (i + 11) (at + i + 11) (head_checks content d above (at + i)) (head_checks bytes d above i) (
      record { wrong = a ∙ sym b; at = refl; why = refl },
      λ _. (
        record { wrong = ap (λ n. n == 0 || nat_le above n) (sym same.impact); at = refl; why = refl },
        λ _. (
          record { wrong = ap (λ n. n == 0 || nat_lt d n) (sym same.count); at = refl; why = refl },
          λ _.
              (record { wrong = ap (λ n. is_none (codec_of n)) (sym same.codec); at = refl; why = refl }, λ _. tt),
        ),
      ),
    ) place

head_moved_end : (content bytes : List ℕ) (at count d above i : ℕ) → IsPiece content at count bytes → i + 11 ≤ count → head_end content d above (at + i) ≡ moved at (head_end bytes d above i)
head_moved_end content bytes at count d above i piece fits = either (cases_lt (length bytes) (i + 11))
  where
    either : (length bytes < i + 11) ⊎ (i + 11 ≤ length bytes) → head_end content d above (at + i) ≡ moved at (head_end bytes d above i)
    either (inl short) =
        let end : length content < at + i + 11 = whole piece.enough in
        head_short content d above (at + i) end ∙ ap (moved at) (sym (head_short bytes d above i short))
      where
        whole : (count ≤ length bytes) ⊎ (at + length bytes ≡ length content) → length content < at + i + 11
        whole (inl many) = absurd (omega (arith, many, fits, short))
        whole (inr last) = omega (arith, last, short)
    either (inr inside) = head_judged content bytes at d above i piece.from piece.within inside

-- where a head ends
pub head_after : (bytes : List ℕ) (d above i next : ℕ) → head_end bytes d above i ≡ Ok next → (next ≡ i + 11) × (i + 11 ≤ length bytes)
unfolding head_end head_checks
head_after bytes d above i next is =
    let passed = judged_ok (head_checks bytes d above i) (i + 11) next is in
    let fits : nat_lt (length bytes) (i + 11) ≡ false = passed.0.0 in
    (sym passed.1, grind (arith, nat_tests, fits))

bind_moved : (by : ℕ) (e : Result ℕ OpenRefusal) (f g : ℕ → Result HeadsRead OpenRefusal) → ((next : ℕ) → e ≡ Ok next → f (by + next) ≡ moved_heads by (g next)) → (moved by e >>= f) ≡ moved_heads by (e >>= g)
bind_moved by (Ok next) f g on = on next refl
bind_moved by (Err refusal) f g on = refl

more_moved : (by : ℕ) (h : HeadData) (r : Result HeadsRead OpenRefusal) → (moved_heads by r >>= λ later. Ok (record { heads = h ∷ later.heads; end = later.end })) ≡ moved_heads by (r >>= λ later. Ok (record { heads = h ∷ later.heads; end = later.end }))
more_moved by h (Ok x) = refl
more_moved by h (Err refusal) = refl

-- a head in front of others
abbrev with_head : HeadData → HeadsRead → Result HeadsRead OpenRefusal
with_head h later = Ok (record { heads = h ∷ later.heads; end = later.end })

heads_step : (content bytes : List ℕ) (at d k i next : ℕ) → SameHead content bytes at i → head_in bytes i ≡ head_in content (at + i)
    → read_heads content d k (u16_in bytes i) (at + next) ≡ moved_heads at (read_heads bytes d k (u16_in bytes i) next)
    → (read_heads content d k (u16_in content (at + i)) (at + next) >>= with_head (head_in content (at + i))) ≡ moved_heads at (read_heads bytes d k (u16_in bytes i) next >>= with_head (head_in bytes i))
heads_step content bytes at d k i next same head later =
    ap (λ n. read_heads content d k n (at + next) >>= with_head (head_in content (at + i))) (sym same.impact)
    ∙ ap (λ (h : HeadData). read_heads content d k (u16_in bytes i) (at + next) >>= with_head h) (sym head)
    ∙ ap (λ (r : Result HeadsRead OpenRefusal). r >>= with_head (head_in bytes i)) later
    ∙ more_moved at (head_in bytes i) (read_heads bytes d k (u16_in bytes i) next)

heads_on_moved : (content bytes : List ℕ) (at count d k above i : ℕ) → IsPiece content at count bytes → i + 11 * k ≤ count → read_heads content d k above (at + i) ≡ moved_heads at (read_heads bytes d k above i)
heads_on_moved content bytes at count d zero above i piece fits = refl
heads_on_moved content bytes at count d (suc k) above i piece fits =
    let whole : ℕ → Result HeadsRead OpenRefusal = λ next. read_heads content d k (u16_in content (at + i)) next >>= with_head (head_in content (at + i)) in
    let part : ℕ → Result HeadsRead OpenRefusal = λ next. read_heads bytes d k (u16_in bytes i) next >>= with_head (head_in bytes i) in
    ap (λ (e : Result ℕ OpenRefusal). e >>= whole) (head_moved_end content bytes at count d above i piece (omega (arith, fits)))
    ∙ bind_moved at (head_end bytes d above i) whole part (λ next end.
    let after = head_after bytes d above i next end in
    let place = after.0 in
    let inside = after.1 in
    heads_step content bytes at d k i next (same_head content bytes at i piece.from inside) (head_moved content bytes at i piece.from inside)
    (heads_on_moved content bytes at count d k (u16_in bytes i) next piece (omega (arith, fits, place))))

pub heads_moved : (content bytes : List ℕ) (at count d k above : ℕ) → IsPiece content at count bytes → 11 * k ≤ count → read_heads content d k above at ≡ moved_heads at (read_heads bytes d k above 0)
heads_moved content bytes at count d k above piece fits =
    let place : at ≡ at + 0 = omega arith in
    ap (read_heads content d k above) place ∙ heads_on_moved content bytes at count d k above 0 piece (omega (arith, fits))

-- a step that refuses, or the one behind it
pub bind_err : {A B : Type 0} (e : Result A OpenRefusal) (f : A → Result B OpenRefusal) (refusal : OpenRefusal) → (e >>= f) ≡ Err refusal → (e ≡ Err refusal) ⊎ ((x : A) × (e ≡ Ok x) × (f x ≡ Err refusal))
bind_err (Ok x) f refusal is = inr (x, refl, is)
bind_err (Err other) f refusal is = inl (same other refusal is)
  where
    same : {A B : Type 0} (a b : OpenRefusal) → (let r : Result B OpenRefusal = Err a in r) ≡ Err b → (let r : Result A OpenRefusal = Err a in r) ≡ Err b
    same a b is = cc

if_err : (wrong : Bool) (one : OpenRefusal) (rest : Result ℕ OpenRefusal) (refusal : OpenRefusal) → (if wrong then Err one else rest) ≡ Err refusal → (one ≡ refusal) ⊎ (rest ≡ Err refusal)
if_err true one rest refusal is = inl cc
if_err false one rest refusal is = inr is

-- checks of one place refuse there
abbrev pub AllAt : ℕ → List Check → Type 0
AllAt place [] = ⊤
AllAt place (c ∷ checks) = (c.at ≡ place) × AllAt place checks

pub judged_at : (checks : List Check) (x place : ℕ) (refusal : OpenRefusal) → AllAt place checks → judged checks x ≡ Err refusal → refusal.at ≡ place
judged_at [] x place refusal all is = absurd cc
judged_at (c ∷ checks) x place refusal all is = elim (if_err c.wrong (record { at = c.at; why = c.why }) (judged checks x) refusal is) [
  | inl same ↦ sym (ap (λ (r : OpenRefusal). r.at) same) ∙ all.0
  | inr later ↦ judged_at checks x place refusal all.1 later
]

head_at : (bytes : List ℕ) (d above i : ℕ) (refusal : OpenRefusal) → head_end bytes d above i ≡ Err refusal → refusal.at ≡ i
unfolding head_end head_checks
head_at bytes d above i refusal is = judged_at (head_checks bytes d above i) (i + 11) i refusal (refl, (refl, (refl, (refl, tt)))) is

abbrev Refuses : {A : Type 0} → Result A OpenRefusal → OpenRefusal → Type 0
Refuses r refusal = r ≡ Err refusal

heads_small_on : (bytes : List ℕ) (d k above i : ℕ) (refusal : OpenRefusal) → read_heads bytes d k above i ≡ Err refusal → refusal.at ≤ i + 11 * k
heads_small_on bytes d zero above i refusal is = absurd cc
heads_small_on bytes d (suc k) above i refusal is =
    first (bind_err (head_end bytes d above i) (λ next. read_heads bytes d k (u16_in bytes i) next >>= with_head (head_in bytes i)) refusal is)
    (λ next later. heads_small_on bytes d k (u16_in bytes i) next refusal later)
  where
    never : (x : HeadsRead) (refusal : OpenRefusal) → (let r : Result HeadsRead OpenRefusal = Ok x in r) ≡ Err refusal → ⊥
    never x refusal is = cc

    second : (next : ℕ) → next ≡ i + 11 → (Refuses (read_heads bytes d k (u16_in bytes i) next) refusal → refusal.at ≤ next + 11 * k)
        → (read_heads bytes d k (u16_in bytes i) next ≡ Err refusal) ⊎ ((x : HeadsRead) × (read_heads bytes d k (u16_in bytes i) next ≡ Ok x) × Refuses (with_head (head_in bytes i) x) refusal) → refusal.at ≤ i + 11 * suc k
    second next place few (inl later) = (let small = few later in omega (arith, small, place))
    second next place few (inr x) = absurd (never (record { heads = head_in bytes i ∷ x.0.heads; end = x.0.end }) refusal x.2)

    first : (head_end bytes d above i ≡ Err refusal) ⊎ ((next : ℕ) × (head_end bytes d above i ≡ Ok next) × Refuses (read_heads bytes d k (u16_in bytes i) next >>= with_head (head_in bytes i)) refusal)
        → ((next : ℕ) → Refuses (read_heads bytes d k (u16_in bytes i) next) refusal → refusal.at ≤ next + 11 * k) → refusal.at ≤ i + 11 * suc k
    first (inl here) few = (let at = head_at bytes d above i refusal here in omega (arith, at))
    first (inr x) few = second x.0 (head_after bytes d above i x.0 x.1).0 (few x.0) (bind_err (read_heads bytes d k (u16_in bytes i) x.0) (with_head (head_in bytes i)) refusal x.2)

pub heads_small : (bytes : List ℕ) (d k above : ℕ) (refusal : OpenRefusal) → read_heads bytes d k above 0 ≡ Err refusal → refusal.at ≤ 11 * k
heads_small bytes d k above refusal is = (let few = heads_small_on bytes d k above 0 refusal is in omega (arith, few))
