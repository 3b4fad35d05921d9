-- Names are read as they are written.
use Rattle.shared_lemmas.proofs.Common.{◌≡◌, ◌≢◌, ℕ, suc, zero, ◌+◌, ◌-◌, ◌<◌, ◌≤◌, ◌==◌, ◌||◌, ◌&&◌, not, true, false, nat_lt, List, [], ◌∷◌, ◌++◌, length, take, drop, All, Result, Ok, ap, sym, subst, ◌∙◌, refl, arith, slice_range, list_all, is_utf8, take-append_seam, length-append, length-drop}
use Rattle.shared_lemmas.proofs.Common.{take-append-drop, drop-drop, length-take-le, nat_tests, All-head, All-tail, All-cons, All-nil, and_parts, or_parts, not-false}
use borrow.Author.Tests.{ltb-false}
use Rattle.std.proofs.lemmas.List.{append_assoc}
use Rattle.jass_base.specs.Limits.{IsName, IsText}
use Rattle.index_layout.specs.Bytes.{u32_in, u32_bytes}
use Rattle.index_layout.specs.Layout.{name_bytes, names_bytes}
use Rattle.index_layout.specs.declared.refusal.OpenRefusal.{OpenRefusal}
use Rattle.index_layout.specs.Refusals.{◌>>=◌}
use Rattle.index_layout.specs.Reading.{NamesRead, is_name_text, name_checks, name_in, name_end, read_names}
use Rattle.index_layout.proofs.Judging.{bind_ok, judged_ok, judged_all, behind, reaches, parts_stand}
use Rattle.index_layout.proofs.Numbers.{Fit, u32_found, u32_only}
use Rattle.shared_lemmas.proofs.Results.{ok_same}

-- a visible byte
seen : (b : ℕ) → (nat_lt 32 b && not (b == 127)) ≡ true → (32 < b) × (b ≢ 127)
seen b is = let t = and_parts (nat_lt 32 b) (not (b == 127)) is in (grind (arith, nat_tests, t.0), (λ same. absurd (grind (arith, nat_tests, t.1, same))))

unseen : (b : ℕ) → (32 < b) × (b ≢ 127) → (nat_lt 32 b && not (b == 127)) ≡ true
unseen b is = let more = is.0 in let other = is.1 in grind (arith, nat_tests, more, other)

pub visible : (name : List ℕ) → list_all (λ b. nat_lt 32 b && not (b == 127)) name ≡ true → All (λ b. (32 < b) × (b ≢ 127)) name
visible [] is = All-nil (λ b. (32 < b) × (b ≢ 127))
visible (b ∷ name) is =
    let t = and_parts (nat_lt 32 b && not (b == 127)) (list_all (λ b. nat_lt 32 b && not (b == 127)) name) is in
    All-cons (λ b. (32 < b) × (b ≢ 127)) b name (seen b t.0) (visible name t.1)

pub shown : (name : List ℕ) → All (λ b. (32 < b) × (b ≢ 127)) name → list_all (λ b. nat_lt 32 b && not (b == 127)) name ≡ true
shown [] are = refl
shown (b ∷ name) are = rw (unseen b (All-head (λ b. (32 < b) × (b ≢ 127)) b name are)) (shown name (All-tail (λ b. (32 < b) × (b ≢ 127)) b name are))

pub record NameThere (bytes : List ℕ) (at : ℕ) (name : List ℕ) : Type 0 where
  pub end : name_end bytes at ≡ Ok (at + length (name_bytes name))
  pub is : name_in bytes at ≡ name

pub name_found : (bytes : List ℕ) (at : ℕ) (name rest : List ℕ) → IsName name → IsText name → at ≤ length bytes → drop at bytes ≡ name_bytes name ++ rest → NameThere bytes at name
unfolding name_bytes name_in name_end name_checks
name_found bytes at name rest is text from stands =
    let n = length name in
    let size : u32_in bytes at ≡ n = u32_found bytes at n (name ++ rest) (omega (arith, is.fits)) stands in
    let body : drop (at + 4) bytes ≡ name ++ rest = behind bytes at (u32_bytes n) (name ++ rest) stands in
    let end : at + 4 + n ≤ length bytes = (let e = reaches bytes at (u32_bytes n ++ name) rest stands from in omega (arith, e)) in
    let here : slice_range bytes (at + 4) (at + 4 + u32_in bytes at) ≡ name = rw (size, body) ((let e : at + 4 + n - (at + 4) ≡ n = omega arith in ap (λ k. take k (name ++ rest)) e) ∙ take-append_seam name rest) in
    let a : nat_lt (length bytes) (at + 4) ≡ false = grind (arith) in
    let b : (u32_in bytes at == 0 || nat_lt 1048576 (u32_in bytes at)) ≡ false = rw size (grind (arith, nat_tests, is.some, is.fits)) in
    let d : nat_lt (length bytes) (at + 4 + u32_in bytes at) ≡ false = rw size (grind (arith)) in
    let good : is_name_text name ≡ true = rw text (shown name is.visible) in
    let e : not (is_name_text (slice_range bytes (at + 4) (at + 4 + u32_in bytes at))) ≡ false = ap (λ (b : List ℕ). not (is_name_text b)) here ∙ ap not good in
    record { is = here; end = judged_all (name_checks bytes at) (at + 4 + u32_in bytes at) (a, (b, (d, (e, tt)))) ∙ ap (λ k. (let r : Result ℕ OpenRefusal = Ok k in r)) (omega (arith, size)) }

pub record NameRead (bytes : List ℕ) (at next : ℕ) : Type 0 where
  pub is : IsName (name_in bytes at)
  pub text : IsText (name_in bytes at)
  pub stands : drop at bytes ≡ name_bytes (name_in bytes at) ++ drop next bytes
  pub within : next ≤ length bytes

pub name_only : (bytes : List ℕ) (at next : ℕ) → Fit bytes → name_end bytes at ≡ Ok next → NameRead bytes at next
unfolding name_bytes name_in name_end name_checks
name_only bytes at next fits read =
    let size = u32_in bytes at in
    let name = slice_range bytes (at + 4) (at + 4 + size) in
    let x = judged_ok (name_checks bytes at) (at + 4 + size) next read in
    let good = x.0 in
    let is_end = x.1 in
    let end : at + 4 + size ≤ length bytes = ltb-false (length bytes) (at + 4 + size) good.1.1.0 in
    let t = or_parts (size == 0) (nat_lt 1048576 size) good.1.0 in
    let u = and_parts (is_utf8 name) (list_all (λ b. nat_lt 32 b && not (b == 127)) name) (not-false (is_name_text name) good.1.1.1.0) in
    let exact : at + 4 + size - (at + 4) ≡ size = omega arith in
    let long : length name ≡ size = ap (λ k. length (take k (drop (at + 4) bytes))) exact ∙ length-take-le size (drop (at + 4) bytes) (let l = length-drop (at + 4) bytes in omega (arith, l, end)) in
    let text : drop (at + 4) bytes ≡ name ++ drop next bytes = sym (take-append-drop size (drop (at + 4) bytes)) ∙ ap (λ xs. xs ++ drop size (drop (at + 4) bytes)) (ap (λ k. take k (drop (at + 4) bytes)) (sym exact))
    ∙ ap (λ xs. name ++ xs) (drop-drop size (at + 4) bytes ∙ ap (λ k. drop k bytes) is_end) in
    record {
      is = record { some = grind (arith, nat_tests, t.0, long); fits = grind (arith, nat_tests, t.1, long); visible = visible name u.1 };
      text = u.0;
      stands = u32_only bytes at fits (omega (arith, end)) ∙ ap (λ n. u32_bytes n ++ drop (at + 4) bytes) (sym long) ∙ ap (λ xs. u32_bytes (length name) ++ xs) text;
      within = omega (arith, is_end, end);
    }

pub names_found : (bytes : List ℕ) (names : List (List ℕ)) (at : ℕ) (rest : List ℕ) → All IsName names → All IsText names → at ≤ length bytes → drop at bytes ≡ names_bytes names ++ rest
    → read_names bytes (length names) at ≡ Ok (record { names = names; end = at + length (names_bytes names) })
names_found bytes [] at rest are texts from stands = ap (λ n. (let r : Result NamesRead OpenRefusal = Ok (record { names = []; end = n }) in r)) (omega arith)
names_found bytes (name ∷ names) at rest are texts from stands =
    let behind_one = names_bytes names ++ rest in
    let here : drop at bytes ≡ name_bytes name ++ behind_one = stands ∙ append_assoc (name_bytes name) (names_bytes names) rest in
    let one = name_found bytes at name behind_one (All-head IsName name names are) (All-head IsText name names texts) from here in
    let later = names_found bytes names (at + length (name_bytes name)) rest (All-tail IsName name names are) (All-tail IsText name names texts) (reaches bytes at (name_bytes name) behind_one here from) (behind bytes at (name_bytes name) behind_one here) in
    let sizes = length-append (name_bytes name) (names_bytes names) in
    rw (one.end, later, one.is) (ap (λ n. (let r : Result NamesRead OpenRefusal = Ok (record { names = name ∷ names; end = n }) in r)) (omega (arith, sizes)))

pub record NamesAre (bytes : List ℕ) (at k : ℕ) (x : NamesRead) : Type 0 where
  pub are : All IsName x.names
  pub texts : All IsText x.names
  pub count : length x.names ≡ k
  pub stand : drop at bytes ≡ names_bytes x.names ++ drop x.end bytes
  pub within : x.end ≤ length bytes

pub names_only : (bytes : List ℕ) (k at : ℕ) (x : NamesRead) → Fit bytes → at ≤ length bytes → read_names bytes k at ≡ Ok x → NamesAre bytes at k x
names_only bytes zero at x fits from read = subst (NamesAre bytes at 0) (ok_same (record { names = []; end = at }) x read) (record { are = All-nil IsName; texts = All-nil IsText; count = refl; stand = refl; within = from })
names_only bytes (suc k) at x fits from read =
    let a = bind_ok (name_end bytes at) (λ next. (read_names bytes k next >>= λ later. Ok (record { names = name_in bytes at ∷ later.names; end = later.end }))) x read in
    let one = name_only bytes at a.0 fits a.1 in
    let b = bind_ok (read_names bytes k a.0) (λ later. Ok (record { names = name_in bytes at ∷ later.names; end = later.end })) x a.2 in
    let later = names_only bytes k a.0 b.0 fits one.within b.1 in
    subst (NamesAre bytes at (suc k)) (ok_same (record { names = name_in bytes at ∷ b.0.names; end = b.0.end }) x b.2) (record {
      are = All-cons IsName (name_in bytes at) b.0.names one.is later.are;
      texts = All-cons IsText (name_in bytes at) b.0.names one.text later.texts;
      count = ap suc later.count;
      stand = parts_stand bytes at a.0 b.0.end (name_bytes (name_in bytes at)) (names_bytes b.0.names) one.stands later.stand;
      within = later.within;
    })
