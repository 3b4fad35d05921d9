-- Steps that were not-false.
use Rattle.shared_lemmas.proofs.Common.{◌≡◌, ℕ, ◌+◌, ◌≤◌, false, List, [], ◌∷◌, ◌++◌, length, drop, Result, Ok, Err, ap, sym, ◌∙◌, refl, arith, ⊤, drop-drop, length-drop, length-append, drop-append_seam}
use Rattle.std.proofs.lemmas.List.{append_assoc}
use Rattle.index_layout.specs.declared.refusal.OpenRefusal.{OpenRefusal}
use Rattle.index_layout.specs.Refusals.{◌>>=◌, Check, judged}
use Rattle.shared_lemmas.proofs.Results.{ok_same, unless_ok}

pub bind_ok : {A B : Type 0} (r : Result A OpenRefusal) (f : A → Result B OpenRefusal) (y : B) → (r >>= f) ≡ Ok y → (x : A) × (r ≡ Ok x) × (f x ≡ Ok y)
bind_ok (Ok x) f y is = (x, refl, is)
bind_ok (Err e) f y is = absurd cc

-- no check refuses
abbrev pub NoneWrong : List Check → Type 0
NoneWrong [] = ⊤
NoneWrong (c ∷ checks) = (c.wrong ≡ false) × NoneWrong checks

pub judged_ok : {A : Type 0} (checks : List Check) (x y : A) → judged checks x ≡ Ok y → NoneWrong checks × (x ≡ y)
judged_ok [] x y is = (tt, ok_same x y is)
judged_ok (c ∷ checks) x y is =
    let a = unless_ok c.wrong (record { at = c.at; why = c.why }) (judged checks x) y is in
    let b = judged_ok checks x y a.1 in
    ((a.0, b.0), b.1)

pub judged_all : {A : Type 0} (checks : List Check) (x : A) → NoneWrong checks → judged checks x ≡ Ok x
judged_all [] x none = refl
judged_all (c ∷ checks) x none = rw none.0 (judged_all checks x none.1)

-- behind what stands at a place
pub behind : (bytes : List ℕ) (at : ℕ) (xs ys : List ℕ) → drop at bytes ≡ xs ++ ys → drop (at + length xs) bytes ≡ ys
behind bytes at xs ys is = sym (drop-drop (length xs) at bytes) ∙ ap (drop (length xs)) is ∙ drop-append_seam xs ys

-- a part, and what stands behind it
pub parts_stand : (bytes : List ℕ) (at next end : ℕ) (one more : List ℕ) → drop at bytes ≡ one ++ drop next bytes → drop next bytes ≡ more ++ drop end bytes → drop at bytes ≡ (one ++ more) ++ drop end bytes
parts_stand bytes at next end one more first later = first ∙ ap (λ xs. one ++ xs) later ∙ sym (append_assoc one more (drop end bytes))

pub reaches : (bytes : List ℕ) (at : ℕ) (xs ys : List ℕ) → drop at bytes ≡ xs ++ ys → at ≤ length bytes → at + length xs ≤ length bytes
reaches bytes at xs ys is from = let n = sym (length-drop at bytes) ∙ ap length is ∙ length-append xs ys in omega (arith, n, from)
