-- A file that is written in parts.
use Rattle.shared_lemmas.proofs.Common.{◌≡◌, ℕ, ◌+◌, List, [], ◌++◌, length, take, Option, Some, None, inl, inr, sym, ap, subst, ◌∙◌, ◌⊎◌, unwrap_or, insert, min, arith, take_min, take-append-le, take-append-add, take-append_seam}
use Rattle.index_write.proofs.Below.{Files, Sets, Extends, content_or_empty, get_set, set_twice}
use Rattle.index_write.specs.Saving.{LeavesPrefix}

pub sets_more : (old mid new : Option Files) (name text part : List ℕ) → Sets old mid name text → Extends mid new name part → Sets old new name (text ++ part)
sets_more None mid new name text part made put = subst (λ (m : Option Files). Extends m new name part) made put
sets_more (Some old) None new name text part made put = absurd made
sets_more (Some old) (Some mid) None name text part made put = absurd put
sets_more (Some old) (Some mid) (Some new) name text part made put =
    put ∙ ap (λ (m : Files). insert m name (content_or_empty m name ++ part)) made
    ∙ ap (λ o. insert (insert old name text) name (unwrap_or o [] ++ part)) (get_set old name text)
    ∙ set_twice old name text (text ++ part)

pub prefix_more : (old mid new : Option Files) (name text part : List ℕ) → Sets old mid name text → (new ≡ mid) ⊎ ((n : ℕ) × Extends mid new name (take n part)) → LeavesPrefix old new name (text ++ part)
prefix_more old mid new name text part made (inl same) =
    inr (length text, subst (λ (t : List ℕ). Sets old new name t) (sym (take-append_seam text part)) (subst (λ (m : Option Files). Sets old m name text) (sym same) made))
prefix_more old mid new name text part made (inr (n, put)) =
    inr (length text + n, subst (λ (t : List ℕ). Sets old new name t) (sym (take-append-add text part n)) (sets_more old mid new name text (take n part) made put))

pub prefix_longer : (old new : Option Files) (name text part : List ℕ) → LeavesPrefix old new name text → LeavesPrefix old new name (text ++ part)
prefix_longer old new name text part (inl same) = inl same
prefix_longer old new name text part (inr (n, set)) =
    let k = min n (length text) in
    inr (k, subst (Sets old new name) (sym (take-append-le k text part (omega arith) ∙ take_min n text)) set)
