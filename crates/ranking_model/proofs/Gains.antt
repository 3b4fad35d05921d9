-- An answer to which nothing can be added is settled, and one whose documents some gains change is open.
use Rattle.shared_lemmas.proofs.Common.{◌≡◌, ◌+◌, ℕ, List, [], ◌∷◌, refl, ap, sum_by, arith, sum_by-IsPermutation}
use Rattle.jass_base.specs.declared.answer.Grade.TheVariants.{Open}
use Rattle.ranking_model.specs.Finality.{AreGains, raised, first_documents, IsSettled, IsGrade}

-- no gains leave the scores as they are
no_gains : (scores gains : List ℕ) → AreGains 0 scores gains → raised scores gains ≡ scores
no_gains [] gains a = refl
no_gains (s ∷ scores) [] a = refl
no_gains (s ∷ scores) (g ∷ gains) a =
    let none : s + g ≡ s = (let h = a.within.0 in omega arith) in
    rw (none, no_gains scores gains (record { each = (let e = a.each in omega arith); within = a.within.1 })) refl

pub settled_without_gains : (scores : List ℕ) (k : ℕ) → IsSettled scores k 0
settled_without_gains scores k gains a = ap (λ l. first_documents l k) (no_gains scores gains a)

-- gains that bring other documents, as some sum over them tells
pub not_kept : (scores gains : List ℕ) (k bound : ℕ) (f : ℕ → ℕ) → AreGains bound scores gains → (sum_by f (first_documents (raised scores gains) k) ≡ sum_by f (first_documents scores k) → ⊥) → IsGrade scores k bound Open
not_kept scores gains k bound f a differ =
    ((λ settled. differ (ap (sum_by f) (settled gains a))), (λ kept. differ (sum_by-IsPermutation f (first_documents scores k) (first_documents (raised scores gains) k) (kept gains a))))
