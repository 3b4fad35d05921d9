-- The first word at fault, of any words that are asked for.
use Rattle.shared_lemmas.proofs.Common.{◌≡◌, ℕ, suc, ◌<◌, ◌≤◌, List, ◌++◌, length, take, drop, sym, ap, subst, ◌∙◌, arith, append_assoc, take-append-drop, take-take, take_all}
use Rattle.jass_words.specs.Private.Faults.{Begins, IsBad}

-- fewer words begin some too
pub begins_less : (Is : List (List ℕ) → Type 0) (words : List (List ℕ)) (n m : ℕ) → m ≤ n → Begins Is (take n words) → Begins Is (take m words)
begins_less Is words n m less (rest, is) = (drop m (take n words) ++ rest, subst Is same is)
  where
    same : take n words ++ rest ≡ take m words ++ (drop m (take n words) ++ rest)
    same = ap (λ (ws : List (List ℕ)). ws ++ rest) (sym (take-append-drop m (take n words))) ∙ append_assoc (take m (take n words)) (drop m (take n words)) rest
        ∙ ap (λ (ws : List (List ℕ)). ws ++ (drop m (take n words) ++ rest)) (take-take m n words less)

-- where the words up to a place begin none, they are none
pub never : (Is : List (List ℕ) → Type 0) (words : List (List ℕ)) (n : ℕ) → ¬ Begins Is (take n words) → ¬ Is words
never Is words n none is = none (drop n words, subst Is (sym (take-append-drop n words)) is)

-- the word at a place is at fault
pub bad_at : (Is : List (List ℕ) → Type 0) (words : List (List ℕ)) (n : ℕ) → n < length words → Begins Is (take n words) → ¬ Begins Is (take (suc n) words) → IsBad Is words (suc n)
bad_at Is words n within begins none = record {
  none = never Is words (suc n) none;
  before = λ m less. begins_less Is words n m (omega (arith, less)) begins;
  here = λ inside. none;
  there = omega (arith, within);
}

-- a word is missing at the end
pub bad_end : (Is : List (List ℕ) → Type 0) (words : List (List ℕ)) → Begins Is words → ¬ Is words → IsBad Is words (suc (length words))
bad_end Is words begins none = record {
  none = none;
  before = λ m less. begins_less Is words (length words) m (omega (arith, less)) (subst (Begins Is) (sym (take_all (length words) words (omega arith))) begins);
  here = λ inside. absurd (omega (arith, inside));
  there = omega arith;
}

-- the same of what is asked for in other words
pub bad_so : (Is Other : List (List ℕ) → Type 0) (words : List (List ℕ)) (which : ℕ) → ((ws : List (List ℕ)) → Is ws → Other ws) → ((ws : List (List ℕ)) → Other ws → Is ws) → IsBad Is words which → IsBad Other words which
bad_so Is Other words which there back bad = record {
  none = λ other. bad.none (back words other);
  before = λ n less. (let (rest, is) = bad.before n less in (rest, there (take n words ++ rest) is));
  here = λ inside (rest, other). bad.here inside (rest, back (take which words ++ rest) other);
  there = bad.there;
}
