-- Lists of frames along links, and what a write to one link leaves of them.
use Rattle.shared_lemmas.proofs.Common.{◌≡◌, ◌≢◌, ℕ, suc, zero, ◌+◌, ◌<◌, List, [], ◌∷◌, ◌++◌, length, map, refl, sym, ap, ◌∙◌, subst, Bool, cond, ◌==◌, if◌then◌else◌, arith, ne_eqb, AllByRecursion}
use Rattle.shared_lemmas.proofs.Lists.{all_weaker, all_append, all_both}
use Rattle.frame_pool.specs.Links.{walk}
use Rattle.frame_pool.specs.Private.Kept.{Ends, Distinct, Belong}

pub length-walk : (next : ℕ → ℕ) (k a : ℕ) → length (walk next k a) ≡ k
length-walk next zero a = refl
length-walk next (suc k) a = ap suc (length-walk next k (next a))

-- links that agree along a walk give the same walk
pub walk-same : (next next' : ℕ → ℕ) (k a : ℕ) → AllByRecursion (λ x. next' x ≡ next x) (walk next k a) → walk next' k a ≡ walk next k a
walk-same next next' zero a h = refl
walk-same next next' (suc k) a h = ap (λ (xs : List ℕ). a ∷ xs) (ap (walk next' k) h.0 ∙ walk-same next next' k (next a) h.1)

-- and it ends where it did
pub ends-same : (next next' : ℕ → ℕ) (k a last : ℕ) → AllByRecursion (λ x. next' x ≡ next x) (walk next k a) → Ends next k a last → Ends next' k a last
ends-same next next' zero a last h e = e
ends-same next next' (suc zero) a last h e = (e.0, h.0 ∙ e.1)
ends-same next next' (suc (suc k)) a last h e = subst (λ (b : ℕ). Ends next' (suc k) b last) (sym h.0) (ends-same next next' (suc k) (next a) last h.1 e)

-- a frame in front of a walk leaves its end
pub ends-cons : (next : ℕ → ℕ) (k f a last : ℕ) → next f ≡ a → Ends next (suc k) a last → Ends next (suc (suc k)) f last
ends-cons next k f a last is e = subst (λ (b : ℕ). Ends next (suc k) b last) (sym is) e

-- what holds along a walk holds of its last frame
pub at_end : (P : ℕ → Type 0) (next : ℕ → ℕ) (k a last : ℕ) → Ends next (suc k) a last → AllByRecursion P (walk next (suc k) a) → P last
at_end P next zero a last e h = subst P e.0 h.0
at_end P next (suc k) a last e h = at_end P next k (next a) last e h.1

-- a walk whose last frame is linked to another list goes on along it
pub walk-spliced : (next next' : ℕ → ℕ) (k m n a last free : ℕ) → n ≡ suc k + m → Ends next (suc k) a last → Distinct (walk next (suc k) a)
    → ((x : ℕ) → x ≢ last → next' x ≡ next x) → next' last ≡ free → walk next' n a ≡ walk next (suc k) a ++ walk next' m free
walk-spliced next next' zero m n a last free is e d same at =
    let n-is : n ≡ suc m = omega arith in
    ap (λ (j : ℕ). walk next' j a) n-is ∙ ap (λ (b : ℕ). a ∷ walk next' m b) (ap next' e.0 ∙ at)
walk-spliced next next' (suc k) m n a last free is e d same at =
    let n-is : n ≡ suc (suc k + m) = omega arith in
    let apart : last ≢ a = at_end (λ (y : ℕ). y ≢ a) next k (next a) last e d.0 in
    ap (λ (j : ℕ). walk next' j a) n-is
    ∙ ap (λ (xs : List ℕ). a ∷ xs) (ap (walk next' (suc k + m)) (same a (λ h. apart (sym h))) ∙ walk-spliced next next' k m (suc k + m) (next a) last free refl e d.1 same at)

-- frames of one owner are none of another's
pub not_in : (n : ℕ) (owner : ℕ → ℕ) (o : ℕ) (frames : List ℕ) (f : ℕ) → AllByRecursion (λ x. (x < n) × (owner x ≡ o)) frames → owner f ≢ o → AllByRecursion (λ x. x ≢ f) frames
not_in n owner o frames f owned other = all_weaker (λ x. (x < n) × (owner x ≡ o)) (λ x. x ≢ f) (λ x p same. other (ap owner (sym same) ∙ p.1)) frames owned

-- with new owners that are the old ones there
pub belong-same : (n : ℕ) (owner owner' : ℕ → ℕ) (o o' : ℕ) (frames : List ℕ) → AllByRecursion (λ x. owner x ≡ o → owner' x ≡ o') frames → Belong n owner o frames → Belong n owner' o' frames
belong-same n owner owner' o o' frames to b = record {
  owned = all_weaker (λ x. (owner x ≡ o → owner' x ≡ o') × ((x < n) × (owner x ≡ o))) (λ x. (x < n) × (owner' x ≡ o')) (λ x p. (p.1.0, p.0 p.1.1)) frames
      (all_both (λ x. owner x ≡ o → owner' x ≡ o') (λ x. (x < n) × (owner x ≡ o)) frames to b.owned);
  once = b.once;
}

pub distinct-append : (xs ys : List ℕ) → Distinct xs → Distinct ys → AllByRecursion (λ x. AllByRecursion (λ y. y ≢ x) ys) xs → Distinct (xs ++ ys)
distinct-append [] ys d e apart = e
distinct-append (x ∷ xs) ys d e apart = (all_append (λ y. y ≢ x) xs ys d.0 apart.0, distinct-append xs ys d.1 e apart.1)

pub map-agree : (page page' : ℕ → ℕ) (xs : List ℕ) → AllByRecursion (λ x. page' x ≡ page x) xs → map page' xs ≡ map page xs
map-agree page page' [] h = refl
map-agree page page' (x ∷ xs) h = ap (λ (y : ℕ). y ∷ map page' xs) h.0 ∙ ap (λ (ys : List ℕ). page x ∷ ys) (map-agree page page' xs h.1)

-- one frame more in front
pub grown-ends : (next : ℕ → ℕ) (k first frame last : ℕ) → next frame ≡ first → Ends next k first last → Ends next (suc k) frame (if k == 0 then frame else last)
grown-ends next zero first frame last at e = (refl, at ∙ e)
grown-ends next (suc k) first frame last at e =
    subst (λ (b : Bool). Ends next (suc (suc k)) frame (cond b frame last)) (sym (ne_eqb (suc k) 0 (λ h. absurd (omega arith)))) (ends-cons next k frame first last at e)
