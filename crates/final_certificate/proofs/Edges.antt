-- What the documents at the edges of an answer tell of all gains.
use Rattle.shared_lemmas.proofs.Common.{◌≡◌, ◌≢◌, ℕ, ◌+◌, ◌≤◌, List, [], ◌∷◌, ◌++◌, length, map, take, drop, filter, sum_by, true, false, true≢false, refl, sym, ap, subst, ◌∙◌, arith, inl, inr, ◌⊎◌, IsPermutation, AllByRecursion, Ordering, Less, Equal, Greater, is_lt, is_gt, upto, nat_tests}
use Rattle.shared_lemmas.proofs.Common.{length-map, length-take, take_all, IsPermutation-map, length_permutation, sum_by-append, sum_by-take-drop, sum_by-filter_both, take-append_seam, and_parts}
use Rattle.std.proofs.lemmas.List.{append-nil}
use Rattle.shared_lemmas.proofs.Sums.{sum_map}
use Rattle.shared_lemmas.proofs.Lists.{all_weaker, all_take, all_map, filter_passes}
use Rattle.jass_base.specs.declared.answer.Hit.{Hit}
use Rattle.ranking_model.specs.Order.{sorted}
use Rattle.ranking_model.specs.Scores.{rank_cmp}
use Rattle.ranking_model.proofs.Sorting.{Ascends, sum_by-sorted, all_sorted}
use Rattle.ranking_model.proofs.Orders.{rank_total, rank_same}
use Rattle.final_certificate.specs.Rule.{gained, is_safe, are_safe}
use Rattle.final_certificate.proofs.Lists.{sorted_itself, sorted_moves, sorted_parts}
use Rattle.final_certificate.proofs.Lifting.{is_unscored, is_scored, lift}

-- ---- two documents

-- a does not come after b
abbrev pub Leads : Hit → Hit → Type 0
Leads a b = is_gt (rank_cmp a b) ≡ false

pub leads_trans : (a b c : Hit) → Leads a b → Leads b c → Leads a c
leads_trans a b c h k = upto rank_total a b c h k

pub gained_leads : (gain : ℕ) (a : Hit) → Leads (gained gain a) a
gained_leads gain a = grind (arith, nat_tests)

pub more_leads : (gain bound : ℕ) (a : Hit) → gain ≤ bound → Leads (gained bound a) (gained gain a)
more_leads gain bound a small = grind (arith, nat_tests)

pub both_gain : (gain : ℕ) (a b : Hit) → Leads a b → Leads (gained gain a) (gained gain b)
both_gain gain a b h = grind (arith, nat_tests)

pub leads_itself : (a : Hit) → Leads a a
leads_itself a = grind (arith, nat_tests)

pub safe_leads : (bound : ℕ) (a b : Hit) → is_safe bound a b ≡ true → Leads a (gained bound b)
safe_leads bound a b h = by (rank_cmp a (gained bound b)) refl h where
  by : (r : Ordering) → rank_cmp a (gained bound b) ≡ r → is_lt r ≡ true → is_gt (rank_cmp a (gained bound b)) ≡ false
  by Less e k = rw e refl
  by Equal e k = rw e refl
  by Greater e k = absurd (true≢false (sym k))

pub leads_safe : (bound : ℕ) (a b : Hit) → a.doc ≢ b.doc → Leads a (gained bound b) → is_safe bound a b ≡ true
leads_safe bound a b apart h = by (rank_cmp a (gained bound b)) refl h where
  by : (r : Ordering) → rank_cmp a (gained bound b) ≡ r → is_gt r ≡ false → is_lt (rank_cmp a (gained bound b)) ≡ true
  by Less e k = rw e refl
  by Equal e k = absurd (apart (ap (λ (h : Hit). h.doc) (rank_same a (gained bound b) e)))
  by Greater e k = absurd (true≢false k)

-- ---- the answer and the others

abbrev pub ranked : List Hit → List Hit
ranked all = sorted rank_cmp (filter is_scored all)

abbrev pub front : List Hit → ℕ → List Hit
front all k = take k (ranked all)

abbrev pub others : List Hit → ℕ → List Hit
others all k = drop k (ranked all) ++ filter is_unscored all

-- each of the first stays before each of the others, even where that gains the bound
abbrev pub StaysBefore : ℕ → List Hit → List Hit → Type 0
StaysBefore bound xs ys = AllByRecursion (λ a. AllByRecursion (λ b. Leads a (gained bound b)) ys) xs

pub parted : (all : List Hit) (k : ℕ) (f : Hit → ℕ) → sum_by f all ≡ sum_by f (front all k) + sum_by f (others all k)
parted all k f =
    let a = sum_by-filter_both is_unscored is_scored (λ x. refl) f all in
    let b = sum_by-sorted rank_cmp f (filter is_scored all) in
    let c = sum_by-take-drop f (ranked all) k in
    let d = sum_by-append f (drop k (ranked all)) (filter is_unscored all) in
    omega arith

pub front_scored : (all : List Hit) (k : ℕ) → AllByRecursion (λ h. is_scored h ≡ true) (front all k)
front_scored all k = all_take (λ h. is_scored h ≡ true) k (ranked all) (all_sorted rank_cmp (λ h. is_scored h ≡ true) (filter is_scored all) (filter_passes is_scored all))

lift_scored : (gain : ℕ) (h : Hit) → is_scored h ≡ true → is_scored (gained gain h) ≡ true
lift_scored gain h t = grind (arith, nat_tests)

map_leads : (gain : ℕ → ℕ) (bound : ℕ) → ((d : ℕ) → gain d ≤ bound) → (xs ys : List Hit) → StaysBefore bound xs ys
    → AllByRecursion (λ a. AllByRecursion (λ b. Leads a b) (map (lift gain) ys)) (map (lift gain) xs)
map_leads gain bound small xs ys h = all_map (λ a. AllByRecursion (λ b. Leads a b) (map (lift gain) ys)) (lift gain) xs
    (all_weaker (λ a. AllByRecursion (λ b. Leads a (gained bound b)) ys) (λ a. AllByRecursion (λ b. Leads (lift gain a) b) (map (lift gain) ys))
    (λ a k. all_map (λ b. Leads (lift gain a) b) (lift gain) ys (all_weaker (λ b. Leads a (gained bound b)) (λ b. Leads (lift gain a) (lift gain b))
    (λ b l. leads_trans (lift gain a) a (lift gain b) (gained_leads (gain a.doc) a) (leads_trans a (gained bound b) (lift gain b) l (more_leads (gain b.doc) bound b (small b.doc)))) ys k)) xs h)

-- where the others come behind under some gains, the first are the same documents in the order of their new scores
pub keeps_by : (all : List Hit) (k : ℕ) (gain : ℕ → ℕ) → (length (front all k) ≡ k) ⊎ (others all k ≡ [])
    → AllByRecursion (λ a. AllByRecursion (λ b. Leads a b) (map (lift gain) (others all k))) (map (lift gain) (front all k))
    → front (map (lift gain) all) k ≡ sorted rank_cmp (map (lift gain) (front all k))
keeps_by all k gain full above = ap (take k) parts ∙ cut full where
  parts : ranked (map (lift gain) all) ≡ sorted rank_cmp (map (lift gain) (front all k)) ++ sorted rank_cmp (filter is_scored (map (lift gain) (others all k)))
  parts = sorted_parts rank_cmp rank_total rank_same is_scored (map (lift gain) all) (map (lift gain) (front all k)) (map (lift gain) (others all k)) (λ f.
      let a = sum_map f (lift gain) all in
      let b = sum_map f (lift gain) (front all k) in
      let c = sum_map f (lift gain) (others all k) in
      let d = parted all k (λ x. f (lift gain x)) in
      omega arith)
      (all_map (λ h. is_scored h ≡ true) (lift gain) (front all k) (all_weaker (λ h. is_scored h ≡ true) (λ h. is_scored (lift gain h) ≡ true) (λ h t. lift_scored (gain h.doc) h t) (front all k) (front_scored all k)))
      above

  size : length (sorted rank_cmp (map (lift gain) (front all k))) ≡ length (front all k)
  size = length_permutation (map (lift gain) (front all k)) (sorted rank_cmp (map (lift gain) (front all k))) (sorted_moves rank_cmp rank_total rank_same (map (lift gain) (front all k))) ∙ length-map (front all k) (lift gain)

  cut : (length (front all k) ≡ k) ⊎ (others all k ≡ []) → take k (sorted rank_cmp (map (lift gain) (front all k)) ++ sorted rank_cmp (filter is_scored (map (lift gain) (others all k)))) ≡ sorted rank_cmp (map (lift gain) (front all k))
  cut (inl e) =
      let n : k ≡ length (sorted rank_cmp (map (lift gain) (front all k))) = sym (size ∙ e) in
      ap (λ m. take m (sorted rank_cmp (map (lift gain) (front all k)) ++ sorted rank_cmp (filter is_scored (map (lift gain) (others all k))))) n
      ∙ take-append_seam (sorted rank_cmp (map (lift gain) (front all k))) (sorted rank_cmp (filter is_scored (map (lift gain) (others all k))))
  cut (inr e) =
      let few : length (front all k) ≤ k = let n = length-take k (ranked all) in omega arith in
      ap (λ (l : List Hit). take k (sorted rank_cmp (map (lift gain) (front all k)) ++ sorted rank_cmp (filter is_scored (map (lift gain) l)))) e
      ∙ ap (take k) (append-nil (sorted rank_cmp (map (lift gain) (front all k))))
      ∙ take_all k (sorted rank_cmp (map (lift gain) (front all k))) (let n = size in omega arith)

-- the same where each of the first stays before each of the others, even where that gains the bound
keeps : (all : List Hit) (k : ℕ) (gain : ℕ → ℕ) (bound : ℕ) → ((d : ℕ) → gain d ≤ bound) → (length (front all k) ≡ k) ⊎ (others all k ≡ [])
    → StaysBefore bound (front all k) (others all k) → front (map (lift gain) all) k ≡ sorted rank_cmp (map (lift gain) (front all k))
keeps all k gain bound small full above = keeps_by all k gain full (map_leads gain bound small (front all k) (others all k) above)

pub docs_lift : (gain : ℕ → ℕ) (xs : List Hit) → map (λ (h : Hit). h.doc) (map (lift gain) xs) ≡ map (λ (h : Hit). h.doc) xs
docs_lift gain [] = refl
docs_lift gain (x ∷ xs) = ap (λ l. x.doc ∷ l) (docs_lift gain xs)

abbrev pub docs : List Hit → List ℕ
docs hits = map (λ (h : Hit). h.doc) hits

pub keeps_documents : (all : List Hit) (k : ℕ) (gain : ℕ → ℕ) (bound : ℕ) → ((d : ℕ) → gain d ≤ bound) → (length (front all k) ≡ k) ⊎ (others all k ≡ [])
    → StaysBefore bound (front all k) (others all k) → IsPermutation (docs (front all k)) (docs (front (map (lift gain) all) k))
keeps_documents all k gain bound small full above =
    let new = keeps all k gain bound small full above in
    let moved = IsPermutation-map (λ (h : Hit). h.doc) (map (lift gain) (front all k)) (sorted rank_cmp (map (lift gain) (front all k))) (sorted_moves rank_cmp rank_total rank_same (map (lift gain) (front all k))) in
    subst (λ l. IsPermutation l (docs (front (map (lift gain) all) k))) (docs_lift gain (front all k))
    (subst (λ (l : List Hit). IsPermutation (docs (map (lift gain) (front all k))) (docs l)) (sym new) moved)

-- where each is safe from the next, the new scores keep their order
chain : (gain : ℕ → ℕ) (bound : ℕ) → ((d : ℕ) → gain d ≤ bound) → (xs : List Hit) → are_safe bound xs ≡ true → Ascends rank_cmp (map (lift gain) xs)
chain gain bound small [] h = tt
chain gain bound small (a ∷ []) h = (tt, tt)
chain gain bound small (a ∷ b ∷ xs) h =
    let two = and_parts (is_safe bound a b) (are_safe bound (b ∷ xs)) h in
    let rest = chain gain bound small (b ∷ xs) two.1 in
    let step : Leads (lift gain a) (lift gain b) = leads_trans (lift gain a) a (lift gain b) (gained_leads (gain a.doc) a) (leads_trans a (gained bound b) (lift gain b) (safe_leads bound a b two.0) (more_leads (gain b.doc) bound b (small b.doc))) in
    ((step, all_weaker (λ y. Leads (lift gain b) y) (λ y. Leads (lift gain a) y) (λ y l. leads_trans (lift gain a) (lift gain b) y step l) (map (lift gain) xs) rest.0), rest)

pub keeps_order : (all : List Hit) (k : ℕ) (gain : ℕ → ℕ) (bound : ℕ) → ((d : ℕ) → gain d ≤ bound) → (length (front all k) ≡ k) ⊎ (others all k ≡ [])
    → StaysBefore bound (front all k) (others all k) → are_safe bound (front all k) ≡ true → docs (front (map (lift gain) all) k) ≡ docs (front all k)
keeps_order all k gain bound small full above safe =
    ap docs (keeps all k gain bound small full above) ∙ ap docs (sorted_itself rank_cmp rank_total rank_same (map (lift gain) (front all k)) (chain gain bound small (front all k) safe)) ∙ docs_lift gain (front all k)
