-- What calls on one chain leave of a pool.
use Rattle.shared_lemmas.proofs.Common.{◌≡◌, ◌↔◌, ℕ, suc, zero, Bool, ◌&&◌, List, [], ◌∷◌, length, map, get_or, Option, None, is_some, refl, sym, ap, ◌∙◌, list_all, length-map}
use Rattle.frame_pool.specs.Pool.{PoolView, ChainEntry, IsInUse, promise_refusal, all_in_use}
use Rattle.frame_pool.specs.ChainView.{LeavesPool}

pub leaves_itself : (pool : PoolView) (chain : ℕ) → LeavesPool pool pool chain
leaves_itself pool chain = record {
  others = λ other ne. record { in_use = ((λ h. h), (λ h. h)); view = refl };
  frames = refl;
  in_use = refl;
  spare = refl;
  promise = refl;
}

pub leaves_twice : (a b c : PoolView) (chain : ℕ) → LeavesPool a b chain → LeavesPool b c chain → LeavesPool a c chain
leaves_twice a b c chain first then = record {
  others = λ other ne. record {
    in_use = ((λ h. (first.others other ne).in_use.0 ((then.others other ne).in_use.0 h)), (λ h. (then.others other ne).in_use.1 ((first.others other ne).in_use.1 h)));
    view = (then.others other ne).view ∙ (first.others other ne).view;
  };
  frames = then.frames ∙ first.frames;
  in_use = then.in_use ∙ first.in_use;
  spare = then.spare ∙ first.spare;
  promise = then.promise ∙ first.promise;
}

-- the use of one number, by those of all
use_at : (xs ys : List (Option ChainEntry)) (c : ℕ) → map is_some ys ≡ map is_some xs → is_some (get_or ys c None) ≡ is_some (get_or xs c None)
use_at xs ys c same = sym (at ys c) ∙ ap (λ (bs : List Bool). get_or bs c (is_some (let o : Option ChainEntry = None in o))) same ∙ at xs c
  where
    at : (xs : List (Option ChainEntry)) (c : ℕ) → get_or (map is_some xs) c (is_some (let o : Option ChainEntry = None in o)) ≡ is_some (get_or xs c None)
    at [] c = refl
    at (x ∷ xs) zero = refl
    at (x ∷ xs) (suc c) = at xs c

all_uses : (xs : List (Option ChainEntry)) → list_all is_some xs ≡ list_all (λ b. b) (map is_some xs)
all_uses [] = refl
all_uses (x ∷ xs) = ap (λ (b : Bool). is_some x && b) (all_uses xs)

pub leaves-in_use : (old new : PoolView) (chain other : ℕ) → LeavesPool old new chain → IsInUse new other ↔ IsInUse old other
leaves-in_use old new chain other leaves =
    ((λ h. sym (use_at old.chains new.chains other leaves.in_use) ∙ h), (λ h. use_at old.chains new.chains other leaves.in_use ∙ h))

pub leaves-refusal : (old new : PoolView) (chain n : ℕ) → LeavesPool old new chain → promise_refusal new n ≡ promise_refusal old n
leaves-refusal old new chain n leaves =
    let count : length new.chains ≡ length old.chains = sym (length-map new.chains is_some) ∙ ap (λ (bs : List Bool). length bs) leaves.in_use ∙ length-map old.chains is_some in
    let all : all_in_use new ≡ all_in_use old = all_uses new.chains ∙ ap (λ (bs : List Bool). list_all (λ b. b) bs) leaves.in_use ∙ sym (all_uses old.chains) in
    cc
