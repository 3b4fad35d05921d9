-- Writing the documents of a word's gaps one after the other.
use Rattle.std.proofs.Common.{◌≡◌, ℕ, suc, ◌+◌, ◌/◌, ◌%◌, ◌^◌, ◌<◌, ◌≤◌, List, [], ◌∷◌, ◌++◌, sym, subst, ◌∙◌, append_assoc, append-nil, arith}
use Rattle.jass_base.specs.Gaps.{docs_from}
use Rattle.codec_simple8.specs.Simple8.{fields, least_behind}
use Rattle.codec_simple8.proofs.Digits.{Below, Below-head, Below-tail}
use Rattle.codec_simple8.proofs.Docs.{behind_one}

-- n values are still to come, and with them the block will be `whole`
pub record Putting (w n rest next : ℕ) (front whole : List ℕ) (behind : ℕ) : Type 0 where
  pub docs : front ++ docs_from next (fields w n rest) ≡ whole
  pub behind_is : least_behind next (fields w n rest) ≡ behind
  pub below : Below (2 ^ 26) (docs_from next (fields w n rest))
  pub small : next ≤ 2 ^ 26

pub put_small : (w n m rest next : ℕ) (front whole : List ℕ) (behind : ℕ) → m ≡ suc n → Putting w m rest next front whole behind → next + rest % 2 ^ w < 2 ^ 26
unfolding fields
put_small w n m rest next front whole behind is put =
    let below : Below (2 ^ 26) (docs_from next (fields w (suc n) rest)) = subst (λ m. Below (2 ^ 26) (docs_from next (fields w m rest))) is put.below in
    Below-head (2 ^ 26) (next + rest % 2 ^ w) (docs_from (next + rest % 2 ^ w + 1) (fields w n (rest / 2 ^ w))) below

pub put_one : (w n m rest next : ℕ) (front whole : List ℕ) (behind : ℕ) → m ≡ suc n → Putting w m rest next front whole behind
    → Putting w n (rest / 2 ^ w) (next + rest % 2 ^ w + 1) (front ++ (next + rest % 2 ^ w) ∷ []) whole behind
unfolding fields
put_one w n m rest next front whole behind is put = go (subst (λ m. Putting w m rest next front whole behind) is put)
  where
    go : Putting w (suc n) rest next front whole behind → Putting w n (rest / 2 ^ w) (next + rest % 2 ^ w + 1) (front ++ (next + rest % 2 ^ w) ∷ []) whole behind
    go put = record {
      docs = append_assoc front ((next + rest % 2 ^ w) ∷ []) (docs_from (next + rest % 2 ^ w + 1) (fields w n (rest / 2 ^ w))) ∙ put.docs;
      behind_is = behind_one next (rest % 2 ^ w) (fields w n (rest / 2 ^ w)) ∙ put.behind_is;
      below = Below-tail (2 ^ 26) (next + rest % 2 ^ w) (docs_from (next + rest % 2 ^ w + 1) (fields w n (rest / 2 ^ w))) put.below;
      small = let low = Below-head (2 ^ 26) (next + rest % 2 ^ w) (docs_from (next + rest % 2 ^ w + 1) (fields w n (rest / 2 ^ w))) put.below in omega (arith, low);
    }

pub put_all : (w m rest next : ℕ) (front whole : List ℕ) (behind : ℕ) → m ≡ 0 → Putting w m rest next front whole behind → (front ≡ whole) × (next ≡ behind)
unfolding fields
put_all w m rest next front whole behind is put = go (subst (λ m. Putting w m rest next front whole behind) is put)
  where
    go : Putting w 0 rest next front whole behind → (front ≡ whole) × (next ≡ behind)
    go put = (sym (append-nil front) ∙ put.docs, omega (arith, put.behind_is))
