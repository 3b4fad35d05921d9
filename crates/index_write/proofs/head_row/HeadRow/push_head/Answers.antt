use Rattle.shared_lemmas.proofs.Common.{◌≡◌, ℕ, List, [], ◌∷◌, ◌++◌, ◌∙◌, refl}
use Rattle.index_layout.specs.Bytes.{u16_bytes}
use Rattle.index_layout.specs.Layout.{head_bytes}
use Rattle.index_write.specs.Chosen.{head_data}
use Rattle.index_write.proofs.Joining.{both_put}
use Rattle.index_write.proofs.Below.{HeadData, codec_number, u32_bytes}
use Rattle.index_write.proofs.head_row.HeadRow.push_head.Goals as goal

head_put : (old a b d x y z out : List ℕ) (n : ℕ) (h : HeadData) → a ≡ u16_bytes h.impact → b ≡ u32_bytes h.count → n ≡ codec_number h.codec → d ≡ u32_bytes h.size
    → x ≡ old ++ a → y ≡ x ++ b → z ≡ y ++ n ∷ [] → out ≡ z ++ d → out ≡ old ++ head_bytes h
unfolding head_bytes
head_put old a b d x y z out n h impact count codec size first second third fourth =
    both_put old a (b ++ n ∷ d) x out first (both_put x b (n ∷ d) y out second (both_put y (n ∷ []) d z out third fourth)) ∙ rw (impact, count, codec, size) refl

pub returns : goal.returns
returns c =
    head_put c.args.self.now c.to_le_bytes.result c.to_le_bytes-2.result c.to_le_bytes-3.result c.push.new.self c.push-2.new.self c.push-3.new.self c.push-4.new.self c.number.result (head_data c.args.head.now)
    c.to_le_bytes.ensures c.to_le_bytes-2.ensures c.number.ensures c.to_le_bytes-3.ensures c.push.ensures c.push-2.ensures c.push-3.ensures c.push-4.ensures
