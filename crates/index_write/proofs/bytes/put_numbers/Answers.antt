use Rattle.std.proofs.Common.{◌≡◌, ◌++◌, ◌∙◌, List, ℕ, OnOk, ap, subst}
use Rattle.index_write.proofs.Below.{u32_bytes, u64_bytes, magic}
use Rattle.index_write.proofs.Joining.{seven}
use Rattle.index_write.proofs.bytes.put_numbers.Goals as goal

pub returns : goal.returns
returns c =
    let totals = c.args.totals.now in
    subst (λ (text : List ℕ). OnOk c.put_all.result (c.put_all.new.out ≡ c.args.out.now ++ text))
    (seven magic c.to_le_bytes.result c.to_le_bytes-2.result c.to_le_bytes-3.result c.to_le_bytes-4.result c.to_le_bytes-5.result c.to_le_bytes-6.result
    (u64_bytes c.args.len) (u32_bytes totals.docs) (u32_bytes totals.terms) (u64_bytes totals.postings) (u32_bytes totals.greatest) (u32_bytes 0)
    c.to_le_bytes.ensures c.to_le_bytes-2.ensures c.to_le_bytes-3.ensures c.to_le_bytes-4.ensures (c.to_le_bytes-5.ensures ∙ ap u32_bytes c.from.ensures) c.to_le_bytes-6.ensures)
    c.put_all.ensures
