use Rattle.shared_lemmas.proofs.Common.{ℕ, List, ◌∷◌, ◌++◌, ◌+◌, ◌*◌, length, ap, sym, ◌∙◌, arith, ◌≢◌, nat_tests}
use Rattle.ciff_write.proofs.Below.{short_varint, gather_cut, gather_then, gather_same}
use Rattle.ciff_write.proofs.Fields.{text_some}
use Rattle.ciff_write.proofs.gather.put_text.Goals as goal

pub returns-in_err-put_text_head : goal.returns-in_err-put_text_head
returns-in_err-put_text_head g c =
    let text : List ℕ = c.args.text.now in
    let some : length text ≢ 0 = grind (arith, nat_tests, c.if-is_empty.ensures) in
    gather_same (sym (text_some c.args.field text some c.requires)) (gather_cut ((c.args.field * 8 + 2) ∷ short_varint (length text)) text c.from_residual.ensures.0 c.in_err-put_text_head.ensures)

pub returns : goal.returns
returns g c =
    let text : List ℕ = c.args.text.now in
    let some : length text ≢ 0 = grind (arith, nat_tests, c.if-is_empty.ensures) in
    gather_same (ap (λ (bytes : List ℕ). ((c.args.field * 8 + 2) ∷ short_varint (length text)) ++ bytes) c.as_bytes.ensures.value ∙ sym (text_some c.args.field text some c.requires))
    (gather_then ((c.args.field * 8 + 2) ∷ short_varint (length text)) c.as_bytes.result.now c.in_ok-put_text_head.ensures c.put_bytes.ensures)
