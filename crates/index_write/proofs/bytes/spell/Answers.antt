-- The four parts of the text, one behind the other.
use Rattle.std.proofs.Common.{◌++◌, ◌∙◌, [], ap, length, sym}
use Rattle.std.proofs.lemmas.Result.{on_ok_weaker}
use Rattle.index_layout.specs.Layout.{front_bytes, totals_bytes}
use Rattle.index_write.proofs.Below.{index_data, names_bytes, terms_bytes}
use Rattle.index_write.specs.Chosen.{chosen_terms, table_payloads}
use Rattle.index_write.proofs.Joining.{four_put}
use Rattle.index_write.proofs.bytes.spell.Goals as goal

pub returns : goal.returns
unfolding front_bytes
returns c =
    let index = index_data c.args.index.now in
    let names = c.args.index.now.names in
    let terms = chosen_terms (length names) index.terms in
    on_ok_weaker c.put_all_payloads.result (λ last.
    four_put c.args.out.now (totals_bytes names terms) (names_bytes names) (terms_bytes [] terms) (table_payloads (length names) index.terms)
    c.put_totals.new.out c.put_names.new.out c.put_terms.new.out c.put_all_payloads.new.out
    c.in_ok-put_totals.ensures (c.in_ok-put_names.ensures ∙ ap (λ ns. c.put_totals.new.out ++ names_bytes ns) c.as_slice.ensures) c.in_ok-put_terms.ensures last
    ∙ ap (λ xs. c.args.out.now ++ xs) (sym (c.texts_have_their_parts.ensures.text index)))
    c.put_all_payloads.ensures
