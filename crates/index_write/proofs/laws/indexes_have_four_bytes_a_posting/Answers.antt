use Rattle.shared_lemmas.proofs.Common.{arith, ap, length, length-append}
use Rattle.index_layout.specs.Layout.{front_bytes}
use Rattle.index_write.specs.Chosen.{chosen_terms, table_payloads}
use Rattle.index_write.proofs.Bounds.{all_payloads_small, front_size}
use Rattle.index_write.proofs.laws.indexes_have_four_bytes_a_posting.Goals as goal

pub returns : goal.returns
returns c = record {
  length = λ index. (
      let names = index.names in
      let terms = chosen_terms (length names) index.terms in
      let payloads = table_payloads (length names) index.terms in
      omega (arith, ap length (c.texts_have_their_parts.ensures.text index), length-append (front_bytes names terms) payloads, front_size names terms));
  few = λ index is. all_payloads_small c.payloads_have_few_bytes.ensures.few (length index.names) index.terms is.terms;
}
