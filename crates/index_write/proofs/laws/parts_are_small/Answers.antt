use Rattle.std.proofs.Common.{arith, [], length}
use Rattle.index_write.proofs.Bounds.{index_few, names_small, terms_small, all_payloads_small}
use Rattle.index_write.proofs.laws.parts_are_small.Goals as goal

pub returns : goal.returns
returns c = record {
  names = λ index is. omega (arith, names_small index.names is.names, is.few_names);
  terms = λ index is. omega (arith, terms_small (length index.names) [] index.terms is.few_names is.terms, is.few_terms);
  payloads = λ index is. omega (arith, all_payloads_small c.payloads_have_few_bytes.ensures.few (length index.names) index.terms is.terms, index_few index is);
  postings = index_few;
}
