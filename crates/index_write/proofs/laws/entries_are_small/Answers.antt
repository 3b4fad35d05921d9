use Rattle.std.proofs.Common.{arith, []}
use Rattle.index_write.proofs.Bounds.{names_small}
use Rattle.index_write.proofs.Entries.{entries_small, heads_each, heads_few, terms_each}
use Rattle.index_write.proofs.laws.entries_are_small.Goals as goal

pub returns : goal.returns
returns c = record {
  names = λ names are. (let few = are.few in omega (arith, few, names_small names are.each));
  terms = λ entries are.
      (let few = are.few in let total = are.postings in omega (arith, few, total, entries_small [] entries are.each, heads_few entries are.each));
  heads = λ entries are. (let total = are.postings in omega (arith, total, heads_few entries are.each));
  fit = terms_each;
  few = heads_each;
}
