-- A list has no more postings than there are documents.
use Rattle.std.proofs.Common.{◌≤◌, ◌^◌, length, arith}
use Rattle.impact_segments.proofs.Weights.{few_postings}
use Rattle.impact_segments.proofs.weighing.Weigher.rarity.Goals as goal

pub overflow_cast-len : goal.overflow_cast-len
overflow_cast-len c =
    let few : length c.args.list.now.postings ≤ length c.args.self.now.docs.now = few_postings (length c.args.self.now.docs.now) c.args.list.now c.requires.below in
    let docs : length c.args.self.now.docs.now ≤ 2 ^ 26 = c.args.self.now.few_docs in
    omega (arith, few, docs, c.len.ensures)

pub idf-requires-clause-within_docs : goal.idf-requires-clause-within_docs
idf-requires-clause-within_docs c = omega (arith, few_postings (length c.args.self.now.docs.now) c.args.list.now c.requires.below, c.len.ensures)
