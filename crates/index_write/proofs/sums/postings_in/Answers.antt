use Rattle.std.proofs.Common.{arith, ap, length, sum_by}
use Rattle.index_write.proofs.Below.{Segment, TermSegments, index_data}
use Rattle.index_write.proofs.sums.postings_in.Goals as goal

pub terms_postings-requires : goal.terms_postings-requires
terms_postings-requires c =
    let index = c.args.index.now in
    let few = c.parts_are_small.ensures.postings (index_data index) (c.indexes_in_memory_are_indexes.ensures.index index c.requires) in
    omega (arith, few, c.tables_have_their_sums.ensures.postings index, ap (sum_by (λ (t : TermSegments). sum_by (λ (s : Segment). length s.docs) t.segments)) c.as_slice.ensures)
