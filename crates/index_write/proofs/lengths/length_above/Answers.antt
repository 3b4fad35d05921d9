use Rattle.shared_lemmas.proofs.Common.{arith, ap, length}
use Rattle.index_write.proofs.Below.{index_data, names_bytes}
use Rattle.index_write.proofs.lengths.length_above.Goals as goal

pub names_len-requires : goal.names_len-requires
names_len-requires c =
    let index = index_data c.args.index.now in
    let is = c.indexes_in_memory_are_indexes.ensures.index c.args.index.now c.requires in
    omega (arith, ap (λ ns. length (names_bytes ns)) c.as_slice.ensures, c.parts_are_small.ensures.names index is)

pub terms_len-requires : goal.terms_len-requires
terms_len-requires c =
    let index = index_data c.args.index.now in
    let is = c.indexes_in_memory_are_indexes.ensures.index c.args.index.now c.requires in
    omega (arith, c.parts_are_small.ensures.terms index is)

pub overflow_mul-postings_in : goal.overflow_mul-postings_in
overflow_mul-postings_in c =
    let index = index_data c.args.index.now in
    let is = c.indexes_in_memory_are_indexes.ensures.index c.args.index.now c.requires in
    omega (arith, c.postings_in.ensures, c.parts_are_small.ensures.postings index is)

pub overflow_add-front-3 : goal.overflow_add-front-3
overflow_add-front-3 c =
    let index = index_data c.args.index.now in
    let is = c.indexes_in_memory_are_indexes.ensures.index c.args.index.now c.requires in
    omega (arith, c.names_len.ensures.few, c.terms_len.ensures.few, c.postings_in.ensures, c.parts_are_small.ensures.postings index is)

pub returns-then-front-postings_in-clause-none : goal.returns-then-front-postings_in-clause-none
returns-then-front-postings_in-clause-none c = λ none.
    let index = index_data c.args.index.now in
    let is = c.indexes_in_memory_are_indexes.ensures.index c.args.index.now c.requires in
    let names = ap (λ ns. length (names_bytes ns)) c.as_slice.ensures in
    omega (arith, c.if-front-postings_in.true, names, c.names_len.ensures.len, c.terms_len.ensures.len, c.postings_in.ensures, c.indexes_have_four_bytes_a_posting.ensures.few index is, c.indexes_have_four_bytes_a_posting.ensures.length index)
