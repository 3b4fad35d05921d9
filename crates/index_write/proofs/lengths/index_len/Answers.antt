use Rattle.std.proofs.Common.{arith, ap, length, ◌∙◌, sum_by}
use Rattle.index_write.proofs.Below.{index_data, HeadData, names_bytes}
use Rattle.index_write.proofs.Memory.{sizes_map}
use Rattle.index_write.proofs.lengths.index_len.Goals as goal

pub names_len-requires : goal.names_len-requires
names_len-requires c =
    let index = index_data c.args.index.now in
    let is = c.indexes_in_memory_are_indexes.ensures.index c.args.index.now c.requires.greatest in
    omega (arith, ap (λ ns. length (names_bytes ns)) c.as_slice.ensures, c.parts_are_small.ensures.names index is)

pub terms_len-requires : goal.terms_len-requires
terms_len-requires c =
    let index = index_data c.args.index.now in
    let is = c.indexes_in_memory_are_indexes.ensures.index c.args.index.now c.requires.greatest in
    omega (arith, c.parts_are_small.ensures.terms index is)

pub payloads_len-requires : goal.payloads_len-requires
payloads_len-requires c =
    let index = index_data c.args.index.now in
    let is = c.indexes_in_memory_are_indexes.ensures.index c.args.index.now c.requires.greatest in
    let sum = sizes_map c.args.heads.now ∙ ap (sum_by (λ (h : HeadData). h.size)) c.requires.heads ∙ c.tables_have_their_sums.ensures.sizes (length c.args.index.now.names) index in
    omega (arith, sum, c.parts_are_small.ensures.payloads index is)

pub returns : goal.returns
returns c =
    let index = index_data c.args.index.now in
    let d = length c.args.index.now.names in
    let sum = sizes_map c.args.heads.now ∙ ap (sum_by (λ (h : HeadData). h.size)) c.requires.heads in
    let heads = ap (sum_by (λ (h : HeadData). h.size)) (c.texts_have_their_parts.ensures.heads d index) in
    omega (arith, sum, heads, c.texts_have_their_parts.ensures.length index, c.names_len.ensures.len, ap (λ ns. length (names_bytes ns)) c.as_slice.ensures, c.terms_len.ensures.len, c.payloads_len.ensures.len)
