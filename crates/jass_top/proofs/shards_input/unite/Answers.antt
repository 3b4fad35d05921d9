use Rattle.shared_lemmas.proofs.Common.{ap}
use Rattle.index_model.specs.Unions.{union_of}
use Rattle.shard_search.specs.Sums.{indexes_of}
use Rattle.shard_search.specs.Union.{UnionView, union_index}
use Rattle.jass_words.specs.Words.{texts}
use Rattle.jass_top.proofs.JudgedShards.{documents_unheld, postings_unheld, unites}
use Rattle.jass_top.proofs.shards_input.unite.Goals as goal

pub returns-in-Ok-clause-union : goal.returns-in-Ok-clause-union
unfolding union_index
returns-in-Ok-clause-union c = ap (λ files. union_of (indexes_of files)) c.in-Ok.ensures.files

pub returns-in-Ok-clause-accepted : goal.returns-in-Ok-clause-accepted
returns-in-Ok-clause-accepted c = unites c.args.parts (texts c.args.names.now) c.in-Ok.ensures.fits.0 c.in-Ok.ensures.fits.1

pub returns-in-Err-Documents-clause-unheld : goal.returns-in-Err-Documents-clause-unheld
returns-in-Err-Documents-clause-unheld c =
    documents_unheld c.args.names.now c.in-Err-Documents.part c.index-names-part.result c.as_str.result.now c.index-names-part.is c.as_str.ensures.value UnionView c.args.parts c.in-Err-Documents.sum c.in-Err-Documents.field-0 c.requires.each
    c.in-Err-Documents.field-0-is c.in-Err-Documents.ensures.fits

pub returns-in-Err-Postings-clause-unheld : goal.returns-in-Err-Postings-clause-unheld
returns-in-Err-Postings-clause-unheld c =
    postings_unheld c.args.names.now c.in-Err-Postings.part c.index-names-part-in-Err-Postings.result c.as_str-in-Err-Postings.result.now c.index-names-part-in-Err-Postings.is c.as_str-in-Err-Postings.ensures.value UnionView c.args.parts c.in-Err-Postings.sum
    c.in-Err-Postings.field-0 c.requires.each c.in-Err-Postings.field-0-is c.in-Err-Postings.ensures.fits
