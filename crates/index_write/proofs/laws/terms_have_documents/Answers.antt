use Rattle.index_write.proofs.Memory.{segments_have_docs, few_segments}
use Rattle.index_write.proofs.laws.terms_have_documents.Goals as goal

pub returns-clause-few : goal.returns-clause-few
returns-clause-few c = λ index small. few_segments index (c.indexes_in_memory_are_indexes.ensures.index index small)

pub returns-clause-docs : goal.returns-clause-docs
returns-clause-docs c = λ index small. segments_have_docs index (c.indexes_in_memory_are_indexes.ensures.index index small)
