use Rattle.index_model.proofs.UnionSegments.{union_entries_again, union_documents, union_postings, union_sizes}
use Rattle.index_model.proofs.union_laws.a_union_has_the_entries_of_its_parts.Goals as goal

pub returns : goal.returns
returns c = record { entries = union_entries_again; postings = union_postings; sizes = union_sizes; documents = union_documents }
