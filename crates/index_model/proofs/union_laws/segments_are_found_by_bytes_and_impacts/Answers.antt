use Rattle.shared_lemmas.proofs.Common.{length, recursion_from_All}
use Rattle.shared_lemmas.proofs.Pairs.{pairs_by_recursion}
use Rattle.index_model.specs.Index.{IsTerm, RisesTo}
use Rattle.index_model.specs.Querying.{segments_at}
use Rattle.index_model.proofs.UnionSegments.{missing_docs, missing_segments, numbered_fall, numbered_segments, placed_docs}
use Rattle.index_model.proofs.union_laws.segments_are_found_by_bytes_and_impacts.Goals as goal

pub returns : goal.returns
returns c = record {
  number = λ index number bytes is at. numbered_segments index.terms number bytes (pairs_by_recursion RisesTo index.terms is.rising) at;
  no_term = λ index bytes never. missing_segments index.terms bytes never;
  place = λ index number place segment is at. placed_docs (segments_at index.terms number) place segment
      (numbered_fall (length index.names) index.terms number (recursion_from_All (IsTerm (length index.names)) index.terms is.terms)) at;
  no_segment = missing_docs;
}
