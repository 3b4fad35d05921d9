use Rattle.shared_lemmas.proofs.Common.{◌≤◌, length, AllByRecursion, recursion_from_All}
use Rattle.shared_lemmas.proofs.Lists.{all_weaker}
use Rattle.index_model.specs.Index.{SegmentData, IndexData, IsSegment, IsTerm, IsWellFormed}
use Rattle.index_model.proofs.FlatOrder.{bytes_flat, numbers_flat}
use Rattle.index_model.proofs.Numbers.{HasDocuments, terms_are_texts, numbered_is}
use Rattle.index_model.proofs.laws.the_flat_list_is_flat.Goals as goal

have : (index : IndexData) → IsWellFormed index → AllByRecursion HasDocuments index.terms
have index is =
    let d = length index.names in
    all_weaker (IsTerm d) HasDocuments
    (λ t k. (k.some, all_weaker (IsSegment d) (λ (s : SegmentData). 1 ≤ length s.docs) (λ s l. l.docs.some) t.segments (recursion_from_All (IsSegment d) t.segments k.segments)))
    index.terms (recursion_from_All (IsTerm d) index.terms is.terms)

pub returns : goal.returns
returns c = record {
  bytes = bytes_flat;
  numbers = numbers_flat;
  terms = λ index is. terms_are_texts index.terms (have index is) is.rising;
  numbered = λ index is. numbered_is index.terms (have index is) is.rising;
}
