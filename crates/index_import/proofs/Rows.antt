-- Segments in rows of their own.
use Rattle.shared_lemmas.proofs.Common.{◌≡◌, ℕ, List, map, sym, subst, All, AllPairs}
use Rattle.index_import.proofs.Below.{Segment, SegmentData, SharesNoDocument, all_map_at, segment_data}
use Rattle.jass_base.specs.Gaps.{AreDocs}
use Rattle.index_model.specs.Index.{SharesNoDocument as SharesNone}
use Rattle.shared_lemmas.proofs.Pairs.{pairs_by_places, pairs_by_recursion}
use Rattle.index_import.proofs.Headed.{unmap}

pub rows_docs : (docs : ℕ) (rows : List Segment) (all : List SegmentData) → map segment_data rows ≡ all → All (λ (s : SegmentData). AreDocs docs s.docs) all → All (λ (s : Segment). AreDocs docs s.docs) rows
rows_docs docs rows all is are =
    λ i d low. all_map_at (λ (s : SegmentData). AreDocs docs s.docs) segment_data rows i d low (subst (λ (ss : List SegmentData). All (λ (s : SegmentData). AreDocs docs s.docs) ss) (sym is) are)

pub rows_once : (rows : List Segment) (all : List SegmentData) → map segment_data rows ≡ all → AllPairs SharesNone all → AllPairs SharesNoDocument rows
rows_once rows all is once =
    pairs_by_places SharesNoDocument rows (unmap SharesNone segment_data rows (pairs_by_recursion SharesNone (map segment_data rows) (subst (λ (ss : List SegmentData). AllPairs SharesNone ss) (sym is) once)))
