use Rattle.shared_lemmas.proofs.Common.{◌∙◌, ap, map}
use Rattle.index_model.specs.Index.{SegmentData, TermData, IndexData}
use Rattle.index_model.specs.Merging.{docs_of, segments_of}
use Rattle.index_model.proofs.Unioned.{union_merges}
use Rattle.index_model.proofs.UnionSegments.{union_has_docs, union_has_impacts, union_has_segments, union_has_texts}
use Rattle.index_model.proofs.WellFormed.{all_well_formed}
use Rattle.index_model.proofs.union_laws.a_union_has_the_segments_of_its_parts.Goals as goal

pub returns-clause-terms : goal.returns-clause-terms
returns-clause-terms c = λ parts are. ap (λ (i : IndexData). map (λ (t : TermData). t.term) i.terms) (union_merges parts (all_well_formed parts are)) ∙ union_has_texts 0 parts

pub returns-clause-segments : goal.returns-clause-segments
returns-clause-segments c = λ parts bytes are.
    ap (λ (i : IndexData). segments_of bytes i.terms) (union_merges parts (all_well_formed parts are)) ∙ union_has_segments bytes 0 parts (all_well_formed parts are)

pub returns-clause-impacts : goal.returns-clause-impacts
returns-clause-impacts c = λ parts bytes are.
    ap (λ (i : IndexData). map (λ (s : SegmentData). s.impact) (segments_of bytes i.terms)) (union_merges parts (all_well_formed parts are))
    ∙ ap (map (λ (s : SegmentData). s.impact)) (union_has_segments bytes 0 parts (all_well_formed parts are))
    ∙ union_has_impacts bytes 0 parts

pub returns-clause-documents : goal.returns-clause-documents
returns-clause-documents c = λ parts bytes impact are.
    ap (λ (i : IndexData). docs_of impact (segments_of bytes i.terms)) (union_merges parts (all_well_formed parts are))
    ∙ ap (docs_of impact) (union_has_segments bytes 0 parts (all_well_formed parts are))
    ∙ union_has_docs impact bytes 0 parts (all_well_formed parts are)
