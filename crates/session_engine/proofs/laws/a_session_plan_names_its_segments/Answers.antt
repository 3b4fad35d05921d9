use Rattle.shared_lemmas.proofs.Common.{◌∙◌, List, length, map, ap, All-from_recursion}
use Rattle.session_engine.proofs.Below.{PlanSegment, plan_with, numbered_flat, shape}
use Rattle.session_engine.specs.Plans.{NamesSegment, query_heads, session_plan}
use Rattle.session_engine.proofs.Segments.{arranged_segments, arranged_named, arranged_shapes, heads_are}
use Rattle.session_engine.proofs.laws.a_session_plan_names_its_segments.Goals as goal

pub returns-clause-heads : goal.returns-clause-heads
returns-clause-heads c index terms is are known = heads_are index terms is

pub returns-clause-segments : goal.returns-clause-segments
unfolding session_plan
returns-clause-segments c index terms is are known =
    c.a_plan_has_the_segments_of_its_postings.ensures.segments (length index.names) (numbered_flat index) terms
    ∙ c.the_plan_has_the_named_segments.ensures index terms is are ∙ arranged_segments index terms is are known

pub returns-clause-names : goal.returns-clause-names
returns-clause-names c index terms is are known =
    All-from_recursion (NamesSegment index terms) (plan_with terms (query_heads index terms)).entries (arranged_named index terms is are known)

pub returns-clause-shape : goal.returns-clause-shape
unfolding session_plan
returns-clause-shape c index terms is are known = record {
  terms = c.a_plan_has_the_segments_of_its_postings.ensures.terms (length index.names) (numbered_flat index) terms;
  segments = ap (λ (segments : List PlanSegment). map shape segments)
      (c.a_plan_has_the_segments_of_its_postings.ensures.segments (length index.names) (numbered_flat index) terms
      ∙ c.the_plan_has_the_named_segments.ensures index terms is are ∙ arranged_segments index terms is are known)
      ∙ arranged_shapes index terms is are known;
}
