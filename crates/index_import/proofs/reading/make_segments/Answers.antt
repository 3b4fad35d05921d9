-- A weight outside the range differs from the end that is nearer.
use Rattle.std.proofs.Common.{List, refl, subst}
use Rattle.index_import.proofs.Below.{Posting, outside, weights_in}
use Rattle.impact_segments.specs.OneList.{Unmade}
use Rattle.impact_segments.specs.declared.one_list.SegmentsFault.{SegmentsFault}
use Rattle.index_import.proofs.Outside.{outside_apart}
use Rattle.index_import.proofs.reading.make_segments.Goals as goal

pub returns-in-Err-Outside-clause-changed : goal.returns-in-Err-Outside-clause-changed
returns-in-Err-Outside-clause-changed g c =
    let w = c.args.weighing in
    let postings : List Posting = g.P.PostingsByPlace.postings c.args.list.now in (
      refl,
      outside_apart w.rule c.args.bits w.lengths.now w.total c.args.range postings c.in-Err-Outside.kept c.in-Err-Outside.found c.requires.list c.requires.order
          (subst (λ (f : SegmentsFault). Unmade (outside c.args.bits c.args.range (weights_in w.rule w.lengths.now w.total postings)) f) c.in-Err-Outside.field-0-is c.in-Err-Outside.ensures.fault),
    )
