-- A term's first segment has its greatest impact.
use Rattle.std.proofs.Common.{ℕ, ◌+◌, List, max, drop, get_or, sym, ap, ◌∙◌}
use Rattle.impact_segments.proofs.Below.{Segment, greatest_impact}
use Rattle.impact_segments.proofs.OneTerm.{greatest_more}
use Rattle.impact_segments.proofs.terms.greatest_impact.Goals as goal

pub loop-term-preserved : goal.loop-term-preserved
loop-term-preserved c =
    let first : Segment = c.index-as_slice-0.result in
    ap (λ (n : ℕ). max n (greatest_impact (drop (c.loop-term.term-index + 1) c.args.terms.now))) (c.max-greatest.ensures ∙ ap (λ (s : Segment). max s.impact c.loop-term.greatest) (sym c.index-as_slice-0.is))
    ∙ greatest_more c.args.terms.now c.loop-term.term-index c.term-item.result first c.loop-term.greatest c.loop-term-test.true c.term-item.is
    (c.index-as_slice-0.is ∙ ap (λ (l : List Segment). get_or l 0 first) c.as_slice.ensures) c.loop-term.invariant
