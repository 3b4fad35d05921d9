use Rattle.shared_lemmas.proofs.Common.{◌≡◌, ◌+◌, ◌∙◌, take, length, ap, get_or, arith, sum_by, sum_by_more}
use Rattle.ranking_model.specs.Scores.{gain_of}
use Rattle.ranking_model.proofs.Totals.{scores_are}
use Rattle.ranking_model.proofs.Documents.{scores_all}
use Rattle.run_audit.proofs.Added.{score_at}
use Rattle.run_audit.proofs.adding.add_segments.Goals as goal

pub loop-n-init : goal.loop-n-init
loop-n-init c = record {
  length = ap length c.requires.scored ∙ scores_all c.args.from c.args.plan.now;
  each = λ d h. ap (λ xs. get_or xs d 0) c.requires.scored ∙ score_at c.args.plan.now c.args.from d h;
}

pub add_segment-requires-clause-room : goal.add_segment-requires-clause-room
add_segment-requires-clause-room c doc inside =
    let item = c.index-segments-n.result in
    let segments = c.args.plan.now.segments in
    let there : item ≡ get_or segments c.loop-n.n item = c.index-segments-n.is ∙ ap (λ xs. get_or xs c.loop-n.n item) c.as_slice-segments.ensures in
    let more = sum_by_more (gain_of doc) segments c.loop-n.n item (omega (arith, c.loop-n-test.true, c.requires.within)) in
    let gain : gain_of doc item ≡ gain_of doc (get_or segments c.loop-n.n item) = ap (gain_of doc) there in
    let long = c.loop-n.invariant.length in
    let now = c.loop-n.invariant.each doc (omega (arith, inside, long)) in
    omega (arith, now, more, gain, c.requires.small.scores (c.loop-n.n + 1) doc)

pub returns : goal.returns
returns c =
    let last : c.loop-n.n ≡ c.args.to = omega (arith, c.loop-n-test.false, c.loop-n.auto.n-end, c.requires.order) in
    scores_are c.args.plan.now c.loop-n.scores c.args.to c.loop-n.invariant.length (λ d h. c.loop-n.invariant.each d h ∙ ap (λ n. sum_by (gain_of d) (take n c.args.plan.now.segments)) last)
