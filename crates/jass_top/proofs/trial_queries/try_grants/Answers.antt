use Rattle.std.proofs.Common.{◌∙◌, arith}
use Rattle.jass_top.specs.TrialSums.{with_answer}
use Rattle.jass_top.proofs.Trying.{next_granted, report_is, hits_are}
use Rattle.jass_top.proofs.trial_queries.try_grants.Goals as goal

pub returns-clause-sums : goal.returns-clause-sums
returns-clause-sums g c =
    let index = g.S.Source.index c.args.source.now in let s = c.args.session.now in let one = c.try_grant-first.ensures in
    let two = c.try_grant-second.ensures in let three = c.try_grant-last.ensures in let s1 = c.try_grant-first.new.session in
    let s2 = c.try_grant-second.new.session in let s3 = c.try_grant-last.new.session in let p1 = c.try_grant-first.new.pool in
    let p2 = c.try_grant-second.new.pool in let p3 = c.try_grant-last.new.pool in
    let g1 = next_granted s s1 0 (omega arith) c.requires.none one.granted in
    let g2 = next_granted s1 s2 1 (omega arith) g1 two.granted in
    let g3 = next_granted s2 s3 2 (omega arith) g2 three.granted in
    let q2 = two.same.query ∙ one.same.query in
    let q3 = three.same.query ∙ q2 in
    let k1 = one.same.k ∙ c.requires.hits in
    let k2 = two.same.k ∙ k1 in
    let k3 = three.same.k ∙ k2 in
    (λ i. record {
      first = (one.sum ∙ (λ j. with_answer c.args.sums.first (report_is index s s1 p1 1 one.stands one.same.query k1 g1 j) (hits_are index s s1 p1 1 one.stands one.same.query k1 g1 j))) i;
      second = (two.sum ∙ (λ j. with_answer c.args.sums.second (report_is index s s2 p2 2 two.stands q2 k2 g2 j) (hits_are index s s2 p2 2 two.stands q2 k2 g2 j))) i;
      last = (three.sum ∙ (λ j. with_answer c.args.sums.last (report_is index s s3 p3 3 three.stands q3 k3 g3 j) (hits_are index s s3 p3 3 three.stands q3 k3 g3 j))) i;
    })

pub returns-clause-small : goal.returns-clause-small
returns-clause-small g c = λ n are. (c.try_grant-first.ensures.small n are.0, c.try_grant-second.ensures.small n are.1, c.try_grant-last.ensures.small n are.2)
