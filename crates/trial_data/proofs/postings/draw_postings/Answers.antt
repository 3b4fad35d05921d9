use Rattle.std.proofs.Common.{List, [], ap, sym, arith}
use Rattle.jass_base.specs.declared.posting.Posting.{Posting}
use Rattle.trial_data.specs.Trials.{DrawnPostings, postings_from, term_postings}
use Rattle.trial_data.proofs.Drawing.{with_front, drawn_all, drawn_more}
use Rattle.trial_data.proofs.postings.draw_postings.Goals as goal

pub draws-init : goal.draws-init
draws-init c = record {
  left = c.args.docs;
  within = omega arith;
  enough = omega arith;
  is = ap (λ (ps : List Posting). with_front ps (postings_from c.args.docs c.args.term c.args.docs 0 c.args.draws.now)) (sym c.clear.ensures.items);
}

pub returns-then-doc-docs-clause-postings : goal.returns-then-doc-docs-clause-postings
unfolding term_postings
returns-then-doc-docs-clause-postings c = ap (λ (d : DrawnPostings). d.postings)
    (drawn_all c.args.docs c.args.term c.draws.from c.draws.draws c.next.result c.next.new.self _ c.draws.postings.items c.draws.invariant c.next.ensures.state c.next.ensures.number c.if-doc-docs.true)

pub returns-then-doc-docs-clause-state : goal.returns-then-doc-docs-clause-state
unfolding term_postings
returns-then-doc-docs-clause-state c = ap (λ (d : DrawnPostings). d.state)
    (drawn_all c.args.docs c.args.term c.draws.from c.draws.draws c.next.result c.next.new.self _ c.draws.postings.items c.draws.invariant c.next.ensures.state c.next.ensures.number c.if-doc-docs.true)

pub draws-preserved : goal.draws-preserved
draws-preserved c =
    drawn_more c.args.docs c.args.term c.draws.from c.draws.draws c.next.result c.next.new.self c.tf_of-tf.result c.next-in-draws.result c.next-in-draws.new.self
    _ c.draws.postings.items c.push.new.self.items c.draws.invariant c.next.ensures.state c.next.ensures.number c.if-doc-docs.false
    c.next-in-draws.ensures.state c.next-in-draws.ensures.number c.tf_of-tf.ensures c.in_ok-push.ensures.items
