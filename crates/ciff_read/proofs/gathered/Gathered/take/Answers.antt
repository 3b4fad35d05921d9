use Rattle.std.proofs.Common.{subst, sym}
use Rattle.ciff_read.specs.Private.Kept.{AreKept}
use Rattle.ciff_read.proofs.Postings.{Follows, judge_follows, kept-snoc}
use Rattle.ciff_read.proofs.gathered.Gathered.take.Goals as goal

pub invariant_of-self : goal.invariant_of-self
invariant_of-self c = record { kept = subst (AreKept c.args.self.now.docs c.args.self.now.before c.args.self.now.last) (sym c.in-Err-push.ensures.err) c.args.self.now.kept }

pub invariant_of-self-in-Ok : goal.invariant_of-self-in-Ok
invariant_of-self-in-Ok c =
    let g = c.args.self.now in
    let p = c.in-Ok.posting in
    let next = subst (λ last. Follows g.docs g.before last g.postings p) (sym g.kept.last_is) (judge_follows g.docs g.before g.postings c.args.entry p (sym c.in-Ok.ensures)) in
    record { kept = subst (AreKept g.docs g.before p.doc) (sym c.in-Ok-push.ensures.ok) (kept-snoc g.docs g.before g.last g.postings p g.kept next) }
