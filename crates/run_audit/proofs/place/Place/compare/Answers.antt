use Rattle.shared_lemmas.proofs.Common.{take_rest}
use Rattle.run_audit.proofs.Agreeing.{compared, compared_no_more}
use Rattle.run_audit.proofs.place.Place.compare.Goals as goal

pub returns-then-self-clause-advances : goal.returns-then-self-clause-advances
returns-then-self-clause-advances c known agrees =
    compared known c.args.given.now c.args.piece.now _ c.args.self.now.at c.agreeing-count.result c.args.self.now.same c.if-self.true c.requires.within (take_rest c.args.given.now c.args.self.now.at)
    c.agreeing-count.ensures.first c.agreeing-count.ensures.second c.agreeing-count.ensures.before c.agreeing-count.ensures.there agrees

pub returns-else-self-clause-advances : goal.returns-else-self-clause-advances
returns-else-self-clause-advances c known agrees = compared_no_more known c.args.given.now c.args.piece.now c.args.self.now.at c.args.self.now.same c.if-self.false agrees
