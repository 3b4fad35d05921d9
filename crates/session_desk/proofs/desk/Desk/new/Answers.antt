use Rattle.session_desk.proofs.desk.Desk.new.Goals as goal

pub invariant_of-result : goal.invariant_of-result
invariant_of-result g c = c.in-Ok.ensures.stands (g.S.Source.index c.args.source)
