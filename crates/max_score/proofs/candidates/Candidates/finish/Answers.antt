use Rattle.shared_lemmas.proofs.Common.{take, ap, ◌∙◌}
use Rattle.max_score.proofs.Standing.{all_met}
use Rattle.max_score.proofs.candidates.Candidates.finish.Goals as goal

pub returns-clause-first : goal.returns-clause-first
returns-clause-first c = λ scores stands. c.truncate.ensures.items ∙ ap (take c.args.self.now.k) c.rank.ensures.items ∙ all_met scores c.args.self.now.k c.args.self.now.threshold c.args.self.now.hits.items stands
