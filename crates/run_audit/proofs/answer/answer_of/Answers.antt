use Rattle.std.proofs.Common.{length, ap, arith}
use Rattle.run_audit.proofs.answer.answer_of.Goals as goal

pub standing_of-requires-clause-documents : goal.standing_of-requires-clause-documents
standing_of-requires-clause-documents c =
    omega (arith, ap length c.requires.scored, c.the_ranking_has_documents_of_the_scores.ensures.all c.args.count c.args.plan.now, c.requires.docs)
