use Rattle.shared_lemmas.proofs.Common.{◌<◌, length, All-from_recursion}
use Rattle.jass_base.specs.declared.answer.Hit.{Hit}
use Rattle.ranking_model.specs.Scores.{first_ranked}
use Rattle.ranking_model.proofs.Documents.{ranked_below, scores_all}
use Rattle.ranking_model.proofs.laws.the_ranking_has_documents_of_the_scores.Goals as goal

pub returns-clause-all : goal.returns-clause-all
returns-clause-all c = scores_all

pub returns-clause-documents : goal.returns-clause-documents
returns-clause-documents c = λ scores m. All-from_recursion (λ (hit : Hit). hit.doc < length scores) (first_ranked scores m) (ranked_below scores m)
