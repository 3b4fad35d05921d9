use Rattle.shared_lemmas.proofs.Pairs.{pairs_by_recursion}
use Rattle.ranking_model.proofs.Segments.{Differ, segments_are}
use Rattle.ranking_model.proofs.laws.segments_make_a_plan.Goals as goal

pub returns : goal.returns
returns c = λ segments some apart. segments_are segments some (pairs_by_recursion Differ segments apart)
