use Rattle.shared_lemmas.proofs.Common.{rules, text_from_collect}
use Rattle.unicode_normalization.proofs.IterLemmas.{Spells-slice}
use Rattle.caseless.specs.CaseFold.{CaseFoldSteps}
use Rattle.caseless.proofs.CaselessLemmas.{Spells-CaseFold}
use Rattle.query_reader.specs.Texts.{folded_term}
use Rattle.query_reader.proofs.folded.folded.Goals as goal

pub returns : goal.returns
unfolding folded_term
returns c =
    text_from_collect {steps = CaseFoldSteps _} {s = c.default_case_fold.result} _ c.collect.ensures.ran (record { runs = Spells-CaseFold (c.default_case_fold.ensures.text _ (Spells-slice _ _ (search rules))) })
