-- The blocks go to the file, and what stands behind them.
use Rattle.shared_lemmas.proofs.Common.{ℕ, List, ◌++◌, ◌∙◌, ap, append_assoc, subst}
use Rattle.index_write.specs.Private.Pieces.{IsSent}
use Rattle.index_write.specs.Spelled.{SpelledView}
use Rattle.index_write.proofs.spelled_terms.SpelledTerms.append.Goals as goal

pub returns : goal.returns
returns g c = λ start text was.
    let blocks = c.self.inside.blocks in
    subst (λ (bytes : List ℕ). IsSent g.C.Cabinet start c.append.new.files c.args.name.now c.append.result (text ++ bytes))
    (ap (λ (xs : List ℕ). blocks ++ xs) c.as_slice.ensures ∙ ap (λ (v : SpelledView). v.bytes) c.self.view_is)
    (subst (IsSent g.C.Cabinet start c.append.new.files c.args.name.now c.append.result) (append_assoc text blocks c.as_slice.result.now)
    (c.append.ensures start (text ++ blocks) (c.append_blocks-failed.ensures start text was)))
