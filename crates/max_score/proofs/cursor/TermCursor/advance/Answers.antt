use Rattle.shared_lemmas.proofs.Common.{◌∙◌, ap, arith, filter, nat_le}
use Rattle.max_score.specs.Cursors.{CursorView, left_of}
use Rattle.max_score.specs.declared.posting.Posting.{Posting}
use Rattle.max_score.proofs.Cursors.{dropped_to}
use Rattle.max_score.proofs.cursor.TermCursor.advance.Goals as goal

pub returns-clause-left : goal.returns-clause-left
returns-clause-left c =
    dropped_to c.args.to c.self.inside.from c.max-self-inside.result c.self.inside.impacts.items c.self.invariant.0 (omega (arith, c.max-self-inside.ensures, c.min.ensures, c.len-docs.ensures))
    ∙ ap (λ (v : CursorView). filter (λ (p : Posting). nat_le c.args.to p.doc) (left_of v)) c.self.view_is
