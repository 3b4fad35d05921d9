use Rattle.std.proofs.Common.{◌∙◌, ap, not, bytes_eq}
use Rattle.ciff_read.proofs.TermLists.{any_map}
use Rattle.ciff_read.proofs.terms.add_term.Goals as goal

pub returns-in-Ok-clause-new : goal.returns-in-Ok-clause-new
returns-in-Ok-clause-new c = c.in-Ok.ensures.added ∙ ap not (any_map (bytes_eq c.args.term.now) c.args.terms.now.keys)
