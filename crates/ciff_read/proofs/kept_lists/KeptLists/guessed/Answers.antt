use Rattle.shared_lemmas.proofs.Common.{◌∙◌, ◌<◌, length, arith, get_or_from_slice_get}
use Rattle.ciff_read.specs.KeptLists.{entries_in, kept_in}
use Rattle.ciff_read.proofs.Rising.{entry_kept}
use Rattle.ciff_read.proofs.kept_lists.KeptLists.guessed.Goals as goal

pub returns-then-list-at-clause-count : goal.returns-then-list-at-clause-count
returns-then-list-at-clause-count c =
    let kept = kept_in c.args.self.now in
    let k = entry_kept (entries_in c.args.self.now) c.args.guess c.place-list.result c.place-list.ensures in
    let inside : c.args.guess < length kept = omega (arith, c.if-guess-len.false, c.len.ensures) in
    (k.list, (c.args.guess, inside, get_or_from_slice_get kept c.args.guess k.list k.list k.there), k.at ∙ c.if-list-at.true, k.count)
