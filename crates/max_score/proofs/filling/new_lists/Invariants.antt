use Rattle.std.proofs.Common.{◌≡◌, take, map, length}
use Rattle.std.specs.List.{AllByRecursion}
use Rattle.max_score.specs.Cursors.{unread}
use Rattle.max_score.specs.declared.term_list.TermList.{TermList}
use Rattle.max_score.specs.Private.Unread.{named_by}
use Rattle.max_score.proofs.filling.new_lists.Given as goal

abbrev pub invariant-loop-named : goal.invariant-loop-named
invariant-loop-named g l = (map named_by l.lists.items ≡ take l.named-index l.terms) × AllByRecursion (λ (list : TermList). list.cursor ≡ unread list.cursor.term (length (g.S.Source.index l.source).names)) l.lists.items
