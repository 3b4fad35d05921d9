use Rattle.shared_lemmas.proofs.Common.{◌≡◌, ◌∙◌, All-from_recursion, All-permutation, IsPermutation, IsPermutation-map, List, length, map, subst, take_all}
use Rattle.jass_base.specs.declared.query_term.QueryTerm.{QueryTerm}
use Rattle.max_score.specs.Cursors.{unread}
use Rattle.max_score.specs.declared.term_list.TermList.{TermList}
use Rattle.max_score.specs.Private.Unread.{named_by}
use Rattle.max_score.proofs.filling.new_lists.Goals as goal

pub returns-clause-named : goal.returns-clause-named
returns-clause-named g c =
    let sorted = c.sort_unstable_by_key.new.self.items in
    let all : map named_by c.loop-named.lists.items ≡ c.args.terms.now = c.loop-named.invariant.0 ∙ take_all c.loop-named.named-index c.args.terms.now c.loop-named-test.false in
    subst (λ (l : List QueryTerm). IsPermutation l (map named_by sorted)) all (IsPermutation-map named_by c.loop-named.lists.items sorted c.sort_unstable_by_key.ensures.permutation)

pub returns-clause-unread : goal.returns-clause-unread
returns-clause-unread g c =
    All-permutation (λ (list : TermList). list.cursor ≡ unread list.cursor.term (length (g.S.Source.index c.args.source.now).names)) c.loop-named.lists.items c.sort_unstable_by_key.new.self.items c.sort_unstable_by_key.ensures.permutation
    (All-from_recursion (λ (list : TermList). list.cursor ≡ unread list.cursor.term (length (g.S.Source.index c.args.source.now).names)) c.loop-named.lists.items c.loop-named.invariant.1)
