use Rattle.shared_lemmas.proofs.Common.{◌≡◌, ◌++◌, filter, map, string_bytes}
use Rattle.jass_base.specs.declared.postings_list.PostingsList.{PostingsList}
use Rattle.asked_lists.specs.Asked.{is_asked}
use Rattle.asked_lists.proofs.asked.keep_asked.Given as goal

abbrev pub invariant-loop-list : goal.invariant-loop-list
invariant-loop-list l =
    l.kept ++ filter (λ (list : PostingsList). is_asked (map string_bytes l.words) list.term) l.list-iterator.rest.items
    ≡ filter (λ (list : PostingsList). is_asked (map string_bytes l.words) list.term) l.fn.lists
