use Rattle.shared_lemmas.proofs.Common.{◌≡◌, ℕ, ◌-◌, ◌*◌, ◌≤◌, get_or, map, All}
use Rattle.jass_base.specs.CiffViews.{list_data}
use Rattle.jass_base.specs.Lists.{HasDocsBelow}
use Rattle.trial_data.specs.Private.Gathering.{with_lists}
use Rattle.trial_data.specs.Trials.{lists_from}
use Rattle.trial_data.proofs.Listing.{with_front}
use Rattle.trial_data.proofs.lists.draw_lists.Given as goal

abbrev pub invariant-loop-term : goal.invariant-loop-term
invariant-loop-term l = record {
  drawn : lists_from l.docs l.terms 0 l.fn.draws ≡ with_front (map list_data l.lists) (lists_from l.docs (l.terms - l.term) l.term l.draws);
  rest : with_lists l.lengths (lists_from l.docs (l.terms - l.term) l.term l.draws).lists ≡ with_lists l.fn.lengths (lists_from l.docs l.terms 0 l.fn.draws).lists;
  small : (doc : ℕ) → get_or l.lengths doc 0 ≤ 8 * l.term;
  below : All (HasDocsBelow l.docs) l.lists;
}
