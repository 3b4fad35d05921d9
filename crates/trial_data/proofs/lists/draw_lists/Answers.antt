-- One list more.
use Rattle.shared_lemmas.proofs.Common.{◌≡◌, ◌∙◌, ℕ, ◌<◌, List, [], get_or, ap, sym, subst, arith, All, All-push}
use Rattle.jass_base.specs.Ciff.{ListData}
use Rattle.jass_base.specs.declared.posting.Posting.{Posting}
use Rattle.jass_base.specs.declared.postings_list.PostingsList.{PostingsList}
use Rattle.jass_base.specs.Lists.{HasDocsBelow}
use Rattle.trial_data.specs.Private.Gathering.{with_postings}
use Rattle.trial_data.specs.Trials.{term_postings}
use Rattle.trial_data.proofs.Listing.{lists_more, rest_more, term_adds}
use Rattle.trial_data.proofs.lists.draw_lists.Goals as goal

pub add_lengths-requires-clause-fits : goal.add_lengths-requires-clause-fits
add_lengths-requires-clause-fits c = λ doc.
    let ps : c.as_slice.result.now ≡ (term_postings c.args.docs c.loop-term.term c.loop-term.draws).postings = c.as_slice.ensures ∙ ap (λ (l : ListData). l.postings) c.in_ok-list.ensures.list in
    let Fits : List Posting → Type 0 = λ (qs : List Posting). get_or (with_postings c.loop-term.lengths qs) doc 0 < 2147483648 in
    let most = term_adds c.args.docs c.loop-term.term c.loop-term.draws c.loop-term.lengths _ (c.loop-term.auto.lengths ∙ c.requires.lengths) c.loop-term.invariant.small doc in
    let few = c.requires.terms in
    subst Fits (sym ps) (omega arith)

pub loop-term-preserved : goal.loop-term-preserved
loop-term-preserved c =
    let ps : c.as_slice.result.now ≡ (term_postings c.args.docs c.loop-term.term c.loop-term.draws).postings = c.as_slice.ensures ∙ ap (λ (l : ListData). l.postings) c.in_ok-list.ensures.list in
    let added : c.add_lengths.new.lengths ≡ with_postings c.loop-term.lengths c.as_slice.result.now = c.add_lengths.ensures in
    let Below : List PostingsList → Type 0 = λ (ls : List PostingsList). All (HasDocsBelow c.args.docs) ls in
    record {
      drawn = lists_more c.args.docs c.args.terms c.loop-term.term c.loop-term.draws c.draw_list.new.draws _ c.loop-term.lists c.push.new.self c.in_ok-list.list c.loop-term-test.true
          c.loop-term.invariant.drawn c.in_ok-list.ensures.list c.in_ok-list.ensures.state c.in_ok-push.ensures.ok;
      rest = rest_more c.args.docs c.args.terms c.loop-term.term c.loop-term.draws c.draw_list.new.draws c.loop-term.lengths c.add_lengths.new.lengths _ c.as_slice.result.now c.loop-term-test.true
          c.loop-term.invariant.rest ps c.in_ok-list.ensures.state added;
      small = λ doc.
          let most = term_adds c.args.docs c.loop-term.term c.loop-term.draws c.loop-term.lengths _ (c.loop-term.auto.lengths ∙ c.requires.lengths) c.loop-term.invariant.small doc in
          let same = ap (λ (s : List ℕ). get_or s doc 0) (added ∙ ap (with_postings c.loop-term.lengths) ps) in
          omega arith;
      below = subst Below (sym c.in_ok-push.ensures.ok) (All-push (HasDocsBelow c.args.docs) c.loop-term.lists c.in_ok-list.list c.loop-term.invariant.below c.in_ok-list.ensures.below);
    }
