-- The segments hold the pairs of the list.
use Rattle.shared_lemmas.proofs.Common.{◌≡◌, ℕ, ◌≤◌, List, length, sym, subst, ap, ◌∙◌, arith, length-map}
use Rattle.impact_segments.proofs.Below.{Segment}
use Rattle.impact_segments.proofs.OneList.{docs_below_by, docs_rise_by}
use Rattle.impact_segments.proofs.OneTerm.{impact_by, some_segments, segments_below, term_is}
use Rattle.impact_segments.proofs.terms.term_of.Goals as goal

pub group_by-requires-clause-rising : goal.group_by-requires-clause-rising
group_by-requires-clause-rising c = docs_rise_by (impact_by c.args.weigher.now.rule c.args.weigher.now.docs.now c.args.bits c.args.range c.args.list.now) c.args.list.now.postings c.impacts_of.new.pairs.items c.in_ok-impacts_of.ensures.pairs c.args.list.now.rising

pub invariant_of-result : goal.invariant_of-result
invariant_of-result c =
    let P : List ℕ → Type 0 = λ (l : List ℕ). length l ≤ 65535 in
    let size : length c.impacts_of.new.pairs.items ≡ length c.args.list.now.postings = ap length c.in_ok-impacts_of.ensures.pairs ∙ length-map c.args.list.now.postings _ in
    let some : 1 ≤ length c.impacts_of.new.pairs.items = omega (arith, size, c.requires.some) in
    record {
      term_fits = subst P (sym (c.in_ok-term.ensures.bytes ∙ c.as_str.ensures.bytes)) c.args.list.now.term_fits;
      term_is_text = c.in_ok-term.ensures.utf8;
      some = some_segments (λ (s : Segment). s.impact) (λ (s : Segment). s.docs) c.in_ok-segments.segments c.impacts_of.new.pairs.items c.in_ok-segments.ensures.pairs some;
      falling = c.in_ok-segments.ensures.falling;
      once = c.in_ok-segments.ensures.once;
    }

pub returns-clause-entries : goal.returns-clause-entries
returns-clause-entries c =
    term_is c.args.weigher.now.rule c.args.weigher.now.docs.now c.args.bits c.args.range c.args.list.now c.in_ok-term.term c.in_ok-segments.segments c.impacts_of.new.pairs.items
    (c.in_ok-term.ensures.bytes ∙ c.as_str.ensures.bytes) c.in_ok-impacts_of.ensures.pairs c.in_ok-segments.ensures.pairs

pub returns-clause-docs : goal.returns-clause-docs
returns-clause-docs c =
    segments_below (λ (s : Segment). s.impact) (λ (s : Segment). s.docs) (length c.args.weigher.now.docs.now) c.in_ok-segments.segments c.impacts_of.new.pairs.items c.in_ok-segments.ensures.pairs
    (docs_below_by (impact_by c.args.weigher.now.rule c.args.weigher.now.docs.now c.args.bits c.args.range c.args.list.now) c.args.list.now.postings (length c.args.weigher.now.docs.now) c.impacts_of.new.pairs.items c.in_ok-impacts_of.ensures.pairs c.requires.below)
