-- Each posting is one of the list, and its weight widens the range.
use Rattle.std.proofs.Common.{◌≡◌, ◌<◌, ◌∙◌, ℕ, ap, arith, fold, length, sym}
use Rattle.std.proofs.lemmas.Option.{get_or_from_slice_get}
use Rattle.impact_segments.proofs.Below.{Posting, idf, widened}
use Rattle.impact_segments.specs.Collections.{weight_in, weights_in}
use Rattle.impact_segments.proofs.OneList.{weight_same}
use Rattle.impact_segments.proofs.Weights.{doc_below, few_rising, tf_there, widened_more}
use Rattle.impact_segments.proofs.one_list.widen.Goals as goal

pub new-weigher-requires-clause-within_docs : goal.new-weigher-requires-clause-within_docs
new-weigher-requires-clause-within_docs g c =
    let few = few_rising (length c.args.lengths.now) (g.P.PostingsByPlace.postings c.args.list.now) c.requires.list.rising c.requires.list.below in
    omega (arith, few, c.count-count.ensures)

pub weigh-requires-clause-below : goal.weigh-requires-clause-below
weigh-requires-clause-below g c =
    let low = doc_below (length c.args.lengths.now) (g.P.PostingsByPlace.postings c.args.list.now) c.loop-place.place c.posting.result c.posting.ensures (omega (arith, c.loop-place-test.true, c.count-count.ensures)) c.requires.list.below in
    omega (arith, low, ap length c.new-weigher.ensures.lengths)

pub weigh-requires-clause-tf : goal.weigh-requires-clause-tf
weigh-requires-clause-tf g c =
    tf_there (g.P.PostingsByPlace.postings c.args.list.now) c.loop-place.place c.posting.result c.posting.ensures (omega (arith, c.loop-place-test.true, c.count-count.ensures)) c.requires.list.tf

pub loop-place-preserved : goal.loop-place-preserved
loop-place-preserved g c =
    let rule = c.args.rule in
    let lengths = c.args.lengths.now in
    let total = c.args.total in
    let items = g.P.PostingsByPlace.postings c.args.list.now in
    let count = length items in
    let i = c.loop-place.place in
    let p : Posting = c.posting.result in
    let low : i < length items = omega (arith, c.loop-place-test.true, c.count-count.ensures) in
    let weigh : Posting → ℕ = λ (p : Posting). weight_in rule lengths total count p in
    let w = c.weigh.result in
    let weighed : w ≡ weigh p = weight_same rule c.new-weigher.result.rule lengths c.new-weigher.result.lengths.now total c.new-weigher.result.total count c.new-weigher.result.rare w p
    c.new-weigher.ensures.rule c.new-weigher.ensures.lengths c.new-weigher.ensures.total (c.new-weigher.ensures.rare ∙ ap (λ (n : ℕ). idf (length lengths) n) c.count-count.ensures) (c.weigh.ensures.value count) in
    widened_more weigh c.loop-place.range c.widen.new.self (fold widened c.args.range.now (weights_in rule lengths total items)) items i p w low
    (weighed ∙ ap weigh (sym (get_or_from_slice_get items i p p c.posting.ensures))) c.widen.ensures c.loop-place.invariant
