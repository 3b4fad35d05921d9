-- Each posting is weighed, judged, and gives one pair more.
use Rattle.std.proofs.Common.{rules, Err, IfErr, Result, subst, ◌≡◌, ◌+◌, ◌<◌, ℕ, ap, arith, get_or, length, set, sym, take, ◌∙◌, ◌∷◌, ◌++◌, []}
use Rattle.std.proofs.lemmas.List.{length-set, take_more_set}
use Rattle.std.proofs.lemmas.Option.{get_or_from_slice_get}
use Rattle.impact_segments.proofs.Below.{Posting, idf, impact_of}
use Rattle.impact_segments.specs.Collections.{weight_in, weights_in}
use Rattle.impact_segments.specs.OneList.{Unmade, outside, pairs_in}
use Rattle.impact_segments.specs.declared.one_list.SegmentsFault.{SegmentsFault}
use Rattle.impact_segments.specs.Pairs.{with_impact}
use Rattle.impact_segments.specs.declared.doc_impact.DocImpact.{DocImpact}
use Rattle.impact_segments.proofs.OneList.{greatest_more, judged_more, pair_is, pairs_more, positive_more, refused_there, weight_same}
use Rattle.impact_segments.proofs.Weights.{doc_below, few_rising, tf_there}
use Rattle.impact_segments.proofs.one_list.impacts_of.Goals as goal

pub new-weigher-requires-clause-within_docs : goal.new-weigher-requires-clause-within_docs
new-weigher-requires-clause-within_docs g c =
    let few = few_rising (length c.args.lengths.now) (g.P.PostingsByPlace.postings c.args.list.now) c.requires.list.rising c.requires.list.below in
    omega (arith, few, c.count-count.ensures)

pub weigh-weight-requires-clause-below : goal.weigh-weight-requires-clause-below
weigh-weight-requires-clause-below g c =
    let low = doc_below (length c.args.lengths.now) (g.P.PostingsByPlace.postings c.args.list.now) c.loop-place.place c.posting-posting.result c.posting-posting.ensures (omega (arith, c.loop-place-test.true, c.count-count.ensures)) c.requires.list.below in
    omega (arith, low, ap length c.new-weigher.ensures.lengths)

pub weigh-weight-requires-clause-tf : goal.weigh-weight-requires-clause-tf
weigh-weight-requires-clause-tf g c =
    tf_there (g.P.PostingsByPlace.postings c.args.list.now) c.loop-place.place c.posting-posting.result c.posting-posting.ensures (omega (arith, c.loop-place-test.true, c.count-count.ensures)) c.requires.list.tf

pub loop-place-preserved : goal.loop-place-preserved
loop-place-preserved g c =
    let rule = c.args.rule in
    let lengths = c.args.lengths.now in
    let total = c.args.total in
    let bits = c.args.bits in
    let range = c.args.range in
    let items = g.P.PostingsByPlace.postings c.args.list.now in
    let count = length items in
    let i = c.loop-place.place in
    let row = c.loop-place.pairs in
    let p : Posting = c.posting-posting.result in
    let low : i < length items = omega (arith, c.loop-place-test.true, c.count-count.ensures) in
    let there : p ≡ get_or items i p = sym (get_or_from_slice_get items i p p c.posting-posting.ensures) in
    let impact = c.in_ok-impact.impact in
    let mine : DocImpact = with_impact impact p.doc in
    let weigh : Posting → ℕ = λ (p : Posting). weight_in rule lengths total count p in
    let w = c.weigh-weight.result in
    let weighed : w ≡ weigh p = weight_same rule c.new-weigher.result.rule lengths c.new-weigher.result.lengths.now total c.new-weigher.result.total count c.new-weigher.result.rare w p
    c.new-weigher.ensures.rule c.new-weigher.ensures.lengths c.new-weigher.ensures.total (c.new-weigher.ensures.rare ∙ ap (λ (n : ℕ). idf (length lengths) n) c.count-count.ensures) (c.weigh-weight.ensures.value count) in
    let pair : Posting → DocImpact = λ (p : Posting). with_impact (impact_of bits range (weigh p)) p.doc in
    let one_more : take (i + 1) (set row i mine) ≡ take i row ++ mine ∷ [] = take_more_set row i mine (omega (arith, low, c.loop-place.invariant.count)) in
    record {
      pairs = pairs_more pair (take i row) (take (i + 1) (set row i mine)) (pairs_in rule lengths total bits range items) items i p
          mine low one_more (pair_is bits range p.doc impact w (weigh p) c.in_ok-impact.ensures.value weighed ∙ ap pair there) c.loop-place.invariant.pairs;
      positive = positive_more (take i row) (take (i + 1) (set row i mine)) p.doc impact one_more c.in_ok-impact.ensures.positive c.loop-place.invariant.positive;
      greatest = greatest_more (take i row) (take (i + 1) (set row i mine)) p.doc impact c.loop-place.greatest c.max-greatest.result one_more
          (omega (arith, c.max-greatest.ensures)) (omega (arith, c.max-greatest.ensures)) c.loop-place.invariant.greatest;
      judged = judged_more weigh bits range items i p w (outside bits range (weights_in rule lengths total items)) low (weighed ∙ ap weigh there) c.in_ok-impact.ensures.ok c.loop-place.invariant.judged;
      count = length-set row i mine ∙ c.loop-place.invariant.count;
    }

pub returns-in_err-impact-clause-fault : goal.returns-in_err-impact-clause-fault
returns-in_err-impact-clause-fault g c =
    let rule = c.args.rule in
    let lengths = c.args.lengths.now in
    let total = c.args.total in
    let items = g.P.PostingsByPlace.postings c.args.list.now in
    let count = length items in
    let i = c.loop-place.place in
    let p : Posting = c.posting-posting.result in
    let low : i < length items = omega (arith, c.loop-place-test.true, c.count-count.ensures) in
    let weigh : Posting → ℕ = λ (p : Posting). weight_in rule lengths total count p in
    let w = c.weigh-weight.result in
    let weighed : w ≡ weigh p = weight_same rule c.new-weigher.result.rule lengths c.new-weigher.result.lengths.now total c.new-weigher.result.total count c.new-weigher.result.rare w p
    c.new-weigher.ensures.rule c.new-weigher.ensures.lengths c.new-weigher.ensures.total (c.new-weigher.ensures.rare ∙ ap (λ (n : ℕ). idf (length lengths) n) c.count-count.ensures) (c.weigh-weight.ensures.value count) in
    let fault = c.in_err-impact.field-0.0 in
    let all = outside c.args.bits c.args.range (weights_in rule lengths total items) in
    let out : c.from_residual.result ≡ Err fault = search rules in
    subst (λ (r : Result ℕ SegmentsFault). IfErr r (Unmade all)) (sym out)
    (refused_there weigh c.args.bits c.args.range items i p w all fault low
    (weighed ∙ ap weigh (sym (get_or_from_slice_get items i p p c.posting-posting.ensures))) c.loop-place.invariant.judged c.in_err-impact.ensures.err)
