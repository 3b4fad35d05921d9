-- The segments hold the pairs of the list.
use Rattle.std.proofs.Common.{◌≡◌, ◌∙◌, ℕ, List, ap, arith, length}
use Rattle.std.proofs.lemmas.List.{length-map}
use Rattle.impact_segments.proofs.Below.{Posting, SegmentData, impact_of}
use Rattle.impact_segments.specs.Collections.{weight_in}
use Rattle.impact_segments.proofs.Grouped.{are_docs, list_segments_are, pairs_are, segments_fall, segments_filled, segments_once}
use Rattle.impact_segments.proofs.OneList.{docs_below_by, docs_rise_by}
use Rattle.impact_segments.proofs.OneTerm.{as_many_documents, segments_below, some_segments}
use Rattle.impact_segments.proofs.segments.make_segments.Goals as goal

pub group_into-requires-clause-rising : goal.group_into-requires-clause-rising
group_into-requires-clause-rising g c =
    let postings = g.P.PostingsByPlace.postings c.args.list.now in
    docs_rise_by (λ (p : Posting). impact_of c.args.bits c.args.range (weight_in c.args.rule c.args.lengths.now c.args.total (length postings) p)) postings c.impacts_of.new.pairs c.in_ok-greatest.ensures.pairs c.requires.list.rising

pub returns-in-Ok-group_into : goal.returns-in-Ok-group_into
returns-in-Ok-group_into g c =
    let postings = g.P.PostingsByPlace.postings c.args.list.now in
    let f : Posting → ℕ = λ (p : Posting). impact_of c.args.bits c.args.range (weight_in c.args.rule c.args.lengths.now c.args.total (length postings) p) in
    let pairs = c.impacts_of.new.pairs in
    let d = length c.args.lengths.now in
    let segments = c.group_into.new.segments in
    let impact : SegmentData → ℕ = λ (s : SegmentData). s.impact in
    let docs : SegmentData → List ℕ = λ (s : SegmentData). s.docs in
    let rising = docs_rise_by f postings pairs c.in_ok-greatest.ensures.pairs c.requires.list.rising in
    let positive = c.in_ok-greatest.ensures.positive in
    let hold = pairs_are pairs segments c.in-Ok-group_into.ensures in
    let size : length pairs ≡ length postings = ap length c.in_ok-greatest.ensures.pairs ∙ length-map postings _ in
    record {
      exact = list_segments_are c.args.rule c.args.lengths.now c.args.total c.args.bits c.args.range postings segments pairs c.in_ok-greatest.ensures.pairs c.in-Ok-group_into.ensures;
      postings = as_many_documents impact docs segments pairs hold ∙ size;
      some = some_segments impact docs segments pairs hold (omega (arith, size, c.requires.list.some));
      falling = segments_fall pairs segments c.in-Ok-group_into.ensures rising positive;
      once = segments_once pairs segments c.in-Ok-group_into.ensures rising positive;
      docs = are_docs d segments c.requires.list.few (segments_filled pairs segments c.in-Ok-group_into.ensures rising positive) (segments_below impact docs d segments pairs hold (docs_below_by f postings d pairs c.in_ok-greatest.ensures.pairs c.requires.list.below));
      inside = c.in_ok-greatest.ensures.inside;
      fault = tt;
    }
