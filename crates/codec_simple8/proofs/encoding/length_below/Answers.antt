use Rattle.shared_lemmas.proofs.Common.{◌≡◌, ℕ, List, [], drop, length, ap, ◌∙◌, arith, drop_all}
use Rattle.jass_base.specs.Gaps.{gaps_of}
use Rattle.codec_simple8.specs.Simple8.{spelled_words}
use Rattle.jass_base.proofs.Gaps.{length-gaps_from, docs_few}
use Rattle.codec_simple8.proofs.Tables.{count_some}
use Rattle.codec_simple8.proofs.Words.{no_words}
use Rattle.codec_simple8.proofs.WordParts.{next_length, one_more, bytes_few}
use Rattle.codec_simple8.proofs.encoding.length_below.Goals as goal

pub overflow_add-bytes : goal.overflow_add-bytes
overflow_add-bytes c =
    let long = length-gaps_from 0 c.args.docs.now in
    let few = docs_few c.args.d c.args.docs.now c.requires in
    let most = bytes_few (gaps_of c.args.docs.now) in
    record { fits = omega (arith, long, few, most, c.loop-at.invariant.all) }

pub returns-then-bytes-limit-clause-none : goal.returns-then-bytes-limit-clause-none
returns-then-bytes-limit-clause-none c =
    let more = one_more (gaps_of c.args.docs.now) c.loop-at.at (omega (arith, length-gaps_from 0 c.args.docs.now, c.loop-at-test.true)) in
    λ none. omega (arith, more, c.loop-at.invariant.all, c.if-bytes-limit.true)

pub loop-at-smaller : goal.loop-at-smaller
loop-at-smaller c = omega (arith, c.count-at.ensures, count_some c.selector_at.result.number c.selector_at.result.few, c.loop-at-test.true, c.selector_at.ensures.few)

pub loop-at-preserved : goal.loop-at-preserved
loop-at-preserved c =
    let long = length-gaps_from 0 c.args.docs.now in
    let next = next_length (gaps_of c.args.docs.now) c.loop-at.at c.selector_at.result.number (omega (arith, long, c.loop-at-test.true)) c.selector_at.ensures.selector in
    record {
      within = omega (arith, c.count-at.ensures, c.selector_at.ensures.few);
      below = λ some. omega (arith, c.if-bytes-limit.false);
      all = rw c.count-at.ensures (omega (arith, next, c.loop-at.invariant.all));
    }

pub returns-clause-some : goal.returns-clause-some
returns-clause-some c =
    let long = length-gaps_from 0 c.args.docs.now in
    let none : drop c.loop-at.at (gaps_of c.args.docs.now) ≡ [] = drop_all c.loop-at.at (gaps_of c.args.docs.now) (omega (arith, long, c.loop-at-test.false)) in
    let bytes = ap (λ (gaps : List ℕ). length (spelled_words gaps)) none ∙ ap length no_words in
    (omega (arith, bytes, c.loop-at.invariant.all), c.loop-at.invariant.below (omega (arith, c.loop-at-test.false, c.requires.some)))
