use Rattle.shared_lemmas.proofs.Common.{◌≡◌, ℕ, List, [], drop, length, ap, ◌∙◌, arith, drop_all}
use Rattle.jass_base.proofs.Gaps.{length-gaps_from, docs_few}
use Rattle.jass_base.specs.Gaps.{gaps_of}
use Rattle.codec_simple8.specs.Simple8.{spelled_words}
use Rattle.codec_simple8.proofs.Tables.{count_some}
use Rattle.codec_simple8.proofs.Words.{no_words}
use Rattle.codec_simple8.proofs.WordParts.{next_length, bytes_few}
use Rattle.codec_simple8.proofs.encoding.length.Goals as goal

pub overflow_add-words : goal.overflow_add-words
overflow_add-words c =
    let long = length-gaps_from 0 c.args.docs.now in
    let few = docs_few c.args.d c.args.docs.now c.requires in
    let most = bytes_few (gaps_of c.args.docs.now) in
    record { fits = omega (arith, long, few, most, c.loop-at.invariant.1) }

pub overflow_mul-result : goal.overflow_mul-result
overflow_mul-result c =
    let long = length-gaps_from 0 c.args.docs.now in
    let few = docs_few c.args.d c.args.docs.now c.requires in
    let most = bytes_few (gaps_of c.args.docs.now) in
    record { fits = omega (arith, long, few, most, c.loop-at.invariant.1) }

pub loop-at-smaller : goal.loop-at-smaller
loop-at-smaller c = omega (arith, c.count-at.ensures, count_some c.selector_at.result.number c.selector_at.result.few, c.loop-at-test.true, c.selector_at.ensures.few)

pub loop-at-preserved : goal.loop-at-preserved
loop-at-preserved c =
    let long = length-gaps_from 0 c.args.docs.now in
    let next = next_length (gaps_of c.args.docs.now) c.loop-at.at c.selector_at.result.number (omega (arith, long, c.loop-at-test.true)) c.selector_at.ensures.selector in
    (omega (arith, c.count-at.ensures, c.selector_at.ensures.few), rw c.count-at.ensures (omega (arith, next, c.loop-at.invariant.1)))

pub returns : goal.returns
returns c =
    let long = length-gaps_from 0 c.args.docs.now in
    let none : drop c.loop-at.at (gaps_of c.args.docs.now) ≡ [] = drop_all c.loop-at.at (gaps_of c.args.docs.now) (omega (arith, long, c.loop-at-test.false)) in
    omega (arith, c.loop-at.invariant.1, ap (λ (gaps : List ℕ). length (spelled_words gaps)) none ∙ ap length no_words)
