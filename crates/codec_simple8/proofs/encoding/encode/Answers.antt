use Rattle.shared_lemmas.proofs.Common.{◌≡◌, ℕ, ◌+◌, ◌≤◌, List, [], ◌++◌, take, drop, length, sym, ap, ◌∙◌, append_assoc, append-nil, arith, w64, to_le_bytes, drop_all, take-append-le, length-take}
use Rattle.jass_base.proofs.Gaps.{length-gaps_from}
use Rattle.jass_base.specs.Gaps.{gaps_of}
use Rattle.codec_simple8.specs.Simple8.{count_of, word_of, spelled_words}
use Rattle.codec_simple8.proofs.Tables.{count_some}
use Rattle.codec_simple8.proofs.Words.{no_words}
use Rattle.codec_simple8.proofs.WordParts.{next_word}
use Rattle.codec_simple8.proofs.encoding.encode.Goals as goal

pub loop-at-smaller : goal.loop-at-smaller
loop-at-smaller c = omega (arith, c.count-at.ensures, count_some c.selector_at-selector.result.number c.selector_at-selector.result.few, c.loop-at-test.true, c.selector_at-selector.ensures.few)

pub loop-at-preserved : goal.loop-at-preserved
loop-at-preserved c =
    let long = length-gaps_from 0 c.args.docs.now in
    let next = next_word (gaps_of c.args.docs.now) c.loop-at.at c.selector_at-selector.result.number (omega (arith, long, c.loop-at-test.true)) c.selector_at-selector.ensures.selector in
    let put : c.extend.new.self ≡ c.loop-at.out ++ to_le_bytes w64 (word_of c.selector_at-selector.result.number (drop c.loop-at.at (gaps_of c.args.docs.now))) =
    c.in-Ok.ensures.ok ∙ ap (λ (bytes : List ℕ). c.loop-at.out ++ bytes) (c.to_le_bytes.ensures ∙ ap (to_le_bytes w64) c.word_from-word.ensures) in
    let same_length = length-take c.len-start.result c.loop-at.out in
    let same_length' = ap length c.loop-at.invariant.front in
    let reach : c.len-start.result ≤ length c.loop-at.out = omega (arith, same_length, same_length', c.len-start.ensures) in
    record {
      within = omega (arith, c.count-at.ensures, c.selector_at-selector.ensures.few);
      front = ap (take c.len-start.result) put ∙ take-append-le c.len-start.result c.loop-at.out (to_le_bytes w64 (word_of c.selector_at-selector.result.number (drop c.loop-at.at (gaps_of c.args.docs.now)))) reach ∙ c.loop-at.invariant.front;
      all = rw c.count-at.ensures (
          ap (λ (bytes : List ℕ). bytes ++ spelled_words (drop (c.loop-at.at + count_of c.selector_at-selector.result.number) (gaps_of c.args.docs.now))) put
          ∙ append_assoc c.loop-at.out (to_le_bytes w64 (word_of c.selector_at-selector.result.number (drop c.loop-at.at (gaps_of c.args.docs.now)))) (spelled_words (drop (c.loop-at.at + count_of c.selector_at-selector.result.number) (gaps_of c.args.docs.now)))
          ∙ ap (λ (bytes : List ℕ). c.loop-at.out ++ bytes) (sym next) ∙ c.loop-at.invariant.all
          );
    }

pub returns : goal.returns
returns c =
    let long = length-gaps_from 0 c.args.docs.now in
    let none : drop c.loop-at.at (gaps_of c.args.docs.now) ≡ [] = drop_all c.loop-at.at (gaps_of c.args.docs.now) (omega (arith, long, c.loop-at-test.false)) in
    record { ok = sym (append-nil c.loop-at.out) ∙ ap (λ (rest : List ℕ). c.loop-at.out ++ rest) (sym (ap spelled_words none ∙ no_words)) ∙ c.loop-at.invariant.all; err = tt }
