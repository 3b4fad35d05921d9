use Rattle.shared_lemmas.proofs.Common.{◌≡◌, ◌+◌, ◌<◌, ◌≤◌, drop, length, get_or, bit_or, sym, ap, ◌∙◌, arith, get_or-drop}
use Rattle.jass_base.specs.Gaps.{gaps_of}
use Rattle.codec_simple8.proofs.GapLists.{left_length}
use Rattle.codec_simple8.proofs.Tables.{count_most}
use Rattle.codec_simple8.proofs.Trying.{fails_few, first_fits, joined_first, joined_more, past_fails, ends}
use Rattle.codec_simple8.proofs.encoding.fitting.Goals as goal

pub loop-seen-init : goal.loop-seen-init
loop-seen-init c =
    let long = left_length c.args.docs.now c.args.at in
    let here : c.args.at ≡ c.args.at + 0 = omega arith in
    let gap : c.gap_at-bits.result ≡ get_or (drop c.args.at (gaps_of c.args.docs.now)) 0 0 =
    c.gap_at-bits.ensures.gap ∙ ap (λ k. get_or (gaps_of c.args.docs.now) k 0) here ∙ sym (get_or-drop c.args.at (gaps_of c.args.docs.now) 0 0) in
    record {
      some = omega arith;
      most = omega (arith, c.min-left.ensures, c.requires.within);
      fitting = record {
        joined = joined_first (drop c.args.at (gaps_of c.args.docs.now)) c.gap_at-bits.result (omega (arith, long, c.requires.within)) gap;
        fit = λ s small few. first_fits c.gap_at-bits.result s small few c.gap_at-bits.ensures.small;
      };
    }

pub loop-seen-preserved : goal.loop-seen-preserved
loop-seen-preserved c =
    let long = left_length c.args.docs.now c.args.at in
    let before = c.loop-seen.invariant.fitting in
    let gap : c.later_gap-bits.result ≡ get_or (drop c.args.at (gaps_of c.args.docs.now)) c.loop-seen.seen 0 =
    c.later_gap-bits.ensures.gap ∙ sym (get_or-drop c.args.at (gaps_of c.args.docs.now) c.loop-seen.seen 0) in
    record {
      some = omega arith;
      most = omega (arith, c.loop-seen-test.true);
      fitting = record {
        joined = joined_more (drop c.args.at (gaps_of c.args.docs.now)) c.loop-seen.seen c.loop-seen.bits c.later_gap-bits.result
            (omega (arith, long, c.loop-seen-test.true, c.min-left.ensures)) gap before.joined;
        fit = λ s small few. omega (arith, c.limit_behind.ensures.within s small few, c.if-bits-limit_behind.false);
      };
    }

pub returns-then-bits-limit_behind-clause-exact : goal.returns-then-bits-limit_behind-clause-exact
returns-then-bits-limit_behind-clause-exact c =
    let long = left_length c.args.docs.now c.args.at in
    let before = c.loop-seen.invariant.fitting in
    let gap : c.later_gap-bits.result ≡ get_or (drop c.args.at (gaps_of c.args.docs.now)) c.loop-seen.seen 0 =
    c.later_gap-bits.ensures.gap ∙ sym (get_or-drop c.args.at (gaps_of c.args.docs.now) c.loop-seen.seen 0) in
    let within : c.loop-seen.seen < length (drop c.args.at (gaps_of c.args.docs.now)) = omega (arith, long, c.loop-seen-test.true, c.min-left.ensures) in
    let joined = joined_more (drop c.args.at (gaps_of c.args.docs.now)) c.loop-seen.seen c.loop-seen.bits c.later_gap-bits.result within gap before.joined in
    ends (drop c.args.at (gaps_of c.args.docs.now)) c.loop-seen.seen c.loop-seen.bits before (omega (arith, within))
    (λ s small more. past_fails (drop c.args.at (gaps_of c.args.docs.now)) (c.loop-seen.seen + 1) (bit_or c.loop-seen.bits c.later_gap-bits.result) s joined (omega (arith, more))
    (omega (arith, c.limit_behind.ensures.past s small more, c.if-bits-limit_behind.true)))

pub returns-clause-exact : goal.returns-clause-exact
returns-clause-exact c =
    let long = left_length c.args.docs.now c.args.at in
    let inv = c.loop-seen.invariant in
    let within : c.loop-seen.seen ≤ length (drop c.args.at (gaps_of c.args.docs.now)) = omega (arith, long, inv.most, c.min-left.ensures) in
    ends (drop c.args.at (gaps_of c.args.docs.now)) c.loop-seen.seen c.loop-seen.bits inv.fitting within
    (λ s small more. fails_few (drop c.args.at (gaps_of c.args.docs.now)) s (omega (arith, long, more, count_most s small, inv.most, c.loop-seen-test.false, c.min-left.ensures)))
