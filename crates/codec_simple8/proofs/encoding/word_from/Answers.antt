use Rattle.shared_lemmas.proofs.Common.{◌≡◌, ℕ, ◌+◌, ◌-◌, ◌*◌, ◌<◌, ◌≤◌, ◌^◌, List, take, drop, length, get_or, true, sym, ap, subst, ◌∙◌, arith, number_l, get_or-drop, get_or-take, length-take-le}
use Rattle.jass_base.specs.Gaps.{AreDocs, gaps_of}
use Rattle.codec_simple8.specs.Simple8.{count_of, width_of, takes, selector_of}
use Rattle.codec_simple8.proofs.GapLists.{left_length, docs_gaps_below, Below-drop}
use Rattle.codec_simple8.proofs.Selectors.{selector_takes}
use Rattle.codec_simple8.proofs.Tables.{width_most, count_some, bits_most}
use Rattle.codec_simple8.proofs.Words.{takes_enough, takes_narrow}
use Rattle.codec_simple8.proofs.WordParts.{value_put, selector_put}
use Rattle.codec_simple8.proofs.encoding.word_from.Goals as goal

pub overflow_shl-values : goal.overflow_shl-values
overflow_shl-values c = omega (arith, c.width-width.ensures, width_most c.args.selector.number c.args.selector.few)

-- the selector takes the gaps
taken : (docs : List ℕ) (at s d : ℕ) → AreDocs d docs → s < 16 → s ≡ selector_of (drop at (gaps_of docs)) → at + count_of s ≤ length docs → takes s (drop at (gaps_of docs)) ≡ true
taken docs at s d are small is few =
    let some = count_some s small in
    let long = left_length docs at in
    subst (λ t. takes t (drop at (gaps_of docs)) ≡ true) (sym is)
    (selector_takes (drop at (gaps_of docs)) (omega (arith, long, some, few)) (Below-drop (2 ^ 26) at (gaps_of docs) (docs_gaps_below d docs are)))

pub loop-i-preserved : goal.loop-i-preserved
loop-i-preserved c =
    let takes_them = taken c.args.docs.now c.args.at c.args.selector.number c.requires.docs.0 c.requires.docs.1 c.args.selector.few c.requires.selector c.requires.few in
    let long = length-take-le (count_of c.args.selector.number) (drop c.args.at (gaps_of c.args.docs.now)) (takes_enough c.args.selector.number (drop c.args.at (gaps_of c.args.docs.now)) takes_them) in
    let short : width_of c.args.selector.number * length (take (count_of c.args.selector.number) (drop c.args.at (gaps_of c.args.docs.now))) ≤ 60 = rw long (bits_most c.args.selector.number c.args.selector.few) in
    let put = value_put (width_of c.args.selector.number) c.loop-i.i (take (count_of c.args.selector.number) (drop c.args.at (gaps_of c.args.docs.now)))
    (takes_narrow c.args.selector.number (drop c.args.at (gaps_of c.args.docs.now)) takes_them) short (omega (arith, c.loop-i-test.true))
    (omega (arith, long, c.loop-i.invariant.0)) in
    let value : c.from.result ≡ get_or (take (count_of c.args.selector.number) (drop c.args.at (gaps_of c.args.docs.now))) (c.loop-i.i - 1) 0 =
    c.from.ensures ∙ c.gap_at.ensures.gap ∙ sym (get_or-drop c.args.at (gaps_of c.args.docs.now) (c.loop-i.i - 1) 0) ∙ sym (get_or-take (count_of c.args.selector.number) (drop c.args.at (gaps_of c.args.docs.now)) (c.loop-i.i - 1) 0 (omega (arith, c.loop-i.invariant.0, c.loop-i-test.true))) in
    (omega (arith, c.loop-i.invariant.0), rw (c.width-width.ensures, value, c.loop-i.invariant.1) put)

pub returns : goal.returns
returns c =
    let takes_them = taken c.args.docs.now c.args.at c.args.selector.number c.requires.docs.0 c.requires.docs.1 c.args.selector.few c.requires.selector c.requires.few in
    let none : c.loop-i.i ≡ 0 = omega (arith, c.loop-i-test.false) in
    let values : c.loop-i.values ≡ number_l (2 ^ width_of c.args.selector.number) (take (count_of c.args.selector.number) (drop c.args.at (gaps_of c.args.docs.now))) =
    c.loop-i.invariant.1 ∙ ap (λ i. number_l (2 ^ width_of c.args.selector.number) (drop i (take (count_of c.args.selector.number) (drop c.args.at (gaps_of c.args.docs.now))))) none in
    rw values (selector_put c.args.selector.number (drop c.args.at (gaps_of c.args.docs.now)) c.args.selector.few takes_them)
