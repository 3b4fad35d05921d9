use Rattle.shared_lemmas.proofs.Common.{◌<◌, length, arith, string_bytes, length-map, slice_get_within}
use Rattle.jass_words.specs.Words.{texts}
use Rattle.jass_words.proofs.Terms.{one_more}
use Rattle.jass_words.proofs.term_words.terms_in.Goals as goal

pub loop-place-preserved : goal.loop-place-preserved
loop-place-preserved c =
    one_more c.args.words.now c.loop-place.place c.index-words-place.result c.loop-place-test.true c.index-words-place.is (omega (arith, c.len.ensures, c.if-len-gt-LONGEST_TERM.false)) c.loop-place.invariant

pub returns-clause-next : goal.returns-clause-next
returns-clause-next c = λ word at. (let within : length c.args.words.now < length (texts c.args.words.now) = slice_get_within (texts c.args.words.now) (length c.args.words.now) word at in
    omega (arith, within, length-map c.args.words.now string_bytes))
