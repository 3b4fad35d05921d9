use Rattle.shared_lemmas.proofs.Common.{◌-◌, ◌≤◌, arith}
use Rattle.codec_simple8.specs.Simple8.{count_of, width_of}
use Rattle.codec_simple8.proofs.Fours.{first_docs}
use Rattle.codec_simple8.proofs.Tables.{four_rows, two_rows}
use Rattle.codec_simple8.proofs.eights.put_eights.Goals as goal

pub returns-then-selector-le7-clause-docs : goal.returns-then-selector-le7-clause-docs
returns-then-selector-le7-clause-docs c =
    let most = four_rows c.args.selector.number c.requires.from c.if-selector-le7.true in
    first_docs (width_of c.args.selector.number) 16 (count_of c.args.selector.number) (16 - count_of c.args.selector.number) c.args.filled c.args.values c.args.least c.args.out.now c.put_sixteen.new.out
    (omega (arith, most)) (omega (arith, c.requires.room)) c.put_sixteen.ensures.docs

pub returns-else-selector-le7-clause-docs : goal.returns-else-selector-le7-clause-docs
returns-else-selector-le7-clause-docs c =
    let from : 8 ≤ c.args.selector.number = omega (arith, c.if-selector-le7.false) in
    let most = two_rows c.args.selector.number from c.requires.to in
    first_docs (width_of c.args.selector.number) 8 (count_of c.args.selector.number) (8 - count_of c.args.selector.number) c.args.filled c.args.values c.args.least c.args.out.now c.put_eight.new.out
    (omega (arith, most)) (omega (arith, c.requires.room)) c.put_eight.ensures.docs
