-- A payload of a word's bytes or fewer is no longer than that of words.
use Rattle.std.proofs.Common.{◌≤◌, ℕ, sym, ap, ◌∙◌, subst}
use Rattle.segment_codecs.specs.Codecs.{payload_size, without_words}
use Rattle.segment_codecs.proofs.Sizes.{words_no_shorter}
use Rattle.segment_codecs.proofs.choosing.shortest.Goals as goal

pub returns-then-best-le-WORD-clause-codec : goal.returns-then-best-le-WORD-clause-codec
returns-then-best-le-WORD-clause-codec c =
    let size : payload_size c.args.d c.args.docs.now (without_words c.args.d c.args.docs.now) ≤ 8 =
    subst (λ (n : ℕ). n ≤ 8) (c.shortest_without_words-best.ensures.size ∙ ap (payload_size c.args.d c.args.docs.now) c.shortest_without_words-best.ensures.codec) c.if-best-le-WORD.true in
    c.shortest_without_words-best.ensures.codec ∙ sym (words_no_shorter c.args.d c.args.docs.now (without_words c.args.d c.args.docs.now) c.requires size)

pub returns-then-best-le-WORD-clause-size : goal.returns-then-best-le-WORD-clause-size
returns-then-best-le-WORD-clause-size c = c.shortest_without_words-best.ensures.size ∙ ap (payload_size c.args.d c.args.docs.now) (returns-then-best-le-WORD-clause-codec c)
