-- The characters that are collected are those of the text.
use Rattle.shared_lemmas.proofs.Common.{◌∙◌, ◌≡◌, subst, items_from_collect, YieldsList-from_chars, IfOk, chars}
use Rattle.query_reader.specs.Texts.{folded_mentions}
use Rattle.query_reader.specs.Private.Tally.{CountsIn, all_counted_in}
use Rattle.query_reader.proofs.folded.count_folded.Goals as goal

pub returns : goal.returns
returns g c =
    let terms = g.X.Lexicon.terms c.args.index.now in let text = c.args.text.now in
    let collected = items_from_collect c.collect.result c.collect.ensures.ran (YieldsList-from_chars text c.utf8.text c.chars.ensures.rest) in
    let items = subst (λ r. IfOk r (λ v. v.items ≡ chars text)) c.in-Ok.is collected in
    subst (λ cs. CountsIn (all_counted_in terms c.args.tally.now (folded_mentions cs)) c.count_characters.new.tally c.count_characters.result) (c.as_slice.ensures.value ∙ items) c.count_characters.ensures
