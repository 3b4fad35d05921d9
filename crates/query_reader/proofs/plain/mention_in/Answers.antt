use Rattle.shared_lemmas.proofs.Common.{◌∙◌, sym, ap, option_map}
use Rattle.query_reader.specs.Private.Slices.{mention_data}
use Rattle.query_reader.proofs.Carets.{weighted-run, whole-run}
use Rattle.query_reader.proofs.plain.mention_in.Goals as goal

pub returns-in-Some : goal.returns-in-Some
returns-in-Some c = weighted-run c.args.run.now (mention_data c.in-Some.mention) (sym c.weighted_mention.ensures ∙ ap (option_map mention_data) c.in-Some.is)

pub returns-in-None : goal.returns-in-None
returns-in-None c = whole-run c.args.run.now (sym c.weighted_mention.ensures ∙ ap (option_map mention_data) c.in-None.is)
