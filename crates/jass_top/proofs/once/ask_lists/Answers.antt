use Rattle.std.proofs.Common.{◌≡◌, subst, ap, ◌∙◌}
use Rattle.jass_top.proofs.Below.{IndexData, Tf, collection_data, index_data, texts}
use Rattle.asked_lists.specs.Asked.{asked_of}
use Rattle.jass_top.specs.Private.Causes.{Runs}
use Rattle.jass_top.specs.Private.HeldIndexes.{asking_meaning}
use Rattle.jass_top.specs.Private.OnceTexts.{once_index, once_of}
use Rattle.jass_top.specs.Private.Worlds.{with_output, with_steps}
use Rattle.jass_top.proofs.AskedLists.{asked_runs}
use Rattle.jass_top.proofs.once.ask_lists.Goals as goal

pub returns : goal.returns
returns g c = λ beside.
    let all = collection_data c.args.collection in let words = texts c.args.question.terms.now in let query = once_of c.args.question in
    let before = with_output g.O.Sink c.args.out.now (with_steps c.args.steps.now beside) in
    let after = with_output g.O.Sink c.ask_made-answered.new.out (with_steps c.ask_made-answered.new.steps beside) in
    let made : index_data c.in-Ok-made.index ≡ once_index (asked_of all words) = c.in-Ok-made.ensures.made ∙ ap once_index c.in-Ok.ensures.asked in
    asked_runs c.args.input.now query (once_index (asked_of all words)) (once_index all) c.requires.fits_asked c.requires.fits (c.asked_lists_answer_alike.ensures.collection c.args.collection Tf words) before after c.ask_made-answered.result
    (subst (λ (index : IndexData). Runs (asking_meaning c.args.input.now index query) before after c.ask_made-answered.result) made (c.ask_made-answered.ensures beside))
