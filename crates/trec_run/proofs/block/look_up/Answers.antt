use Rattle.shared_lemmas.proofs.Common.{rules, ℕ, List, Bor, ◌<◌, Some, ap, sym, ◌∙◌, length-set, subst}
use Rattle.jass_base.specs.declared.answer.Hit.{Hit}
use Rattle.trec_run.proofs.Named.{name_more, longest_more}
use Rattle.trec_run.proofs.block.look_up.Goals as goal

pub loop-i-preserved : goal.loop-i-preserved
loop-i-preserved g c =
    let i : ℕ = c.loop-i.i in
    let d : Hit = record { doc = 0; score = 0 } in
    let name : Bor (List ℕ) = c.as_bytes-name.result in
    record {
      places = length-set c.loop-i.names i name ∙ c.loop-i.invariant.places;
      names = name_more (g.N.Names.names c.args.index.now) c.args.hits.now c.loop-i.names i d c.loop-i-test.true c.loop-i.invariant.places name (c.name.ensures ∙ ap Some (sym c.as_bytes-name.ensures.value)) c.loop-i.invariant.names;
      longest = longest_more c.loop-i.names i c.loop-i.longest c.max-longest.result name (subst (λ n. i < n) (sym c.loop-i.invariant.places) c.loop-i-test.true) (search rules) (search rules) c.loop-i.invariant.longest;
    }
