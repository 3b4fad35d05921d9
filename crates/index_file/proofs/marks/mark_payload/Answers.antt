use Rattle.shared_lemmas.proofs.Common.{◌<◌, ◌-◌, drop, ap, sym, ◌∙◌, arith, length-drop, All-drop}
use Rattle.index_file.specs.Marks.{marked, meets_marked}
use Rattle.index_file.proofs.MarkLists.{block_met, block_passed, block_marked}
use Rattle.index_file.proofs.marks.mark_payload.Goals as goal

pub returns-then-mark_docs-clause-met : goal.returns-then-mark_docs-clause-met
returns-then-mark_docs-clause-met c =
    let now = c.args.now in
    let marks = c.parts.marks in
    let left = c.parts.invariant in
    let n = c.next_block-given.result in
    let block = c.next_block-given.ensures.block left.rest left.given in
    sym (left.met ∙ block_met now n left.rest marks (ap (λ docs. meets_marked now docs marks) (sym block) ∙ sym c.mark_docs.ensures.met ∙ c.if-mark_docs.true))

pub parts-preserved : goal.parts-preserved
parts-preserved c =
    let now = c.args.now in
    let marks = c.parts.marks in
    let left = c.parts.invariant in
    let rest = left.rest in
    let n = c.next_block-given.result in
    let block = c.next_block-given.ensures.block rest left.given in
    let new = c.mark_docs.ensures.marks c.if-mark_docs.false ∙ ap (λ docs. marked now docs marks) block in
    let passed = ap (λ docs. meets_marked now docs marks) (sym block) ∙ sym c.mark_docs.ensures.met ∙ c.if-mark_docs.false in
    record {
      rest = drop n rest;
      given = c.next_block-given.ensures.rest rest left.given;
      many = length-drop n rest ∙ ap (λ k. k - n) left.many;
      below = All-drop (λ doc. doc < c.args.docs) n rest left.below;
      met = left.met ∙ block_passed now n rest marks passed ∙ ap (meets_marked now (drop n rest)) (sym new);
      same = left.same ∙ block_marked now n rest marks ∙ ap (marked now (drop n rest)) (sym new);
      count = (let l = c.mark_docs.ensures.count in let m = left.count in omega (arith, l, m));
    }
