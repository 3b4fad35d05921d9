use Rattle.shared_lemmas.proofs.Common.{rules, ℕ, ◌≡◌, ◌+◌, ◌-◌, suc, sym, ◌∙◌, arith}
use Rattle.index_layout.specs.Reading.{read_names}
use Rattle.index_check.proofs.NameLists.{names_more, names_stop}
use Rattle.index_file.proofs.ContentReads.{content_same}
use Rattle.index_check.proofs.names.check_names.Goals as goal

pub returns-in_err-at-clause-exact : goal.returns-in_err-at-clause-exact
returns-in_err-at-clause-exact g c =
    λ content is holds.
    let left : ℕ = c.args.docs - (c.names.counter + 1) in
    let more : c.args.docs - c.names.counter ≡ suc left = omega (arith, c.names-test.true) in
    let then = content_same _ _ c.args.name.now content (sym c.names.invariant.reads.stays) is in
    search (
      rules,
      names_stop content (read_names content c.args.docs 40) (c.args.docs - c.names.counter) left c.names.at _ more (c.names.invariant.read content is holds)
          (c.in_err-at.ensures.exact content then (c.names.invariant.held content is holds)),
    )

pub names-preserved : goal.names-preserved
names-preserved g c =
    let left : ℕ = c.args.docs - (c.names.counter + 1) in
    let more : c.args.docs - c.names.counter ≡ suc left = omega (arith, c.names-test.true) in
    record {
      read = λ content is holds. names_more content (read_names content c.args.docs 40) (c.args.docs - c.names.counter) left c.names.at c.in_ok-at.at more (c.names.invariant.read content is holds)
          (c.in_ok-at.ensures.exact content (content_same _ _ c.args.name.now content (sym c.names.invariant.reads.stays) is) (c.names.invariant.held content is holds));
      at = omega (arith, c.in_ok-at.ensures.within, c.in_ok-at.ensures.size);
      held = λ content is holds. c.in_ok-at.ensures.held content (content_same _ _ c.args.name.now content (sym c.names.invariant.reads.stays) is) (c.names.invariant.held content is holds);
      size = c.in_ok-at.ensures.size ∙ c.names.invariant.size;
      reads = search rules;
    }
