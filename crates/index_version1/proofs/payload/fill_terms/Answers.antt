use Rattle.std.proofs.Common.{arith, ◌≡◌, ◌+◌, ◌∷◌, List, length, map, ap, Some}
use Rattle.index_layout.specs.Reading.{read_payloads}
use Rattle.index_version1.specs.declared.old_term.OldTerm.{OldTerm}
use Rattle.index_version1.specs.Private.Tables.{term_heads}
use Rattle.index_version1.proofs.PayloadSteps.{filled_on, first_heads}
use Rattle.index_version1.proofs.payload.fill_terms.Goals as goal

pub loop-term-preserved : goal.loop-term-preserved
loop-term-preserved c =
    let bytes = c.args.bytes.now in
    let d = c.args.d in
    let old : OldTerm = c.in-Some.term in
    let from : List OldTerm = c.loop-term.term-iterator.rest.items in
    let rest : List OldTerm = c.next.new.self.rest.items in
    let split : from ≡ old ∷ rest = c.in-Some.ensures.steps.0 in
    let first = first_heads d c.loop-term.invariant.rise.0 old from rest split c.loop-term.invariant.rise.1 in
    record {
      read = filled_on bytes d (read_payloads bytes d (map term_heads c.args.terms) c.args.from) c.loop-term.filled c.push.new.self c.in_ok-term.term old from rest c.loop-term.at c.in_ok-term.end
          c.in-Ok.ensures.ok split c.loop-term.invariant.read c.in_ok-term.ensures.term c.in_ok-term.ensures.exact;
      at = c.in_ok-term.ensures.end;
      rise = (Some old.term, first.2);
      marks = c.in_ok-term.ensures.most (c.loop-term.mark + 1) (λ k x inside. (let e = c.loop-term.invariant.marks k x inside in omega (arith, e))) (omega arith);
      size = omega arith;
      few = omega (arith, ap length split);
    }
