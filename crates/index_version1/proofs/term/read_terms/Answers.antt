use Rattle.std.proofs.Common.{◌≡◌, ◌+◌, ◌-◌, suc, List, None, ap, sym, ◌∙◌, arith}
use Rattle.index_layout.specs.Reading.{read_heads}
use Rattle.index_version1.specs.Reading.{read_terms1, term1_end}
use Rattle.index_version1.specs.Private.Tables.{before_of}
use Rattle.index_version1.specs.declared.old_term.OldTerm.{OldTerm}
use Rattle.index_version1.proofs.TermSteps.{old_turn}
use Rattle.index_version1.proofs.term.read_terms.Goals as goal

pub terms-preserved : goal.terms-preserved
terms-preserved c =
    let bytes = c.args.bytes.now in
    let d = c.args.docs in
    let left = c.args.count - (c.terms.counter + 1) in
    let more : c.args.count - c.terms.counter ≡ suc left = omega arith in
    record {
      read = old_turn bytes d (read_terms1 bytes d c.args.count None c.args.from) c.terms.terms c.push.new.self _ (c.args.count - c.terms.counter) left c.terms.at c.in_ok-term.place c.in_ok-heads.end
          c.in-Ok.ensures.ok c.terms.invariant.read more (ap (λ (ts : List OldTerm). term1_end bytes (before_of ts) c.terms.at) (sym c.as_slice.ensures) ∙ c.in_ok-term.ensures.exact) c.in_ok-term.ensures.term
          (ap (λ n. read_heads bytes d n 65536 c.in_ok-term.place) (sym c.in_ok-term.ensures.heads) ∙ c.in_ok-heads.ensures.exact);
      at = c.in_ok-heads.ensures.end;
    }
