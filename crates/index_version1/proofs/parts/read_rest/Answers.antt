use Rattle.std.proofs.Common.{arith, List, map, ap, ◌∙◌}
use Rattle.index_layout.specs.Heads.{greatest_impact}
use Rattle.index_version1.specs.declared.old_term.OldTerm.{OldTerm}
use Rattle.index_version1.specs.Private.Tables.{term_heads}
use Rattle.index_version1.proofs.Parting.{greatest_read}
use Rattle.index_version1.proofs.parts.read_rest.Goals as goal

pub returns-clause-greatest : goal.returns-clause-greatest
returns-clause-greatest c =
    c.greatest-greatest.ensures ∙ ap (λ (ts : List OldTerm). greatest_impact (map term_heads ts)) c.as_slice-2.ensures
    ∙ greatest_read c.payloads_are_read.ensures.only c.args.bytes.now c.args.docs (map term_heads c.args.rows) c.args.at c.in_ok-terms.end c.in_ok-terms.terms (λ i. (let h = c.type_inv.bytes i in omega (arith, h)))
    c.requires.limit c.requires.rise c.requires.at c.in_ok-terms.ensures.exact
