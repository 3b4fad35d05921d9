use Rattle.shared_lemmas.proofs.Common.{arith, map, None, sym, ◌∙◌, length-map}
use Rattle.index_layout.specs.Reading.{TermsRead}
use Rattle.index_version1.specs.Private.Tables.{term_heads}
use Rattle.index_version1.proofs.OldTerms.{terms1_only}
use Rattle.index_version1.proofs.parts.read_rising.Goals as goal

pub returns-in-Ok-clause-rise : goal.returns-in-Ok-clause-rise
returns-in-Ok-clause-rise c =
    let x : TermsRead = record { terms = map term_heads c.in-Ok.read.0; end = c.in-Ok.read.1 } in
    (terms1_only c.codecs_have_their_numbers.ensures.only c.args.bytes.now c.args.docs c.args.count None c.args.from x (λ i. (let h = c.type_inv.bytes i in omega (arith, h))) c.requires.from c.in-Ok.ensures.exact).rise

pub returns-in-Ok-clause-count : goal.returns-in-Ok-clause-count
returns-in-Ok-clause-count c =
    let x : TermsRead = record { terms = map term_heads c.in-Ok.read.0; end = c.in-Ok.read.1 } in
    sym (length-map c.in-Ok.read.0 term_heads)
    ∙ (terms1_only c.codecs_have_their_numbers.ensures.only c.args.bytes.now c.args.docs c.args.count None c.args.from x (λ i. (let h = c.type_inv.bytes i in omega (arith, h))) c.requires.from c.in-Ok.ensures.exact).count
