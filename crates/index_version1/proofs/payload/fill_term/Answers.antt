use Rattle.shared_lemmas.proofs.Common.{arith, List, map, ap, sym, ◌∙◌, [], length-map}
use Rattle.index_layout.specs.Reading.{read_segments}
use Rattle.index_version1.specs.declared.head.Head.{Head}
use Rattle.index_version1.specs.Private.Tables.{head_data}
use Rattle.index_version1.proofs.Filling.{segments_fit}
use Rattle.index_version1.proofs.payload.fill_term.Goals as goal

pub invariant_of-result : goal.invariant_of-result
invariant_of-result c =
    let old = c.args.old in
    let bytes = c.args.bytes.now in
    let fit = segments_fit c.payloads_are_read.ensures.only bytes c.args.d (map head_data old.heads) c.args.from c.in_ok-segments.end c.in_ok-segments.segments (λ i. (let h = c.type_inv.bytes i in omega (arith, h))) c.requires.limit c.requires.fall c.requires.from
    (ap (λ (hs : List Head). read_segments bytes c.args.d [] (map head_data hs) c.args.from) (sym c.as_slice.ensures) ∙ c.in_ok-segments.ensures.exact) in
    record {
      term_fits = old.fits;
      term_is_text = old.is_text;
      some = omega (arith, fit.count, length-map old.heads head_data, c.requires.some);
      falling = fit.falling;
      once = fit.once;
    }
