use Rattle.std.proofs.Common.{◌∙◌, ◌<◌, ℕ, List, All, sym, subst, arith}
use Rattle.jass_base.specs.Gaps.{gaps_of}
use Rattle.plain_codecs.proofs.varbyte.cursor.Cursor.new.Goals as goal

pub returns : goal.returns
returns c = λ bytes docs are long is.
    let limit = are.limit in
    let d = c.args.d in
    let again = c.gaps_and_docs_are_inverse.ensures.docs 0 docs are.rising (λ k e h. omega arith) in
    let below = subst (λ (xs : List ℕ). All (λ doc. doc < d) xs) (sym again) are.below in
    record {
      gaps = gaps_of docs;
      docs_are = sym again;
      left = sym (c.gaps_of_docs.ensures.count 0 docs ∙ long);
      within = omega arith;
      spelled = is;
      room = omega (arith, (c.docs_of_gaps.ensures.below d 0 (gaps_of docs) (omega arith)).0 below);
    }
