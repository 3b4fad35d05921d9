use Rattle.std.proofs.Common.{rules, ◌≡◌, Err, length, sym, subst}
use Rattle.std.specs.Prelude.{⊤}
use Rattle.index_file.proofs.Below.{OnContent}
use Rattle.index_file.proofs.Contents.{on_each, opens_refused}
use Rattle.index_file.proofs.opening.open.Goals as goal

pub returns-in_err-front-clause-exact : goal.returns-in_err-front-clause-exact
returns-in_err-front-clause-exact g c =
    let fault = c.in_err-front.field-0.0 in
    let out : c.from_residual.result ≡ Err fault = search rules in
    rw out (opens_refused (g.C.Cabinet.told c.args.files.now) c.args.name.now fault c.in_err-front.ensures.there c.in_err-front.ensures.exact)

pub open_parts-requires : goal.open_parts-requires
open_parts-requires g c = record {
  size = c.in_ok-front.ensures.size.1;
  told = subst (λ files. OnContent files c.args.name.now (λ content. c.in_ok-front.front.size ≡ length content)) (sym c.in_ok-front.ensures.reads.stays)
      (on_each (g.C.Cabinet.told c.args.files.now) c.args.name.now (λ content. ⊤) (λ content. c.in_ok-front.front.size ≡ length content)
      (λ content told any. (c.in_ok-front.ensures.exact content told).1) c.in_ok-front.ensures.there);
}
