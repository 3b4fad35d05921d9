use Rattle.shared_lemmas.proofs.Common.{length, arith, ◌≡◌, ◌+◌, ◌-◌, suc, ap, sym, ◌∙◌, map, List, ℕ, ◌∷◌, [], subst, All, map_push, length-append, All-push}
use Rattle.index_layout.specs.Reading.{read_names, name_in}
use Rattle.index_file.specs.Private.Outlines.{EndsBefore}
use Rattle.index_file.proofs.Sequences.{with_names, names_on}
use Rattle.index_file.proofs.names.read_names.Goals as goal

pub names-preserved : goal.names-preserved
names-preserved c =
    let bytes = c.args.bytes.now in
    let places = c.names.places in
    let put = c.in-Ok.ensures.ok in
    let left = c.args.docs - (c.names.counter + 1) in
    let more : c.args.docs - c.names.counter ≡ suc left = omega arith in
    record {
      read = names_on bytes (read_names bytes c.args.docs 40) (map (name_in bytes) places) (c.args.docs - c.names.counter) left c.names.at c.in_ok-next.next c.names.invariant.read more c.in_ok-next.ensures.exact
          ∙ ap (λ (front : List (List ℕ)). with_names front (read_names bytes left c.in_ok-next.next)) (sym (map_push (name_in bytes) places c.names.at) ∙ ap (map (name_in bytes)) (sym put));
      start = omega (arith, c.names.invariant.start, c.in_ok-next.ensures.next);
      at = c.in_ok-next.ensures.within;
      count = ap length put ∙ length-append places (c.names.at ∷ []) ∙ omega (arith, c.names.invariant.count);
      before = subst (All (EndsBefore bytes c.in_ok-next.next)) (sym put) (All-push (EndsBefore bytes c.in_ok-next.next) places c.names.at
          (λ i d inside. (let e = c.names.invariant.before i d inside in omega (arith, e, c.in_ok-next.ensures.next))) (omega (arith, c.in_ok-next.ensures.next)));
    }
