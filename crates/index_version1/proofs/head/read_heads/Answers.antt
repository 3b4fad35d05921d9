use Rattle.shared_lemmas.proofs.Common.{◌≡◌, ◌+◌, ◌-◌, suc, List, map, ap, sym, ◌∙◌, arith, map_push}
use Rattle.index_version1.proofs.Below.{HeadData, read_heads, with_heads, heads_on}
use Rattle.index_version1.specs.Private.Tables.{head_data}
use Rattle.index_version1.proofs.head.read_heads.Goals as goal

pub heads-preserved : goal.heads-preserved
heads-preserved c =
    let bytes = c.args.bytes.now in
    let d = c.args.docs in
    let at = c.heads.at in
    let h = c.in_ok-head.head in
    let left = c.args.count - (c.heads.counter + 1) in
    let more : c.args.count - c.heads.counter ≡ suc left = omega arith in
    record {
      read = heads_on bytes d (read_heads bytes d c.args.count 65536 c.args.from) (map head_data c.heads.heads) (c.args.count - c.heads.counter) left c.heads.above at (at + 11) (head_data h) c.heads.invariant.read more c.in_ok-head.ensures.exact c.in_ok-head.ensures.head
          ∙ ap (λ (front : List HeadData). with_heads front (read_heads bytes d left h.impact (at + 11))) (sym (map_push head_data c.heads.heads h) ∙ ap (map head_data) (sym c.in-Ok.ensures.ok))
          ∙ ap (λ n. with_heads (map head_data c.push.new.self) (read_heads bytes d left n (at + 11))) (sym c.from-above.ensures);
      at = c.in_ok-head.ensures.within;
    }
