use Rattle.shared_lemmas.proofs.Common.{◌<◌, ℕ, List, length, All, refl, subst, sym, arith, All-drop}
use Rattle.jass_base.specs.declared.answer.Hit.{Hit}
use Rattle.trec_run.specs.Private.Columns.{whole_tag}
use Rattle.gathered_text.proofs.Compose.{up_to_none, up_to_more, up_to_failed}
use Rattle.trec_run.proofs.Lines.{block_next}
use Rattle.trec_run.proofs.answer.gather_blocks.Goals as goal

pub loop-rest-init : goal.loop-rest-init
loop-rest-init g c = record { docs = c.requires; frame = c.frame_of-frame.ensures; ranked = refl; text = up_to_none c.args.out.now c.args.buffer.now _ }

pub returns-in_err-gather_block : goal.returns-in_err-gather_block
returns-in_err-gather_block g c =
    let names : List (List ℕ) = g.N.Names.names c.args.index.now in
    up_to_failed _ _ _ (block_next names c.args.shared.now.id.now (whole_tag c.args.shared.now) c.loop-rest.rest.now c.split_at.result.0.now c.split_at.result.1.now c.loop-rest.rank c.split_at.ensures.by_index.0)
    c.loop-rest.invariant.text c.from_residual.ensures.0 c.in_err-gather_block.ensures.text

pub loop-rest-preserved : goal.loop-rest-preserved
loop-rest-preserved g c =
    let names : List (List ℕ) = g.N.Names.names c.args.index.now in
    let P : Hit → Type 0 = λ (hit : Hit). hit.doc < length names in
    record {
      docs = subst (All P) (sym c.split_at.ensures.back) (All-drop P c.min.result c.loop-rest.rest.now c.loop-rest.invariant.docs);
      frame = c.in_ok-gather_block.ensures.frame;
      ranked = omega (arith, c.loop-rest.invariant.ranked, c.split_at.ensures.front_len, c.split_at.ensures.back_len);
      text = up_to_more _ _ _ (block_next names c.args.shared.now.id.now (whole_tag c.args.shared.now) c.loop-rest.rest.now c.split_at.result.0.now c.split_at.result.1.now c.loop-rest.rank c.split_at.ensures.by_index.0)
          c.loop-rest.invariant.text c.in_ok-gather_block.ensures.text;
    }
