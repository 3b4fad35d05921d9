use Rattle.topk_heap.proofs.Rows.{keeps_again, without_next}
use Rattle.topk_heap.proofs.settling.clear_places.Goals as goal

pub loop-hit-preserved : goal.loop-hit-preserved
loop-hit-preserved c = record {
  left = without_next c.args.hits.now c.loop-hit.hit-index _ _ _ _ c.loop-hit-test.true c.set_heap_place.ensures.places c.loop-hit.invariant.left;
  keeps = keeps_again c.args.pages.now c.loop-hit.pages c.set_heap_place.new.self c.args.pool.now c.loop-hit.pool c.set_heap_place.new.pool c.calls_on_one_chain.ensures.two c.loop-hit.invariant.keeps
      (record {
        scores = c.set_heap_place.ensures.scores;
        frames = c.set_heap_place.ensures.frames;
        stands = c.set_heap_place.ensures.stands;
        same = c.set_heap_place.ensures.same;
        leaves = c.set_heap_place.ensures.leaves;
      });
}
