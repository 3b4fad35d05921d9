use Rattle.shared_lemmas.proofs.Common.{refl, arith}
use Rattle.run_audit.specs.Rows.{hit_rows}
use Rattle.run_audit.proofs.Agreeing.{to_all, to_more, to_none}
use Rattle.run_audit.proofs.Turns.{hit_turn, hits_end}
use Rattle.run_audit.proofs.rows.check_hits.Goals as goal

pub loop-hit-init : goal.loop-hit-init
loop-hit-init c = record {
  rank = refl;
  within = c.requires.within;
  advances = to_none c.args.run.now c.args.place.now (hit_rows c.args.index.now.index.names c.args.id.now c.args.tag.now 1 c.args.hits.now);
}

pub loop-hit-preserved : goal.loop-hit-preserved
loop-hit-preserved c =
    record {
      rank = omega (arith, c.loop-hit.invariant.rank);
      within = c.check_row.ensures.within;
      advances = to_more c.args.run.now c.args.place.now c.loop-hit.place c.check_row.new.place _ _ _ _
          (hit_turn c.args.index.now.index.names c.args.id.now c.args.tag.now c.loop-hit.rank c.args.hits.now c.loop-hit.hit-index (record { doc = 0; score = 0 }) c.name.result.now c.loop-hit-test.true c.name.ensures)
          c.loop-hit.invariant.advances c.check_row.ensures.advances;
    }

pub returns-clause-advances : goal.returns-clause-advances
returns-clause-advances c =
    to_all c.args.run.now c.args.place.now c.loop-hit.place _ _
    (hits_end c.args.index.now.index.names c.args.id.now c.args.tag.now c.loop-hit.rank c.args.hits.now c.loop-hit.hit-index c.loop-hit-test.false) c.loop-hit.invariant.advances
