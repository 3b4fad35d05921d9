use Rattle.std.proofs.Common.{◌++◌, sym, List, subst, arith, None, Option, ◌≡◌, ◌-◌, length, replicate}
use Rattle.jass_base.specs.declared.doc_record.DocRecord.{DocRecord}
use Rattle.ciff_read.proofs.Tables.{reaches_more}
use Rattle.ciff_read.proofs.doc_table.DocTable.put.Goals as goal

pub reaching-preserved : goal.reaching-preserved
reaching-preserved c = record {
  same = subst (λ (t : List (Option DocRecord)). t ≡ c.args.self.now.records.items ++ replicate (length t - length c.args.self.now.records.items) None)
      (sym c.in_ok-push.ensures.items)
      (reaches_more _ _ _ c.reaching.invariant.same c.reaching.invariant.longer);
  longer = omega (arith, c.in_ok-push.ensures.len, c.reaching.invariant.longer);
  enough = omega (arith, c.in_ok-push.ensures.len, c.reaching.invariant.enough, c.reaching-test.true);
}
