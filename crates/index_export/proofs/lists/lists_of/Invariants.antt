use Rattle.std.proofs.Common.{◌≡◌, ◌++◌, ◌+◌, ◌≤◌, drop, map, length, All, sum_by}
use Rattle.jass_base.specs.CiffViews.{list_data}
use Rattle.jass_base.specs.Lists.{HasDocsBelow}
use Rattle.index_layout.specs.View.{term_postings}
use Rattle.index_export.specs.Exports.{exported_list}
use Rattle.index_export.proofs.lists.lists_of.Given as goal

abbrev pub invariant-loop-t : goal.invariant-loop-t
invariant-loop-t g l = record {
  lists : map list_data l.lists ++ map exported_list (drop l.t l.index.index.terms) ≡ map exported_list l.index.index.terms;
  below : All (HasDocsBelow (length l.index.index.names)) l.lists;
  steps : l.steps + sum_by term_postings (drop l.t l.index.index.terms) ≡ l.fn.steps + sum_by term_postings l.index.index.terms;
  later : l.fn.steps ≤ l.steps;
}
