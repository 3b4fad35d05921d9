use Rattle.std.proofs.Common.{◌≡◌, ◌-◌, ◌+◌, ℕ, drop, ap, ap₂, sym, ◌∙◌, arith}
use Rattle.shard_search.proofs.PartTerms.{no_part, part_more}
use Rattle.shard_search.proofs.Tables.{nothing_stands, nothing_told}
use Rattle.index_model.specs.Merging.{merged_terms, union_terms}
use Rattle.shard_search.specs.Parts.{base_of}
use Rattle.shard_search.specs.Sums.{indexes_of}
use Rattle.shard_search.proofs.building.union_table.Goals as goal

pub parts-init : goal.parts-init
parts-init c =
    let files = c.args.parts.now in
    let table = c.new-table.result in
    let is = c.new-table.ensures in
    record {
      part = omega arith;
      stands = nothing_stands files table is.pieces is.segments is.terms;
      terms = nothing_told files table is.terms ∙ sym (no_part files);
    }

pub parts-preserved : goal.parts-preserved
parts-preserved c =
    let files = c.args.parts.now in
    let before = c.parts.part - 1 in
    let most = c.parts.invariant.part in
    let some = c.parts-test.true in
    let next : before + 1 ≡ c.parts.part = omega (arith, some) in
    record {
      part = omega (arith, most);
      stands = c.in_ok-table.ensures.stands;
      terms =
          c.in_ok-table.ensures.terms
          ∙ ap₂ merged_terms c.in_ok-own.ensures.terms
          (c.parts.invariant.terms ∙ ap (λ (n : ℕ). union_terms (base_of files n) (drop n (indexes_of files))) (sym next))
          ∙ sym (part_more files before (omega (arith, most, some)));
    }
