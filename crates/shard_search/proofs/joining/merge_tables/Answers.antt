use Rattle.std.proofs.Common.{◌<◌, [], ◌++◌, length, ap, sym, arith}
use Rattle.index_model.specs.Index.{TermData}
use Rattle.shard_search.proofs.Joins.{all_joined, both_join, copy_grows, first_joins, join_grows, second_joins, terms_counted}
use Rattle.shard_search.proofs.Tables.{nothing_stands, nothing_told}
use Rattle.index_model.specs.Merging.{merged_terms}
use Rattle.shard_search.specs.Private.Tables.{told_terms}
use Rattle.shard_search.proofs.joining.merge_tables.Goals as goal

abbrev nothing : TermData
nothing = record { term = []; segments = [] }

pub terms-init : goal.terms-init
terms-init c =
    let files = c.args.parts.now in
    let table = c.new-table.result in
    let is = c.new-table.ensures in
    record {
      joining = ap (λ l. l ++ merged_terms (told_terms files c.args.first.now) (told_terms files c.args.second.now)) (nothing_told files table is.terms);
      stands = nothing_stands files table is.pieces is.segments is.terms;
      first = omega arith;
      second = omega arith;
    }

pub terms-preserved-in-Less : goal.terms-preserved-in-Less
terms-preserved-in-Less c =
    let files = c.args.parts.now in
    let first = c.args.first.now in
    let i = c.terms.i in
    let count = terms_counted files first in
    let some : i < length first.terms = c.in-Less.ensures.first (λ is. cc) in
    let here = c.terms.invariant in
    record {
      joining = first_joins (told_terms files first) (told_terms files c.args.second.now) i c.terms.j (told_terms files c.terms.table) (told_terms files c.put_merged.new.self) here.joining nothing
          (omega (arith, count, some)) (sym c.in-Less.ensures.order)
          (copy_grows files c.terms.table c.put_merged.new.self nothing first c.as_slice.result.now i c.as_slice.ensures some c.in_ok-put_merged-in-Less.ensures);
      stands = c.in_ok-put_merged-in-Less.ensures.stands;
      first = omega (arith, some);
      second = here.second;
    }

pub terms-preserved-in-Greater : goal.terms-preserved-in-Greater
terms-preserved-in-Greater c =
    let files = c.args.parts.now in
    let second = c.args.second.now in
    let j = c.terms.j in
    let count = terms_counted files second in
    let some : j < length second.terms = c.in-Greater.ensures.second (λ is. cc) in
    let here = c.terms.invariant in
    record {
      joining = second_joins (told_terms files c.args.first.now) (told_terms files second) c.terms.i j (told_terms files c.terms.table) (told_terms files c.put_merged-in-Greater.new.self) here.joining nothing
          (omega (arith, count, some)) (sym c.in-Greater.ensures.order)
          (copy_grows files c.terms.table c.put_merged-in-Greater.new.self nothing second c.as_slice-in-Greater.result.now j c.as_slice-in-Greater.ensures some c.in_ok-put_merged-in-Greater.ensures);
      stands = c.in_ok-put_merged-in-Greater.ensures.stands;
      first = here.first;
      second = omega (arith, some);
    }

pub terms-preserved : goal.terms-preserved
terms-preserved c =
    let files = c.args.parts.now in
    let first = c.args.first.now in
    let second = c.args.second.now in
    let i = c.terms.i in
    let j = c.terms.j in
    let count = terms_counted files first in
    let others = terms_counted files second in
    let some : i < length first.terms = c.in-Equal.ensures.first (λ is. cc) in
    let more : j < length second.terms = c.in-Equal.ensures.second (λ is. cc) in
    record {
      joining = both_join (told_terms files first) (told_terms files second) i j (told_terms files c.terms.table) (told_terms files c.put_merged-in-Equal.new.self) c.terms.invariant.joining nothing
          (omega (arith, count, some)) (omega (arith, others, more)) (sym c.in-Equal.ensures.order)
          (join_grows files c.terms.table c.put_merged-in-Equal.new.self nothing first second c.as_slice-in-Equal-2.result.now c.as_slice-in-Equal.result.now i j
          c.as_slice-in-Equal-2.ensures c.as_slice-in-Equal.ensures some more c.in_ok-put_merged-in-Equal.ensures);
      stands = c.in_ok-put_merged-in-Equal.ensures.stands;
      first = omega (arith, some);
      second = omega (arith, more);
    }

pub returns-clause-terms : goal.returns-clause-terms
returns-clause-terms c =
    let files = c.args.parts.now in
    let count = terms_counted files c.args.first.now in
    let others = terms_counted files c.args.second.now in
    all_joined (told_terms files c.args.first.now) (told_terms files c.args.second.now) c.terms.i c.terms.j (told_terms files c.terms.table) c.terms.invariant.joining
    (omega (arith, count, c.len.ensures, c.if-i-len.false)) (omega (arith, others, c.len-else-i-len.ensures, c.if-j-len.false))
