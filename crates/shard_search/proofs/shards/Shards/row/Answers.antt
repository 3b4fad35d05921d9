use Rattle.std.proofs.Common.{◌<◌, ◌+◌, List, length, slice_index_or, slice_range, ap, subst, sym, ◌∙◌}
use Rattle.shard_search.proofs.Joins.{no_row}
use Rattle.shard_search.proofs.Reading.{count_is, docs_are, impact_is, no_segment, row_there, segment_stands, segment_there}
use Rattle.shard_search.proofs.Unioned.{index_terms}
use Rattle.shard_search.specs.Parts.{pieces_docs}
use Rattle.shard_search.specs.Union.{UnionView, union_index}
use Rattle.shard_search.specs.declared.rows.TermRow.{TermRow}
use Rattle.shard_search.proofs.shards.Shards.row.Goals as goal

pub bounds-as_slice-t : goal.bounds-as_slice-t
bounds-as_slice-t c =
    let f = c.self.inside in
    let told = ap (λ (v : UnionView). (union_index v).terms) (sym c.self.view_is) ∙ index_terms f.parts f.table.pieces ∙ c.self.invariant.terms in
    subst (λ (rows : List TermRow). c.args.t < length rows) (sym c.as_slice.ensures)
    (row_there f.parts f.table c.self.invariant.table (union_index c.args.self.now).terms told c.args.t c.requires.t)

pub bounds-as_slice-span : goal.bounds-as_slice-span
bounds-as_slice-span c =
    let f = c.self.inside in
    let told = ap (λ (v : UnionView). (union_index v).terms) (sym c.self.view_is) ∙ index_terms f.parts f.table.pieces ∙ c.self.invariant.terms in
    rw (c.as_slice.ensures, c.as_slice-2.ensures)
    (segment_there f.parts f.table c.self.invariant.table (union_index c.args.self.now).terms told c.args.t c.requires.t c.args.s c.requires.s)

pub returns-clause-impact : goal.returns-clause-impact
returns-clause-impact c =
    let f = c.self.inside in
    let told = ap (λ (v : UnionView). (union_index v).terms) (sym c.self.view_is) ∙ index_terms f.parts f.table.pieces ∙ c.self.invariant.terms in
    rw (c.as_slice.ensures, c.as_slice-2.ensures)
    (impact_is f.parts f.table c.self.invariant.table (union_index c.args.self.now).terms told c.args.t c.requires.t c.args.s c.requires.s)

pub returns-clause-count : goal.returns-clause-count
returns-clause-count c =
    let f = c.self.inside in
    let told = ap (λ (v : UnionView). (union_index v).terms) (sym c.self.view_is) ∙ index_terms f.parts f.table.pieces ∙ c.self.invariant.terms in
    rw (c.as_slice.ensures, c.as_slice-2.ensures)
    (count_is f.parts f.table c.self.invariant.table (union_index c.args.self.now).terms told c.args.t c.requires.t c.args.s c.requires.s)

pub returns-clause-docs : goal.returns-clause-docs
returns-clause-docs c =
    let f = c.self.inside in
    let told = ap (λ (v : UnionView). (union_index v).terms) (sym c.self.view_is) ∙ index_terms f.parts f.table.pieces ∙ c.self.invariant.terms in
    rw (c.as_slice.ensures, c.as_slice-2.ensures)
    (ap (λ (v : UnionView). pieces_docs v.files (slice_range v.pieces (slice_index_or f.table.segments ((slice_index_or f.table.terms c.args.t no_row).span.from + c.args.s) no_segment).from
    (slice_index_or f.table.segments ((slice_index_or f.table.terms c.args.t no_row).span.from + c.args.s) no_segment).to)) (sym c.self.view_is)
    ∙ docs_are f.parts f.table c.self.invariant.table (union_index c.args.self.now).terms told c.args.t c.requires.t c.args.s c.requires.s)

pub returns-clause-some : goal.returns-clause-some
returns-clause-some c =
    let f = c.self.inside in
    let told = ap (λ (v : UnionView). (union_index v).terms) (sym c.self.view_is) ∙ index_terms f.parts f.table.pieces ∙ c.self.invariant.terms in
    rw (c.as_slice.ensures, c.as_slice-2.ensures)
    (segment_stands f.parts f.table c.self.invariant.table (union_index c.args.self.now).terms told c.args.t c.requires.t c.args.s c.requires.s).some
