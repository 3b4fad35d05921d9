use Rattle.std.proofs.Common.{◌<◌, List, length, slice_index_or, ap, ap₂, subst, sym, ◌∙◌}
use Rattle.shared_lemmas.proofs.Common.{slice_cmp, nat_cmp}
use Rattle.index_layout.specs.View.{FileView}
use Rattle.index_file.specs.Places.{term_at}
use Rattle.shard_search.proofs.Joins.{no_row}
use Rattle.shard_search.proofs.Reading.{row_stands, row_there, text_is}
use Rattle.shard_search.proofs.Unioned.{index_terms}
use Rattle.shard_search.specs.Parts.{index_at}
use Rattle.shard_search.specs.Union.{UnionView, union_index}
use Rattle.shard_search.specs.declared.rows.TermRow.{TermRow}
use Rattle.shard_search.proofs.shards.Shards.order.Goals as goal

pub bounds-as_slice-t : goal.bounds-as_slice-t
bounds-as_slice-t c =
    let f = c.self.inside in
    let told = ap (λ (v : UnionView). (union_index v).terms) (sym c.self.view_is) ∙ index_terms f.parts f.table.pieces ∙ c.self.invariant.terms in
    subst (λ (rows : List TermRow). c.args.t < length rows) (sym c.as_slice.ensures)
    (row_there f.parts f.table c.self.invariant.table (union_index c.args.self.now).terms told c.args.t c.requires)

pub text_of-requires-clause-part : goal.text_of-requires-clause-part
text_of-requires-clause-part c =
    let f = c.self.inside in
    let told = ap (λ (v : UnionView). (union_index v).terms) (sym c.self.view_is) ∙ index_terms f.parts f.table.pieces ∙ c.self.invariant.terms in
    rw (c.as_slice.ensures, c.as_slice-2.ensures) (row_stands f.parts f.table c.self.invariant.table (union_index c.args.self.now).terms told c.args.t c.requires).part

pub text_of-requires-clause-term : goal.text_of-requires-clause-term
text_of-requires-clause-term c =
    let f = c.self.inside in
    let told = ap (λ (v : UnionView). (union_index v).terms) (sym c.self.view_is) ∙ index_terms f.parts f.table.pieces ∙ c.self.invariant.terms in
    rw (c.as_slice.ensures, c.as_slice-2.ensures) (row_stands f.parts f.table c.self.invariant.table (union_index c.args.self.now).terms told c.args.t c.requires).term

pub returns : goal.returns
returns c =
    let f = c.self.inside in
    let told = ap (λ (v : UnionView). (union_index v).terms) (sym c.self.view_is) ∙ index_terms f.parts f.table.pieces ∙ c.self.invariant.terms in
    c.cmp.ensures
    ∙ ap (λ x. slice_cmp nat_cmp x c.args.text.now)
    (c.as_bytes.ensures.value ∙ c.text_of.ensures
    ∙ ap₂ (λ (files : List FileView) (rows : List TermRow). term_at (index_at files (slice_index_or rows c.args.t no_row).part).terms (slice_index_or rows c.args.t no_row).term) c.as_slice-2.ensures c.as_slice.ensures
    ∙ sym (text_is f.parts f.table c.self.invariant.table (union_index c.args.self.now).terms told c.args.t c.requires))
