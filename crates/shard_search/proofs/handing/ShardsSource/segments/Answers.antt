use Rattle.std.proofs.Common.{◌≤◌, ◌<◌, [], length, ap, sym, ◌∙◌, arith}
use Rattle.shared_lemmas.proofs.Common.{get_or_past}
use Rattle.index_model.specs.Index.{TermData}
use Rattle.shard_search.proofs.Joins.{terms_counted}
use Rattle.shard_search.proofs.Reading.{segments_counted}
use Rattle.shard_search.proofs.Unioned.{index_terms}
use Rattle.shard_search.specs.Union.{UnionView, union_index}
use Rattle.shard_search.proofs.handing.ShardsSource.segments.Goals as goal

pub returns-then-t-self : goal.returns-then-t-self
returns-then-t-self c =
    let f = c.self.inside in
    let told = ap (λ (v : UnionView). (union_index v).terms) (sym c.self.view_is) ∙ index_terms f.parts f.table.pieces ∙ c.self.invariant.terms in
    let count = ap length told ∙ terms_counted f.parts f.table in
    let known = c.self.invariant.counted in
    let over : length (union_index c.args.self.now).terms ≤ c.args.t = omega (arith, count, known, c.if-t-self.true) in
    ap (λ (x : TermData). length x.segments) (sym (get_or_past (union_index c.args.self.now).terms c.args.t (record { term = []; segments = [] }) over))

pub returns : goal.returns
returns c =
    let f = c.self.inside in
    let told = ap (λ (v : UnionView). (union_index v).terms) (sym c.self.view_is) ∙ index_terms f.parts f.table.pieces ∙ c.self.invariant.terms in
    let count = ap length told ∙ terms_counted f.parts f.table in
    let known = c.self.invariant.counted in
    let inside : c.args.t < length (union_index c.args.self.now).terms = omega (arith, count, known, c.if-t-self.false) in
    rw c.as_slice.ensures (sym (segments_counted f.parts f.table c.self.invariant.table (union_index c.args.self.now).terms told c.args.t inside))
