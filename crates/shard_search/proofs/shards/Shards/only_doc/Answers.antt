use Rattle.std.proofs.Common.{◌≡◌, ◌≤◌, ◌<◌, ◌+◌, ◌^◌, ℕ, List, [], ◌∷◌, length, slice_index, slice_index_or, slice_range, ap, subst, sym, ◌∙◌, arith}
use Rattle.shard_search.proofs.Cursors.{file_there, first_stands, no_piece, only_fits, only_is, only_one}
use Rattle.shard_search.specs.Parts.{base_of, pieces_docs}
use Rattle.shard_search.specs.Union.{UnionView}
use Rattle.shard_search.proofs.shards.Shards.only_doc.Goals as goal

pub first_doc-requires-clause-one : goal.first_doc-requires-clause-one
first_doc-requires-clause-one g c =
    let f = c.self.inside in
    let rows = c.as_slice.result.now in
    let p = slice_index_or rows c.args.from no_piece in
    let within = subst (λ (v : UnionView). c.args.to ≤ length v.pieces) (sym c.self.view_is) c.requires.within in
    let one = subst (λ (v : UnionView). length (pieces_docs v.files (slice_range v.pieces c.args.from c.args.to)) ≡ 1) (sym c.self.view_is) c.requires.one in
    let stands = first_stands f.parts f.table.pieces rows c.as_slice.ensures c.args.from c.args.to c.requires.some within c.self.invariant.table.pieces in
    let file = c.index-as_slice-piece.result in
    let file_is = file_there f.parts c.as_slice-2.result.now p.part file c.index-as_slice-piece.is c.as_slice-2.ensures stands.part in
    only_one f.parts f.table.pieces rows c.as_slice.ensures c.args.from c.args.to c.requires.some within c.self.invariant.table.pieces file file_is c.is_checked.ensures one

pub overflow_add-result : goal.overflow_add-result
overflow_add-result g c =
    let f = c.self.inside in
    let rows = c.as_slice.result.now in
    let p = slice_index_or rows c.args.from no_piece in
    let within = subst (λ (v : UnionView). c.args.to ≤ length v.pieces) (sym c.self.view_is) c.requires.within in
    let one = subst (λ (v : UnionView). length (pieces_docs v.files (slice_range v.pieces c.args.from c.args.to)) ≡ 1) (sym c.self.view_is) c.requires.one in
    let stands = first_stands f.parts f.table.pieces rows c.as_slice.ensures c.args.from c.args.to c.requires.some within c.self.invariant.table.pieces in
    let file = c.index-as_slice-piece.result in
    let file_is = file_there f.parts c.as_slice-2.result.now p.part file c.index-as_slice-piece.is c.as_slice-2.ensures stands.part in
    let base : slice_index c.as_slice-3.result.now p.part ≡ base_of f.parts p.part = ap (λ (l : List ℕ). slice_index l p.part) c.as_slice-3.ensures ∙ c.self.invariant.bases.each p.part stands.part in
    let fits = only_fits f.parts f.table.pieces rows c.as_slice.ensures c.args.from c.args.to c.requires.some within c.self.invariant.table.pieces file file_is c.is_checked.ensures one
    c.first_doc.result c.first_doc.ensures.doc c.self.invariant.few_docs in
    let sum : slice_index c.as_slice-3.result.now p.part + c.first_doc.result < 2 ^ 32 = omega (arith, base, fits) in
    omega (arith, sum)

pub returns-clause-doc : goal.returns-clause-doc
returns-clause-doc g c =
    let f = c.self.inside in
    let rows = c.as_slice.result.now in
    let p = slice_index_or rows c.args.from no_piece in
    let within = subst (λ (v : UnionView). c.args.to ≤ length v.pieces) (sym c.self.view_is) c.requires.within in
    let one = subst (λ (v : UnionView). length (pieces_docs v.files (slice_range v.pieces c.args.from c.args.to)) ≡ 1) (sym c.self.view_is) c.requires.one in
    let stands = first_stands f.parts f.table.pieces rows c.as_slice.ensures c.args.from c.args.to c.requires.some within c.self.invariant.table.pieces in
    let file = c.index-as_slice-piece.result in
    let file_is = file_there f.parts c.as_slice-2.result.now p.part file c.index-as_slice-piece.is c.as_slice-2.ensures stands.part in
    let base : slice_index c.as_slice-3.result.now p.part ≡ base_of f.parts p.part = ap (λ (l : List ℕ). slice_index l p.part) c.as_slice-3.ensures ∙ c.self.invariant.bases.each p.part stands.part in
    ap (λ (v : UnionView). pieces_docs v.files (slice_range v.pieces c.args.from c.args.to)) (sym c.self.view_is)
    ∙ only_is f.parts f.table.pieces rows c.as_slice.ensures c.args.from c.args.to c.requires.some within c.self.invariant.table.pieces file file_is c.is_checked.ensures one
    c.first_doc.result c.first_doc.ensures.doc
    ∙ ap (λ (n : ℕ). (n + c.first_doc.result) ∷ []) (sym base)
