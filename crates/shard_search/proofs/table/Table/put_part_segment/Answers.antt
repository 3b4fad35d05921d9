use Rattle.std.proofs.Common.{◌≡◌, [], ◌∷◌, length, ap, ap₂, ◌∙◌, sym, arith}
use Rattle.shared_lemmas.proofs.Common.{All-from_recursion, get_or_default}
use Rattle.index_model.specs.Index.{SegmentData}
use Rattle.index_layout.specs.View.{FileView}
use Rattle.index_file.specs.Places.{segment_at}
use Rattle.shard_search.proofs.Growing.{segment_grows}
use Rattle.shard_search.proofs.Pieces.{one_piece, piece_counted, piece_is}
use Rattle.shard_search.specs.Parts.{IsPartSegment, base_of, file_at, index_at}
use Rattle.index_model.specs.Unions.{raised_segment}
use Rattle.shard_search.proofs.table.Table.put_part_segment.Goals as goal

pub returns : goal.returns
returns c =
    let files = c.args.parts.now in
    let p = c.args.piece in
    let own = segment_at (index_at files p.part).terms p.term p.segment in
    let file_is : c.index-parts-piece.result ≡ file_at files p.part =
    c.index-parts-piece.is ∙ get_or_default files p.part c.index-parts-piece.result (record { index = record { names = []; terms = [] }; codecs = [] }) c.requires.piece.part in
    let impact = c.head-head.ensures.impact ∙ ap (λ (f : FileView). (segment_at f.index.terms p.term p.segment).impact) file_is in
    let count = c.head-head.ensures.count ∙ ap (λ (f : FileView). length (segment_at f.index.terms p.term p.segment).docs) file_is in
    segment_grows files c.args.self.now c.requires.stands (p ∷ []) c.head-head.result.impact c.head-head.result.count
    (All-from_recursion (IsPartSegment files) (p ∷ []) (c.requires.piece, tt)) (omega arith)
    (count ∙ sym (ap length (one_piece files p) ∙ piece_counted files p))
    c.put_segment.new.self c.push.new.self c.len-from.result (raised_segment (base_of files p.part) own)
    c.in_ok-push.ensures.ok c.put_segment.ensures.pieces c.len-from.ensures c.in_ok-put_segment.ensures.segments c.put_segment.ensures.terms
    (ap₂ (λ n docs. (let s : SegmentData = record { impact = n; docs = docs } in s)) impact (one_piece files p ∙ piece_is files p))
