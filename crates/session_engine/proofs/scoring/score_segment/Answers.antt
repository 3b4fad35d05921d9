use Rattle.shared_lemmas.proofs.Common.{ℕ, ◌<◌, arith, subst, sym, List, length, All}
use Rattle.index_file.specs.Places.{segment_at}
use Rattle.session_engine.proofs.Pieces.{segment_inside}
use Rattle.session_engine.proofs.scoring.score_segment.Goals as goal

pub add-requires-clause-inside : goal.add-requires-clause-inside
add-requires-clause-inside g c =
    let below = (segment_inside (g.S.Source.index c.args.source.now) c.args.segment.term c.args.segment.segment c.is_searchable.ensures.is_well_formed c.requires.term c.requires.segment).below in
    subst (λ n. c.first_doc-doc.result < n) (sym c.requires.docs)
    (subst (λ (ds : List ℕ). All (λ d. d < length (g.S.Source.index c.args.source.now).names) ds) c.first_doc-doc.ensures.doc below 0 0 (omega arith))

pub score_pieces-requires-clause-inside : goal.score_pieces-requires-clause-inside
score_pieces-requires-clause-inside g c =
    let below = (segment_inside (g.S.Source.index c.args.source.now) c.args.segment.term c.args.segment.segment c.is_searchable.ensures.is_well_formed c.requires.term c.requires.segment).below in
    subst (λ n. All (λ doc. doc < n) (segment_at (g.S.Source.index c.args.source.now).terms c.args.segment.term c.args.segment.segment).docs) (sym c.requires.docs) below
