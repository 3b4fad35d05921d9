use Rattle.shared_lemmas.proofs.Common.{◌≡◌, ◌∙◌, ap, arith, length, with_items_is}
use Rattle.index_model.specs.Querying.{segments_at}
use Rattle.max_score.specs.Private.Stamping.{stamped_all}
use Rattle.max_score.specs.Cursors.{CursorView}
use Rattle.max_score.proofs.Cursors.{reads}
use Rattle.max_score.proofs.cursor.TermCursor.read.Goals as goal

pub returns-clause-read : goal.returns-clause-read
returns-clause-read g c =
    let size : length c.read_term-greatest.new.impacts ≡ c.self.inside.impacts.len = omega (arith, c.read_term-greatest.auto.impacts, c.deref_mut.ensures.len) in
    let whole = with_items_is c.self.inside.impacts c.read_term-greatest.new.impacts size in
    reads (g.S.Source.index c.args.source.now) c.args.self.now.term c.self.inside.term c.self.inside.from c.self.inside.impacts.items _ c.self.inside.started c.args.self.now
    c.self.view_is c.requires.unread c.is_searchable.ensures.is_well_formed c.requires.term
    (whole ∙ c.read_term-greatest.ensures.impacts ∙ ap (λ t. stamped_all (segments_at (g.S.Source.index c.args.source.now).terms t) c.deref_mut.result.now) (ap (λ (v : CursorView). v.term) c.self.view_is) ∙ ap (stamped_all (segments_at (g.S.Source.index c.args.source.now).terms c.args.self.now.term)) c.deref_mut.ensures.value)
