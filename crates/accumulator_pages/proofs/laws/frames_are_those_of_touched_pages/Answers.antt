use Rattle.shared_lemmas.proofs.Common.{◌<◌, arith, refl, subst, sym, length}
use Rattle.accumulator_pages.specs.Pages.{own_view}
use Rattle.accumulator_pages.proofs.Standing.{frames_are_pages, has_frame_where_touched}
use Rattle.accumulator_pages.proofs.laws.frames_are_those_of_touched_pages.Goals as goal

pub returns-clause-pages : goal.returns-clause-pages
returns-clause-pages c = λ pages pool page stands inside.
    has_frame_where_touched pages.table pages.docs (own_view pages pool) stands.here.fields.table stands.here.used page
    (subst (λ n. page < n) (sym stands.here.fields.table.covers) inside)

pub returns-clause-count : goal.returns-clause-count
returns-clause-count c = λ pages pool stands.
    frames_are_pages pages.table pages.docs (length (own_view pages pool).frames) (own_view pages pool) stands.here.fields.table refl stands.here.used

pub returns-clause-most : goal.returns-clause-most
returns-clause-most c = λ pages pool stands. let all = stands.here.fields.table.frames in let covers = stands.here.fields.table.covers in omega (arith, all, covers)
