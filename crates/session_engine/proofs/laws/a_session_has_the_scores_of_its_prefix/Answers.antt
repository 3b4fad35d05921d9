use Rattle.shared_lemmas.proofs.Common.{◌≡◌, ◌<◌, ◌≤◌, ◌∙◌, arith, ap, sym, subst, length, List, ℕ}
use Rattle.frame_pool.specs.ChainView.{chain_view, view_scores}
use Rattle.accumulator_pages.specs.Adding.{page_count, page_is_touched, touched_pages}
use Rattle.session_scores.specs.Scores.{docs_of, own_view}
use Rattle.session_engine.specs.Standing.{chain_of, prefix_of, terms_of}
use Rattle.session_engine.proofs.laws.a_session_has_the_scores_of_its_prefix.Goals as goal

pub returns-clause-scores : goal.returns-clause-scores
returns-clause-scores c = λ s index pool stands.
    let docs : docs_of s.scores ≡ length index.names = stands.scored.docs ∙ c.a_session_plan_names_its_segments.ensures.docs index (terms_of s) in
    ap (λ n. view_scores n (chain_view pool (chain_of s))) (sym docs) ∙ c.the_chain_has_the_scores.ensures.scores s.scores pool ∙ stands.scored.sums

pub returns-clause-pages : goal.returns-clause-pages
returns-clause-pages c = λ s index pool page stands inside.
    let docs : docs_of s.scores ≡ length index.names = stands.scored.docs ∙ c.a_session_plan_names_its_segments.ensures.docs index (terms_of s) in
    c.the_chain_has_the_scores.ensures.pages s.scores pool page stands.scored.stand (subst (λ n. page < page_count n) (sym docs) inside)
    ∙ ap (λ (l : List ℕ). page_is_touched l page) stands.scored.sums

pub returns-clause-frames : goal.returns-clause-frames
returns-clause-frames c = λ s index pool stands. c.the_chain_has_the_scores.ensures.count s.scores pool stands.scored.stand ∙ ap touched_pages stands.scored.sums

pub returns-clause-need : goal.returns-clause-need
returns-clause-need c = λ s index pool stands.
    let docs : docs_of s.scores ≡ length index.names = stands.scored.docs ∙ c.a_session_plan_names_its_segments.ensures.docs index (terms_of s) in
    let pages : length (own_view s.scores pool).frames ≤ page_count (length index.names) =
    subst (λ n. length (own_view s.scores pool).frames ≤ page_count n) docs (c.the_chain_has_the_scores.ensures.most s.scores pool stands.scored.stand) in
    let few = stands.scored.frames in
    let most = c.one_entry_more_is_scored.ensures.most index (terms_of s) (prefix_of s) in
    omega (arith, pages, few, most)
