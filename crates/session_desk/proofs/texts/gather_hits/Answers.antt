-- A line, and the run lines behind it, by the names of the index.
use Rattle.std.proofs.Common.{◌≡◌, ◌<◌, ℕ, List, All, ◌++◌, codes, decimal, length, ap, subst, sym, ◌∙◌, append_assoc}
use Rattle.session_desk.proofs.Below.{Hit, run_lines, gather_cut, gather_then, gather_same}
use Rattle.session_desk.specs.Replies.{answer_lines}
use Rattle.session_desk.proofs.texts.gather_hits.Goals as goal

parted : (a b c d : List ℕ) → (a ++ (b ++ c)) ++ d ≡ a ++ (b ++ (c ++ d))
parted a b c d = append_assoc a (b ++ c) d ∙ ap (λ t. a ++ t) (append_assoc b c d)

pub returns-in_err-gather_count : goal.returns-in_err-gather_count
unfolding answer_lines
returns-in_err-gather_count g c =
    let head : List ℕ = codes "hits " ++ (decimal (length c.args.hits.now) ++ codes "\n") in
    let lines : List ℕ = run_lines (g.S.Source.index c.args.source.now).names c.args.name.now (codes "jass") 1 c.args.hits.now in
    gather_same (parted (codes "hits ") (decimal (length c.args.hits.now)) (codes "\n") lines) (gather_cut head lines c.from_residual.ensures.0 c.in_err-gather_count.ensures)

pub gather_answer-requires : goal.gather_answer-requires
gather_answer-requires g c =
    subst (λ (names : List (List ℕ)). All (λ (hit : Hit). hit.doc < length names) c.args.hits.now) (sym c.tells_its_index.ensures.names) c.requires

pub returns : goal.returns
unfolding answer_lines
returns g c =
    let head : List ℕ = codes "hits " ++ (decimal (length c.args.hits.now) ++ codes "\n") in
    let lines : List (List ℕ) → List ℕ = λ names. run_lines names c.args.name.now (codes "jass") 1 c.args.hits.now in
    gather_same (ap (λ names. head ++ lines names) c.tells_its_index.ensures.names ∙ parted (codes "hits ") (decimal (length c.args.hits.now)) (codes "\n") (lines (g.S.Source.index c.args.source.now).names))
    (gather_then head (lines (g.S.Names.names c.args.source.now)) c.in_ok-gather_count.ensures c.gather_answer.ensures)
