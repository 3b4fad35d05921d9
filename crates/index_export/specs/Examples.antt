-- Small exports on which the definitions are run.
use Rattle.std.specs.Prelude.{ℕ, List, [], ◌∷◌, ◌++◌, codes}
use Rattle.jass_base.specs.declared.posting.Posting.{Posting}
use Rattle.index_model.specs.Examples.{term, term_segment}
use Rattle.index_model.specs.Index.{TermData}

abbrev pub posting : ℕ → ℕ → Posting
posting doc tf = record { doc = doc; tf = tf }

-- a term with impact 3 in one document and impact 1 in two others, which stand before and behind it
abbrev pub crossing : TermData
crossing = term (codes "a") (term_segment 3 (2 ∷ []) ∷ term_segment 1 (0 ∷ 5 ∷ []) ∷ [])

-- the CIFF file of three documents and one term with the impacts 9, 5 and 1: the header, the list, and the documents
abbrev pub small_export : List ℕ
small_export =
    12 ∷ 8 ∷ 1 ∷ 16 ∷ 1 ∷ 24 ∷ 3 ∷ 32 ∷ 1 ∷ 40 ∷ 3 ∷ 48 ∷ 15
    ∷ 23 ∷ 10 ∷ 1 ∷ codes "a" ++ 16 ∷ 3 ∷ 24 ∷ 15 ∷ 34 ∷ 2 ∷ 16 ∷ 9 ∷ 34 ∷ 4 ∷ 8 ∷ 1 ∷ 16 ∷ 5 ∷ 34 ∷ 4 ∷ 8 ∷ 1 ∷ 16 ∷ 1
    ∷ 4 ∷ 18 ∷ 2 ∷ codes "d0"
    ++ 6 ∷ 8 ∷ 1 ∷ 18 ∷ 2 ∷ codes "d1"
    ++ 6 ∷ 8 ∷ 2 ∷ 18 ∷ 2 ∷ codes "d2"
