-- The text of an index's totals. This project's.
use Rattle.std.specs.Prelude.{ℕ, List, ◌++◌, codes, decimal}
use Rattle.jass_base.specs.declared.answer.Totals.{Totals}

-- `documents D terms T postings P greatest G`
abbrev pub totals_line : Totals → List ℕ
totals_line t = codes "documents " ++ (decimal t.docs ++ (codes " terms " ++ (decimal t.terms
    ++ (codes " postings " ++ (decimal t.postings ++ (codes " greatest " ++ (decimal t.greatest ++ codes "\n")))))))
