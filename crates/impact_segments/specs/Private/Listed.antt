-- The lists of a collection in the order of an index.
use Rattle.std.specs.Prelude.{List, map, length, Bool, nat_lt}
use Rattle.std.specs.declared.cmp.Ordering.{Ordering}
use Rattle.std.specs.Ordering.{nat_cmp}
use Rattle.std.specs.Cmp.Lexicographic.{slice_cmp}
use Rattle.jass_base.specs.declared.postings_list.PostingsList.{PostingsList}
use denote.Ref.{Bor}

-- the list has postings
abbrev pub has_postings : PostingsList → Bool
has_postings list = nat_lt 0 (length list.postings)

-- rising terms
abbrev pub term_cmp : PostingsList → PostingsList → Ordering
term_cmp a b = slice_cmp nat_cmp a.term b.term

-- the lists that references point to
abbrev pub lists_behind : List (Bor PostingsList) → List PostingsList
lists_behind references = map (λ (r : Bor PostingsList). r.now) references
