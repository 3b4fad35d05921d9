-- A file of one term and three documents.
use Rattle.std.specs.Prelude.{ℕ, List, [], ◌∷◌, ◌++◌, codes}
use Rattle.jass_base.specs.Ciff.{CollectionData}

abbrev pub small_file : List ℕ
small_file =
    21 ∷ 8 ∷ 1 ∷ 16 ∷ 1 ∷ 24 ∷ 3 ∷ 32 ∷ 1 ∷ 40 ∷ 3 ∷ 48 ∷ 15 ∷ 57 ∷ 0 ∷ 0 ∷ 0 ∷ 0 ∷ 0 ∷ 0 ∷ 20 ∷ 64
    ∷ 23 ∷ 10 ∷ 1 ∷ codes "a" ++ 16 ∷ 3 ∷ 24 ∷ 15 ∷ 34 ∷ 2 ∷ 16 ∷ 9 ∷ 34 ∷ 4 ∷ 8 ∷ 1 ∷ 16 ∷ 5 ∷ 34 ∷ 4 ∷ 8 ∷ 1 ∷ 16 ∷ 1
    ∷ 6 ∷ 18 ∷ 2 ∷ codes "d0" ++ 24 ∷ 9
    ∷ 8 ∷ 8 ∷ 1 ∷ 18 ∷ 2 ∷ codes "d1" ++ 24 ∷ 5
    ∷ 8 ∷ 8 ∷ 2 ∷ 18 ∷ 2 ∷ codes "d2" ++ 24 ∷ 1 ∷ []

abbrev pub small_collection : CollectionData
small_collection = record {
  header = record { version = 1; total_lists = 1; total_docs = 3; total_terms = 15; average = 0 ∷ 0 ∷ 0 ∷ 0 ∷ 0 ∷ 0 ∷ 20 ∷ 64 ∷ []; description = [] };
  lists = record {
    term = codes "a";
    df = 3;
    cf = 15;
    postings = record { doc = 0; tf = 9 } ∷ record { doc = 1; tf = 5 } ∷ record { doc = 2; tf = 1 } ∷ [];
  } ∷ [];
  docs = record { name = codes "d0"; length = 9 } ∷ record { name = codes "d1"; length = 5 } ∷ record { name = codes "d2"; length = 1 } ∷ [];
}
