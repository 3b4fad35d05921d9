-- A small trial on which the definitions are run.
use Rattle.std.specs.Prelude.{ℕ, List, [], ◌∷◌, replicate, codes}
use Rattle.jass_base.specs.declared.posting.Posting.{Posting}
use Rattle.jass_base.specs.Ciff.{DocData, CollectionData}

abbrev pub posting : ℕ → ℕ → Posting
posting doc tf = record { doc = doc; tf = tf }

abbrev pub doc : List ℕ → ℕ → DocData
doc name length = record { name = name; length = length }

-- four documents and one term, by seed 1
abbrev pub small_trial : CollectionData
small_trial = record {
  header = record {
    version = 1;
    total_lists = 1;
    total_docs = 4;
    total_terms = 18;
    average = replicate 8 0;
    description = codes "trial";
  };
  lists = record {
    term = codes "t0";
    df = 4;
    cf = 18;
    postings = posting 0 5 ∷ posting 1 2 ∷ posting 2 6 ∷ posting 3 5 ∷ [];
  } ∷ [];
  docs = doc (codes "D0") 5 ∷ doc (codes "D1") 2 ∷ doc (codes "D2") 6 ∷ doc (codes "D3") 5 ∷ [];
}
