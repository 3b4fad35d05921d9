-- Small files on which the definitions are run.
use Rattle.std.specs.Prelude.{ℕ, List, [], ◌∷◌, ◌++◌, codes}
use Rattle.segment_codecs.specs.declared.codec.Codec.TheVariants.{Varbyte}
use Rattle.index_model.specs.Examples.{one_term}
use Rattle.index_model.specs.Index.{IndexData}
use Rattle.index_layout.specs.Heads.{HeadData}
use Rattle.index_layout.specs.View.{FileView}

-- three documents with one term, whose postings have the impacts 9, 5 and 1
abbrev pub small_view : FileView
small_view = record { index = one_term; codecs = (Varbyte ∷ Varbyte ∷ Varbyte ∷ []) ∷ [] }

-- the front of its file: magic, length, documents, terms, postings, greatest impact, zero
abbrev pub small_totals : List ℕ
small_totals =
    74 ∷ 65 ∷ 83 ∷ 83 ∷ 73 ∷ 68 ∷ 88 ∷ 50 ∷ 103 ∷ 0 ∷ 0 ∷ 0 ∷ 0 ∷ 0 ∷ 0 ∷ 0
    ∷ 3 ∷ 0 ∷ 0 ∷ 0 ∷ 1 ∷ 0 ∷ 0 ∷ 0 ∷ 3 ∷ 0 ∷ 0 ∷ 0 ∷ 0 ∷ 0 ∷ 0 ∷ 0 ∷ 9 ∷ 0 ∷ 0 ∷ 0 ∷ 0 ∷ 0 ∷ 0 ∷ 0 ∷ []

-- the names
abbrev pub small_names : List ℕ
small_names = 2 ∷ 0 ∷ 0 ∷ 0 ∷ codes "d0" ++ 2 ∷ 0 ∷ 0 ∷ 0 ∷ codes "d1" ++ 2 ∷ 0 ∷ 0 ∷ 0 ∷ codes "d2"

-- the term, and its three heads
abbrev pub small_term : List ℕ
small_term =
    0 ∷ 0 ∷ 1 ∷ 0 ∷ codes "a" ++ 3 ∷ 0 ∷ 0 ∷ 0
    ∷ 9 ∷ 0 ∷ 1 ∷ 0 ∷ 0 ∷ 0 ∷ 0 ∷ 1 ∷ 0 ∷ 0 ∷ 0
    ∷ 5 ∷ 0 ∷ 1 ∷ 0 ∷ 0 ∷ 0 ∷ 0 ∷ 1 ∷ 0 ∷ 0 ∷ 0
    ∷ 1 ∷ 0 ∷ 1 ∷ 0 ∷ 0 ∷ 0 ∷ 0 ∷ 1 ∷ 0 ∷ 0 ∷ 0 ∷ []

-- the last of them
abbrev pub last_head : HeadData
last_head = record { impact = 1; count = 1; codec = Varbyte; size = 1 }

abbrev pub small_front : List ℕ
small_front = small_totals ++ (small_names ++ small_term)

-- the 103 bytes
abbrev pub small_file : List ℕ
small_file = small_front ++ 0 ∷ 1 ∷ 2 ∷ []

-- an index without documents, and its 40 bytes
abbrev pub no_documents : IndexData
no_documents = record { names = []; terms = [] }

abbrev pub empty_file : List ℕ
empty_file =
    74 ∷ 65 ∷ 83 ∷ 83 ∷ 73 ∷ 68 ∷ 88 ∷ 50 ∷ 40 ∷ 0 ∷ 0 ∷ 0 ∷ 0 ∷ 0 ∷ 0 ∷ 0
    ∷ 0 ∷ 0 ∷ 0 ∷ 0 ∷ 0 ∷ 0 ∷ 0 ∷ 0 ∷ 0 ∷ 0 ∷ 0 ∷ 0 ∷ 0 ∷ 0 ∷ 0 ∷ 0 ∷ 0 ∷ 0 ∷ 0 ∷ 0 ∷ 0 ∷ 0 ∷ 0 ∷ 0 ∷ []
