-- The number of postings of lists that are read one after another.
use Rattle.shared_lemmas.proofs.Common.{◌≡◌, ℕ, ◌+◌, List, [], ◌∷◌, ◌++◌, length, sym, ap, arith, sum_by-append, sum_by-cons}
use Rattle.jass_base.specs.declared.postings_list.PostingsList.{PostingsList}
use Rattle.ciff_read.specs.Counts.{posting_count}

pub count_none : (lists : List PostingsList) → lists ≡ [] → 0 ≡ posting_count lists
count_none lists none = sym (ap posting_count none)

pub count_more : (lists grown : List PostingsList) (list : PostingsList) (before n : ℕ) → grown ≡ lists ++ list ∷ [] → before ≡ posting_count lists → n ≡ length list.postings → before + n ≡ posting_count grown
count_more lists grown list before n put counted is =
    let size : PostingsList → ℕ = λ l. length l.postings in
    let both : posting_count (lists ++ list ∷ []) ≡ posting_count lists + posting_count (list ∷ []) = sum_by-append size lists (list ∷ []) in
    let one : posting_count (list ∷ []) ≡ length list.postings + posting_count [] = sum_by-cons size list [] in
    let all : posting_count grown ≡ posting_count (lists ++ list ∷ []) = ap posting_count put in
    omega (arith, both, one, all)
