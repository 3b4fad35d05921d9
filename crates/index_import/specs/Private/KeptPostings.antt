-- Postings that are kept in a word each: the document in the upper 21 bits, how often the term stands in it in the lower 11.
use Rattle.std.specs.Prelude.{ℕ, ◌/◌, ◌%◌, ◌<◌, ◌^◌, List, map}
use Rattle.jass_base.specs.declared.posting.Posting.{Posting}
use Rattle.index_import.specs.declared.kept_postings.KeptPostings.{KeptPostings}
use Rattle.index_import.specs.declared.kept_postings.KeptPostings.TheVariants.{Few, Many}

-- the posting of a word
abbrev pub posting_in : ℕ → Posting
posting_in word = record { doc = word / 2 ^ 11; tf = word % 2 ^ 11 }

-- there is a word for it
abbrev pub HasWord : Posting → Type 0
HasWord p = (p.doc < 2 ^ 21) × (p.tf < 2 ^ 11)

-- the words, be they few or many
abbrev pub words_in : KeptPostings → List ℕ
words_in (Few words) = words.items
words_in (Many words) = words.items

-- the postings that are kept
abbrev pub postings_in : KeptPostings → List Posting
postings_in kept = map posting_in (words_in kept)
