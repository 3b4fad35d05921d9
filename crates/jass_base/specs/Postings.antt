-- Facts on the postings of a term.
use Rattle.std.specs.Prelude.{ℕ, ◌<◌, ◌≤◌, ◌^◌, List, map}
use Rattle.jass_base.specs.declared.posting.Posting.{Posting}

-- the documents of postings
abbrev pub docs_of : List Posting → List ℕ
docs_of postings = map (λ (p : Posting). p.doc) postings

-- a term stands in a document at least once, and fewer than 2^31 times
abbrev pub HasTfInRange : Posting → Type 0
HasTfInRange p = (1 ≤ p.tf) × (p.tf < 2 ^ 31)
