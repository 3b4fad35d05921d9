-- Names, and terms with their heads, that are spelled one behind the other.
use Rattle.std.specs.Prelude.{ℕ, ◌≡◌, ◌≤◌, List, [], ◌∷◌, length}
use Rattle.index_layout.specs.Heads.{greatest_impact, head_postings, payloads_size}
use Rattle.index_layout.specs.Heads.{TermHeads as EntryData}
use Rattle.index_layout.specs.Layout.{names_bytes, terms_bytes}
use Rattle.index_write.specs.Streaming.{AreEntries, AreNames}
use Rattle.jass_base.specs.declared.limits.TheConstants.{MOST_POSTINGS, MOST_TERMS}

-- the bytes of names, and how many names
pub record NamesView : Type 0 where
  pub bytes : List ℕ
  pub count : ℕ

-- these are some names, in the bytes that an index file has of them
pub record AreSpelledNames (view : NamesView) (names : List (List ℕ)) : Type 0 where
  pub bytes : view.bytes ≡ names_bytes names
  pub count : view.count ≡ length names

-- these are some names that a file may have
pub record HasNames (view : NamesView) (names : List (List ℕ)) : Type 0 where
  pub spelled : AreSpelledNames view names
  pub are : AreNames names

-- the bytes, the last term, how many terms, their postings and their greatest impact
pub record SpelledView : Type 0 where
  pub bytes : List ℕ
  pub last : List ℕ
  pub terms : ℕ
  pub postings : ℕ
  pub greatest : ℕ

-- the last term, behind one before it
abbrev pub last_term : List ℕ → List EntryData → List ℕ
last_term before [] = before
last_term before (t ∷ entries) = last_term t.term entries

-- these are some terms with their heads, in the bytes that an index file has of them
pub record AreSpelled (view : SpelledView) (entries : List EntryData) : Type 0 where
  pub bytes : view.bytes ≡ terms_bytes [] entries
  pub last : view.last ≡ last_term [] entries
  pub terms : view.terms ≡ length entries
  pub postings : view.postings ≡ head_postings entries
  pub greatest : view.greatest ≡ greatest_impact entries

-- these are the parts of an index file with some terms and heads: these terms, and as many bytes of payloads as the heads say
pub record HasParts (view : SpelledView) (payloads : List ℕ) (entries : List EntryData) : Type 0 where
  pub spelled : AreSpelled view entries
  pub are : AreEntries entries
  pub sizes : length payloads ≡ payloads_size entries

-- no more terms and postings than an index has
pub record AreFew (entries : List EntryData) : Type 0 where
  pub terms : length entries ≤ MOST_TERMS
  pub postings : head_postings entries ≤ MOST_POSTINGS
