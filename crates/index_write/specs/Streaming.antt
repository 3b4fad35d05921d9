-- An index file that is written term by term: what its writer is given and keeps, and what it appends.
use Rattle.std.specs.Prelude.{ℕ, ◌≡◌, ◌==◌, ◌<◌, ◌≤◌, ◌-◌, ⊤, List, [], ◌∷◌, length, map, All, AllPairs, Option, Some, None, if◌then◌else◌, slice_index_or}
use Rattle.jass_base.specs.Limits.{IsName, IsText}
use Rattle.jass_base.specs.Terms.{BytesRise}
use Rattle.jass_base.specs.declared.answer.Totals.{Totals}
use Rattle.segment_codecs.specs.Codecs.{codec_number}
use Rattle.index_layout.specs.Heads.{HeadData, head_postings, greatest_impact}
use Rattle.index_layout.specs.Heads.{TermHeads as EntryData}
use Rattle.index_write.specs.Chosen.{head_data}
use Rattle.index_write.specs.declared.change.Change.{Change}
use Rattle.index_write.specs.declared.fault.SaveFault.{SaveFault}
use Rattle.index_write.specs.declared.fault.SaveFault.TheVariants as saving
use Rattle.index_write.specs.declared.fault.TermFault.{TermFault}
use Rattle.index_write.specs.declared.fault.TermFault.TheVariants.{Changed, WriteFault, NoMemory}
use Rattle.index_write.specs.declared.term_heads.TermHeads.{TermHeads}
use Rattle.jass_base.specs.declared.limits.TheConstants.{LONGEST_FILE, LONGEST_TERM, MOST_DOCUMENTS, MOST_POSTINGS, MOST_TERMS}

-- a term and its heads as plain data
abbrev pub entry_data : TermHeads → EntryData
entry_data t = record { term = t.term; heads = map head_data t.heads }

-- names of documents: at most 2^26, each within its limits
pub record AreNames (names : List (List ℕ)) : Type 0 where
  pub few : length names ≤ MOST_DOCUMENTS
  pub each : All IsName names
  pub text : All IsText names

-- a head has an impact, counts a document, and its payload has a byte
pub record IsHead (head : HeadData) : Type 0 where
  pub impact : 1 ≤ head.impact
  pub count : 1 ≤ head.count
  pub size : 1 ≤ head.size

-- the impact is above that of a later head
abbrev pub FallsTo : HeadData → HeadData → Type 0
FallsTo head later = later.impact < head.impact

-- a term with its heads: a text of at most 65,535 bytes with at least one head, whose impacts fall
pub record IsEntry (entry : EntryData) : Type 0 where
  pub text : IsText entry.term
  pub fits : length entry.term ≤ LONGEST_TERM
  pub some : 1 ≤ length entry.heads
  pub heads : All IsHead entry.heads
  pub falling : AllPairs FallsTo entry.heads

-- the bytes of the term are below those of a later one
abbrev pub RisesTo : EntryData → EntryData → Type 0
RisesTo entry later = BytesRise entry.term later.term

-- at most 2^24 terms with their heads, by rising bytes, of at most 2^29 postings
pub record AreEntries (entries : List EntryData) : Type 0 where
  pub few : length entries ≤ MOST_TERMS
  pub rising : AllPairs RisesTo entries
  pub each : All IsEntry entries
  pub postings : head_postings entries ≤ MOST_POSTINGS

-- what a writer keeps: the file's name, the number of documents, the terms with their heads, and how many of these are left
pub record WriterView : Type 0 where
  pub name : List ℕ
  pub docs : ℕ
  pub entries : List EntryData
  pub left : ℕ

abbrev pub writer_view : List ℕ → ℕ → List TermHeads → ℕ → WriterView
writer_view name docs entries left = record { name = name; docs = docs; entries = map entry_data entries; left = left }

abbrev pub no_entry : EntryData
no_entry = record { term = []; heads = [] }

-- the heads of the first of so many terms at the end
unfoldable pub heads_left : List EntryData → ℕ → List HeadData
heads_left entries left = (slice_index_or entries (length entries - left) no_entry).heads

-- the heads of the next term
abbrev pub next_heads : WriterView → List HeadData
next_heads writer = heads_left writer.entries writer.left

-- the writer behind that term
abbrev pub behind_term : WriterView → WriterView
behind_term writer = record { name = writer.name; docs = writer.docs; entries = writer.entries; left = writer.left - 1 }

-- the totals of names and heads
abbrev pub entries_totals : ℕ → List EntryData → Totals
entries_totals docs entries = record {
  docs = docs;
  terms = length entries;
  postings = head_postings entries;
  greatest = greatest_impact entries;
}

-- two numbers, where they differ, and else what comes later
abbrev pub unless_same : ℕ → ℕ → Option Change → Option Change
unless_same kept found later = if kept == found then later else Some (record { kept = kept; found = found })

-- the first number in which a head differs from a kept one: impact, count, codec, size of the payload
abbrev pub head_change : HeadData → HeadData → Option Change → Option Change
head_change kept found later =
    unless_same kept.impact found.impact
    (unless_same kept.count found.count
    (unless_same (codec_number kept.codec) (codec_number found.codec)
    (unless_same kept.size found.size later)))

-- the first difference of as many heads
abbrev pub heads_change : List HeadData → List HeadData → Option Change
heads_change [] found = None
heads_change (head ∷ kept) [] = None
heads_change (head ∷ kept) (other ∷ found) = head_change head other (heads_change kept found)

-- the first difference of heads from kept ones: how many they are, and then each in turn
unfoldable pub change_of : List HeadData → List HeadData → Option Change
change_of kept found = unless_same (length kept) (length found) (heads_change kept found)

-- a fault of a file of so many bytes before its payloads are written: it has more than 2^32, or writing failed, or memory was refused
abbrev pub Unbegun : ℕ → SaveFault → Type 0
Unbegun size (saving.TooLarge n) = (size ≡ n) × (LONGEST_FILE < n)
Unbegun size saving.WriteFault = size ≤ LONGEST_FILE
Unbegun size saving.NoMemory = size ≤ LONGEST_FILE

-- a fault of a term's payloads: the first difference of its heads, where there is one, or writing failed, or memory was refused
abbrev pub Unappended : Option Change → TermFault → Type 0
Unappended change (Changed kept found) = change ≡ Some (record { kept = kept; found = found })
Unappended change WriteFault = change ≡ None
Unappended change NoMemory = ⊤

-- nothing was touched, unless it was writing that failed
abbrev pub Unappending : {C : Type 0} → C → C → TermFault → Type 0
Unappending old new (Changed kept found) = new ≡ old
Unappending old new WriteFault = ⊤
Unappending old new NoMemory = new ≡ old
