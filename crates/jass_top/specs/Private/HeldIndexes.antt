-- Indexes that were made in memory.
use Rattle.std.specs.Prelude.{ℕ, ◌≡◌, ◌≤◌, List, length}
use Rattle.index_model.specs.Index.{IndexData, IsIndex}
use Rattle.index_layout.specs.View.{index_postings, index_text}
use Rattle.jass_base.specs.declared.limits.TheConstants.{LONGEST_FILE, MOST_POSTINGS}
use Rattle.jass_top.specs.Judging.{Accepted}
use Rattle.jass_top.specs.Meanings.{Output, Meaning}
use Rattle.jass_top.specs.MakingMeaning.{making_meaning, on_made}
use Rattle.jass_top.specs.Answers.{OnceQuery}
use Rattle.jass_top.specs.OnceMeaning.{IsOnceOutput}
use Rattle.jass_top.specs.Standing.{OfOutput, TextPart}
use Rattle.jass_top.specs.Worlds.{Outer}

-- bytes are the text of an index that fits a file
pub record IsTextOf (bytes : List ℕ) (index : IndexData) : Type 0 where
  pub is : IsIndex index
  pub postings : index_postings index ≤ MOST_POSTINGS
  pub fits : length (index_text index) ≤ LONGEST_FILE
  pub spelled : bytes ≡ index_text index

-- what a command means of an index that was made of an input, which is accepted
abbrev pub on_index : List ℕ → IndexData → (IndexData → Output → Type 0) → (IndexData → Outer → Outer → Type 0) → Meaning
on_index input index IsOutput part = on_made input (λ told. Accepted index) (λ made. made) IsOutput part

-- the index becomes a file
abbrev pub saving_meaning : List ℕ → List ℕ → IndexData → Meaning
saving_meaning input file index = making_meaning input file (λ told. Accepted index) (λ made. made)

-- the index is asked
abbrev pub asking_meaning : List ℕ → IndexData → OnceQuery → Meaning
asking_meaning input index query = on_index input index (IsOnceOutput query) (OfOutput (IsOnceOutput query) TextPart)
