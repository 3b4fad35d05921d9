-- What `serve` means: the lines of the input are answered at a desk over the index of a file, up to and with the first
-- line `end`; 2^30 bytes of the input are taken at the most.
use Rattle.std.specs.Prelude.{ℕ, ◌≡◌, ◌<◌, ◌≤◌, ◌+◌, Bool, true, false, ◌||◌, List, [], ◌∷◌, ◌++◌, length, take, None, ◌⊎◌}
use Rattle.std.specs.Io.KnownBytes.{Appends, Consumes}
use Rattle.index_model.specs.Index.{IndexData}
use Rattle.text_lines.specs.Lines.{lines_of}
use Rattle.feed_lines.specs.Lines.{ended_lines}
use Rattle.feed_lines.specs.declared.room.TheConstants.{ROOM}
use Rattle.session_desk.specs.Lines.{is_end}
use Rattle.session_desk.specs.Turns.{desk_postings, desk_replies}
use Rattle.jass_top.specs.IndexJudging.{judge_held}
use Rattle.jass_top.specs.Meanings.{Meaning, Output, Never}
use Rattle.jass_top.specs.Standing.{CountsPart, IsInput}
use Rattle.jass_top.specs.Worlds.{Outer}
use Rattle.jass_words.specs.declared.word_limits.TheConstants.{MOST_TAKEN}

-- one of the lines is `end`
abbrev pub has_end : List (List ℕ) → Bool
has_end [] = false
has_end (line ∷ lines) = is_end line || has_end lines

-- the lines that end by LF within the bytes that are taken at the most
abbrev pub lines_taken : List ℕ → List (List ℕ)
lines_taken input = ended_lines (take MOST_TAKEN input)

-- the input is answered to its end, or to a line `end`
abbrev pub IsAnswered : List ℕ → Type 0
IsAnswered input = (length input < MOST_TAKEN) ⊎ (has_end (lines_taken input) ≡ true)

-- all lines of an input that is answered: their replies, and the postings that are scored for them
pub record IsServeOutput (frames : ℕ) (index : IndexData) (input : List ℕ) (output : Output) : Type 0 where
  pub answered : IsAnswered input
  pub content : output.content ≡ []
  pub text : output.text ≡ desk_replies index frames (lines_of input)
  pub steps : output.steps ≡ desk_postings index frames (lines_of input)

-- ---- where serving stopped

-- what a desk has written and counted for lines, and no file is changed
pub record Replies (index : IndexData) (frames : ℕ) (lines : List (List ℕ)) (before after : Outer) : Type 0 where
  pub told : after.told ≡ before.told
  pub text : Appends before.written after.written (desk_replies index frames lines)
  pub scored : after.steps ≡ before.steps + desk_postings index frames lines

-- the first of the lines were answered
pub record ServesFirst (frames : ℕ) (index : IndexData) (before after : Outer) : Type 0 where
  pub input : List ℕ
  pub had : IsInput before.left input
  pub first : List (List ℕ)
  pub others : List (List ℕ)
  pub lines : lines_of input ≡ first ++ others
  pub replies : Replies index frames first before after

-- the lines were answered that end by LF in the bytes that were taken
pub record ServesTaken (frames : ℕ) (index : IndexData) (before after : Outer) : Type 0 where
  pub taken : List ℕ
  pub consumed : Consumes before.left after.left taken
  pub replies : Replies index frames (ended_lines taken) before after

-- of the bytes that were taken one read at most gave the last. Written were all replies to the lines that end by LF in those
-- before, and of the replies to the lines of all of them a prefix
pub record ServesPart (frames : ℕ) (index : IndexData) (before after : Outer) : Type 0 where
  pub earlier : List ℕ
  pub last : List ℕ
  pub one_read : length last ≤ ROOM
  pub consumed : Consumes before.left after.left (earlier ++ last)
  pub told : after.told ≡ before.told
  pub sent : List ℕ
  pub text : Appends before.written after.written sent
  pub whole : (more : List ℕ) × (sent ≡ desk_replies index frames (ended_lines earlier) ++ more)
  pub part : (n : ℕ) × (sent ≡ take n (desk_replies index frames (lines_of (earlier ++ last))))
  pub steps : CountsPart before after (desk_postings index frames (lines_of (earlier ++ last)))

-- the input has 2^30 bytes or more, and no line of the first of them is `end`: these were taken, and the lines were answered
-- that end within them
pub record ServesFront (frames : ℕ) (index : IndexData) (before after : Outer) : Type 0 where
  pub input : List ℕ
  pub had : IsInput before.left input
  pub consumed : Consumes before.left after.left (take MOST_TAKEN input)
  pub long : MOST_TAKEN ≤ length input
  pub endless : has_end (lines_taken input) ≡ false
  pub replies : Replies index frames (lines_taken input) before after

abbrev pub serve_meaning : List ℕ → ℕ → Meaning
serve_meaning index frames = record {
  reads = index ∷ [];
  files = index ∷ [];
  Inputs = IndexData;
  judge = judge_held index;
  file = None;
  prints = true;
  feeds = true;
  IsOutput = IsServeOutput frames;
  AtMemory = ServesFirst frames;
  AtReadFault = Never;
  AtFeedFault = ServesTaken frames;
  AtWriteFault = ServesPart frames;
  AtLimit = ServesFront frames;
}
