-- How far the lines of an input are served.
use Rattle.std.specs.Prelude.{ℕ, ◌≡◌, ◌≤◌, ◌+◌, true, false, List, [], ◌++◌, length, Option, Result, Ok, Err, if◌then◌else◌}
use Rattle.std.specs.List.{concat}
use Rattle.std.specs.Str.Lines.{strip_carriage_return}
use Rattle.jass_base.specs.Outside.{Rest}
use Rattle.index_model.specs.Index.{IndexData}
use Rattle.text_lines.specs.Lines.{lines_of}
use Rattle.feed_lines.specs.Lines.{Holds, Passed, ended_lines}
use Rattle.feed_lines.specs.Waiting.{Waiting}
use Rattle.session_desk.specs.declared.went.Went.{Went}
use Rattle.session_desk.specs.declared.went.Went.TheVariants as wents
use Rattle.session_desk.specs.State.{DeskState}
use Rattle.session_desk.specs.Turns.{desk_postings, desk_replies, replies_from, steps_from}
use Rattle.jass_base.specs.declared.faults.WriteFault.{WriteFault}
use Rattle.jass_top.specs.declared.serve_stop.ServeStop.{ServeStop}
use Rattle.jass_top.specs.declared.serve_stop.ServeStop.TheVariants as stops
use Rattle.jass_top.specs.ServeMeaning.{has_end}
use Rattle.jass_top.specs.Private.Sides.{Side}
use Rattle.jass_words.specs.declared.word_limits.TheConstants.{MOST_TAKEN}

-- the line that is handed to a desk: none of its bytes where it is too long
abbrev pub given_line : Waiting → List ℕ → List ℕ
given_line w line = if w.long then [] else strip_carriage_return line

-- the replies to lines at a desk, as one text
unfoldable pub text_from : IndexData → DeskState → List (List ℕ) → List ℕ
text_from index state lines = concat (replies_from index state lines)

-- of the bytes that were taken some lines were answered, none of which is `end`; this was said, and so many postings were
-- scored; the others wait
pub record Standing (index : IndexData) (frames : ℕ) (taken said : List ℕ) (scored : ℕ) (w : Waiting) (state : DeskState) : Type 0 where
  pub passed : List (List ℕ)
  pub pending : List ℕ
  pub here : Passed taken passed pending
  pub holds : Holds w pending
  pub counted : length taken + w.left ≡ MOST_TAKEN
  pub endless : has_end passed ≡ false
  pub replies : (rest : List (List ℕ)) → desk_replies index frames (passed ++ rest) ≡ said ++ text_from index state rest
  pub steps : (rest : List (List ℕ)) → desk_postings index frames (passed ++ rest) ≡ scored + steps_from index state rest

-- a line `end` was answered
pub record Finished (index : IndexData) (frames : ℕ) (taken said : List ℕ) (scored : ℕ) : Type 0 where
  pub size : length taken ≤ MOST_TAKEN
  pub ended : (more : List ℕ) → has_end (ended_lines (taken ++ more)) ≡ true
  pub replies : (more : List ℕ) → desk_replies index frames (lines_of (taken ++ more)) ≡ said
  pub steps : (more : List ℕ) → desk_postings index frames (lines_of (taken ++ more)) ≡ scored

-- what was said and scored is the front of it, whatever follows
pub record IsFrontAt (index : IndexData) (frames : ℕ) (taken said : List ℕ) (scored : ℕ) (more : List ℕ) : Type 0 where
  pub others : List ℕ
  pub replies : desk_replies index frames (lines_of (taken ++ more)) ≡ said ++ others
  pub steps : scored ≤ desk_postings index frames (lines_of (taken ++ more))

abbrev pub IsFront : IndexData → ℕ → List ℕ → List ℕ → ℕ → Type 0
IsFront index frames taken said scored = (more : List ℕ) → IsFrontAt index frames taken said scored more

-- a text and some steps lead from where lines wait to P
abbrev pub Leads : IndexData → Waiting → DeskState → List ℕ → ℕ → (ℕ → List ℕ → List ℕ → ℕ → Type 0) → Type 0
Leads index w state text n P =
    (frames : ℕ) (taken said : List ℕ) (scored : ℕ) → Standing index frames taken said scored w state
    → P frames taken (said ++ text) (scored + n)

abbrev pub Moves : IndexData → Waiting → Waiting → DeskState → DeskState → List ℕ → ℕ → Type 0
Moves index w new state after text n =
    Leads index w state text n (λ frames taken said scored. Standing index frames taken said scored new after)

-- how lines that wait go
abbrev pub Goes : {E : Type 0} → IndexData → Waiting → Waiting → DeskState → DeskState → List ℕ → ℕ → Result Went E → Type 0
Goes index w new state after text n (Ok wents.On) = Moves index w new state after text n
Goes index w new state after text n (Ok wents.NoMemory) = Moves index w new state after text n
Goes index w new state after text n (Ok wents.End) = Leads index w state text n (Finished index)
Goes index w new state after text n (Err fault) = Leads index w state text n (IsFront index)

-- a text was gathered, and some steps were counted, for lines that wait
pub record AnswersLines {S : Type 0} (written : S → Option (List ℕ)) (faults : S → ℕ) (rest : S → Rest) (old out : S)
    (before after : List ℕ) (steps later : ℕ) (index : IndexData) (w new : Waiting) (state left : DeskState)
    (result : Result Went WriteFault) : Type 0 where
  pub text : List ℕ
  pub scored : ℕ
  pub side : Side written faults rest (record {}) old out before after text result
  pub counted : later ≡ steps + scored
  pub goes : Goes index w new state left text scored result

-- ---- the end of the input

-- what was said and scored is all of it, where nothing follows
pub record IsWhole (index : IndexData) (frames : ℕ) (taken said : List ℕ) (scored : ℕ) : Type 0 where
  pub replies : desk_replies index frames (lines_of taken) ≡ said
  pub steps : desk_postings index frames (lines_of taken) ≡ scored

-- how the line behind the last LF goes
abbrev pub GoesLast : {T : Type 0} → IndexData → Waiting → DeskState → List ℕ → ℕ → Result T ServeStop → Type 0
GoesLast index w state text n (Ok x) = Leads index w state text n (IsWhole index)
GoesLast index w state text n (Err stops.NoMemory) = (text ≡ []) × (n ≡ 0)
GoesLast index w state text n (Err stops.WriteFault) =
    Leads index w state text n (λ frames taken said scored. IsFrontAt index frames taken said scored [])
GoesLast index w state text n (Err stops.ReadFault) = ⊥
GoesLast index w state text n (Err stops.Limit) = ⊥

-- a text was written, and some steps were counted, for that line
pub record AnswersLast {S T : Type 0} (written : S → Option (List ℕ)) (faults : S → ℕ) (rest : S → Rest) (old out : S)
    (steps later : ℕ) (index : IndexData) (w : Waiting) (state : DeskState) (result : Result T ServeStop) : Type 0 where
  pub text : List ℕ
  pub scored : ℕ
  pub side : Side written faults rest stops.WriteFault old out [] [] text result
  pub same : result ≡ Err stops.NoMemory → out ≡ old
  pub counted : later ≡ steps + scored
  pub goes : GoesLast index w state text scored result
