-- The three tables that keep frames, and frames in which one thing is changed.
use Rattle.std.specs.Prelude.{◌≡◌, ℕ, false, List, [], ◌∷◌, length, replicate, slice_index_or, slice_set}
use Rattle.frame_pool.specs.declared.store.Head.{Head}
use Rattle.frame_pool.specs.Pool.{slots_of}
use Rattle.frame_pool.specs.Frames.{Frame, blank}

-- the head of a frame of a new pool
abbrev pub free_head : ℕ → Head
free_head next = record { page = 0; next = next; placed = false }

-- the frame of this number
abbrev pub frame_at : List Frame → ℕ → Frame
frame_at frames number = slice_index_or frames number blank

-- a frame with one score changed, with other scores, with one heap place changed, and with another link
abbrev pub scored : Frame → ℕ → ℕ → Frame
scored frame slot score = record frame { scores = slice_set frame.scores slot score }

abbrev pub rescored : Frame → List ℕ → Frame
rescored frame slots = record frame { scores = slots_of slots }

abbrev pub placed : Frame → ℕ → ℕ → Frame
placed frame slot place = record frame { places = slice_set frame.places slot place }

abbrev pub linked : Frame → ℕ → Frame
linked frame next = record frame { next = next }

-- the frame that a head and two rows stand for
abbrev pub frame_of : Head → List ℕ → List ℕ → Frame
frame_of head scores places = record { scores = slots_of scores; places = places; page = head.page; next = head.next }

-- the frames that three tables stand for
abbrev pub frames_of : List Head → List (List ℕ) → List (List ℕ) → List Frame
frames_of (head ∷ heads) (scores ∷ score_rows) (places ∷ place_rows) = frame_of head scores places ∷ frames_of heads score_rows place_rows
frames_of heads score_rows place_rows = []

-- the heap places of a frame: those that were never set are 0
pub record IsRow (head : Head) (places : List ℕ) : Type 0 where
  pub place_slots : length places ≡ 256
  pub unset : head.placed ≡ false → places ≡ replicate 256 0

-- three tables with a row each for every frame
abbrev pub AreRows : List Head → List (List ℕ) → List (List ℕ) → Type 0
AreRows [] [] [] = Unit {0}
AreRows (head ∷ heads) (scores ∷ score_rows) (places ∷ place_rows) = IsRow head places × AreRows heads score_rows place_rows
AreRows heads score_rows place_rows = ⊥
