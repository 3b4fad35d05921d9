-- The pieces that a walk gives.
use Rattle.std.specs.Prelude.{ℕ, ◌≡◌, ◌<◌, ◌+◌, false, List, [], ◌∷◌, ◌++◌, length, Option, Some, None, Result, Ok, Err}
use Rattle.jass_base.specs.CiffViews.{header_data, list_data, doc_data}
use Rattle.jass_base.specs.Lists.{HasDocsBelow}
use Rattle.jass_base.specs.Outside.{Files, ForContent}
use Rattle.ciff_read.specs.declared.piece.Piece.{Piece}
use Rattle.ciff_read.specs.declared.piece.Piece.TheVariants as pieces
use Rattle.ciff_read.specs.declared.refusal.CiffFault.{CiffFault}
use Rattle.ciff_read.specs.Marks.{is_marked}
use Rattle.ciff_read.specs.Pieces.{PieceData, StartPiece, ListPiece, DocPiece, EndPiece, Progress, Step, next_of, terms_kept}
use Rattle.ciff_read.specs.Reaching.{FailsReading}
use Rattle.ciff_read.specs.Seen.{is_seen}
use Rattle.ciff_read.specs.Walk.{WalkView, IsAtEnd, IsWalkOver, Keeps, OneMore, kept_of}

abbrev pub piece_data : Piece → PieceData
piece_data (pieces.Start header lists docs) = StartPiece (header_data header) lists docs
piece_data (pieces.List at list) = ListPiece at (list_data list)
piece_data (pieces.Doc number item) = DocPiece (record { number = number; doc = doc_data item })
piece_data pieces.End = EndPiece

-- what holds of a piece and of the walk that gives it, whether or not the content is told
abbrev pub PieceRanges : WalkView → WalkView → Piece → Type 0
PieceRanges old new (pieces.Start header lists docs) = (old.header ≡ Some (header_data header)) × (new.header ≡ None) × (lists ≡ old.lists) × (docs ≡ old.docs) × (new.kept ≡ old.kept) × (new.given ≡ old.given)
PieceRanges old new (pieces.List at list) = (new.header ≡ old.header) × (new.given ≡ old.given) × (at ≡ old.at) × (is_seen list.term (terms_kept old.kept) ≡ false) × (new.kept ≡ old.kept ++ kept_of at list ∷ []) × HasDocsBelow old.docs list
PieceRanges old new (pieces.Doc number item) = (new.header ≡ old.header) × (new.kept ≡ old.kept) × (number < old.docs) × (is_marked old.marks number ≡ false) × OneMore old.marks new.marks number × (new.given ≡ old.given + 1)
PieceRanges old new pieces.End = (new.kept ≡ old.kept) × (new.given ≡ old.given) × (length old.kept ≡ old.lists) × (old.given ≡ old.docs) × IsAtEnd new

-- the piece is the next one, and the walk keeps what is given with it
pub record Advances (content : List ℕ) (p : Progress) (piece : PieceData) (now : WalkView) : Type 0 where
  pub step : Step
  pub next : next_of content p ≡ Ok step
  pub piece_is : piece ≡ step.piece
  pub keeps : Keeps now step.later

abbrev pub GivesPiece : List ℕ → Progress → Result Piece CiffFault → WalkView → Type 0
GivesPiece content p (Ok piece) now = Advances content p (piece_data piece) now
GivesPiece content p (Err fault) now = FailsReading fault (next_of content p)

-- the piece that a call gives of a content that is told, where the walk has answered no error
abbrev pub GivesTold : Option Files → WalkView → WalkView → Result Piece CiffFault → Type 0
GivesTold files old now result =
    ForContent files old.name (λ content. old.answered ≡ None → IsWalkOver content old → (p : Progress) → Keeps old p → GivesPiece content p result now)

-- once the end was given it is given at each later call, and the walk and the files stay
abbrev pub SameEnd : {F : Type 0} → WalkView → WalkView → F → F → Result Piece CiffFault → Type 0
SameEnd old now files after result = IsAtEnd old → old.answered ≡ None → (result ≡ Ok pieces.End) × (now ≡ old) × (after ≡ files)
