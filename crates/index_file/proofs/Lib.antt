mod Assembled
mod Below
mod CodecUses
pub mod ContentReads
mod Contents
mod FileParts
mod FrontMoves
mod Fronts
mod Gathering
pub mod Halves
mod HeadLists
mod HeadWords
mod HeadsFrom
mod Joined
mod Leading
mod Loads
mod MarkLists
mod NextTerms
mod OnePayload
mod OneVarint
pub mod Pieces
mod PlainTexts
mod Reading
mod RowLists
mod RowOrder
mod SampledTerms
mod Sampling
mod SegmentLists
mod Sequences
mod Shifted
mod Standing
pub mod Stopping
mod TermRows
mod TermSteps
mod Wholes
pub mod Handed
