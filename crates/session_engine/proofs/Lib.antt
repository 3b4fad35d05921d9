mod Below
pub mod Segments
pub mod Totals
pub mod Standing
pub mod Gathering
pub mod EntryLists
pub mod PartlyScored
pub mod BitRows
pub mod Pieces
pub mod Reports
pub mod First
pub mod Scored
pub mod Marking
