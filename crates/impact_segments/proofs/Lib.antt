mod Below
pub mod Cutting
pub mod Data
pub mod OneIndex
pub mod OneTerm
pub mod Orders
pub mod Weights
pub mod OneList
pub mod ByImpact
pub mod ByTerm
pub mod Grouped
pub mod InPlace
pub mod ListTerms
pub mod ListRange
mod Unwidened
pub mod Runs
