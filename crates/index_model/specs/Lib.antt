pub mod Examples
pub mod Flat
pub mod Grouping
pub mod Index
pub mod Merging
pub mod Querying
pub mod Unions
pub mod Views
