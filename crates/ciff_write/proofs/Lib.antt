mod Below
pub mod Collections
pub mod FieldLaws
pub mod Fields
pub mod FileLaws
pub mod ListLaws
pub mod MessageLaws
pub mod Postings
pub mod PrefixLaws
pub mod VarintLaws
pub mod Varints
