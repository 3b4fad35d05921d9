pub mod FieldLaws
pub mod Fields
pub mod Groups
pub mod VarintLaws
pub mod Varints
