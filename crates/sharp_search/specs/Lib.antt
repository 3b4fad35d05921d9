pub mod Deciding
pub mod Fronts
pub mod View
pub mod Standing
