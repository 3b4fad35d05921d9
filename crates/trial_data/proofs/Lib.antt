pub mod Drawing
pub mod Lengths
pub mod Listing
pub mod Naming
