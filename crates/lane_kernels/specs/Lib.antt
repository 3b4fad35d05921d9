pub mod Adding
pub mod Bitmap
pub mod Block
pub mod Gaps
pub mod Width
pub mod Private
