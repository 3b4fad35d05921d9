pub mod Pool
pub mod ChainView
pub mod Sound
pub mod Links
pub mod Frames
pub mod Lending
pub mod Private
