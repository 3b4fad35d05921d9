pub mod Codecs
pub mod Giving
