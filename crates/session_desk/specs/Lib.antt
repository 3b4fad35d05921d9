pub mod State
pub mod Lines
pub mod Replies
pub mod Turns
pub mod Alone
pub mod Standing
pub mod Endings
pub mod Private
