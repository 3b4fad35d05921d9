mod Begun
mod Below
mod Counting
pub mod Bounds
mod Texts
mod Memory
mod Sending
mod Files
mod Joining
mod Entries
mod Changes
mod Streamed
mod Spelling
