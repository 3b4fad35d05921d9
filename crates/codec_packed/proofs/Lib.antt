pub mod Docs
pub mod Blocks
pub mod Payloads
pub mod Turns
pub mod Checks
pub mod Places
pub mod BlockTurns
pub mod Cursors
