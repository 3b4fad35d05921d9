pub mod Bytes
pub mod Refusals
pub mod Heads
pub mod Layout
pub mod View
pub mod Totals
pub mod Reading
pub mod Examples
