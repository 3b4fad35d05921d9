pub mod Totals
pub mod Places
pub mod Reaching
pub mod Counting
pub mod Deciding
pub mod Keeping
pub mod Choosing
pub mod Covering
