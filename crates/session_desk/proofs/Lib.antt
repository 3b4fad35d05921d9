mod Below
pub mod Wording
pub mod Placing
pub mod Seating
pub mod Showing
pub mod Granting
pub mod Joining
pub mod Replying
pub mod Isolation
pub mod Opened
pub mod Refusing
pub mod Grants
pub mod Counting
