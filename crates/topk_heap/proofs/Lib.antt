mod Below
pub mod Ahead
pub mod Lists
pub mod Ranking
pub mod Selection
pub mod TwoOrders
pub mod ByNumber
pub mod InPlace
pub mod Digits
pub mod Rows
pub mod Settled
pub mod Raised
pub mod Known
pub mod Noted
