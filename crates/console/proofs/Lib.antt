-- The entries' answers as C has them, and what they promise.
pub mod Laws
pub mod Numbers
pub mod Demand3
pub mod Loans
pub mod Promotion
pub mod Counted
