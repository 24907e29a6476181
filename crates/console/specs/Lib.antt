-- The C entries' answers as representations of the definitions' values, and what they promise.
pub mod Representation
pub mod Numbers
pub mod Demand3
pub mod Loans
pub mod Promotion
pub mod Version
