-- The laws that this crate's proofs cite.
pub mod Same
pub mod Total
pub mod Order
pub mod Answers
pub mod Words
pub mod Numbers
