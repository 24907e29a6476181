-- The laws that the proofs of this crate's functions cite.
pub mod Answers
pub mod Walk
pub mod Cleared
pub mod Trial
