-- The laws that the proofs of this crate's functions cite.
pub mod Borrowers
pub mod WordOffsets
pub mod Reading
pub mod Examples
