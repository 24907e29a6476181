-- The laws that the proofs of this crate's functions cite.
pub mod Parts
pub mod Digits
pub mod Lengths
pub mod Others
pub mod Told
pub mod AnswerPromises
