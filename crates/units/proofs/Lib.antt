-- The laws that carry the definitions of `iscc` to this crate's code.
pub mod Snoc
pub mod Added
pub mod Decided
pub mod Leading
pub mod Reached
