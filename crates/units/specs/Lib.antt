-- The definitions that the contracts of this crate cite.
pub mod Summary
pub mod Verdict
pub mod Reading
