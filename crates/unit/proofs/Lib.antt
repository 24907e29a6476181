-- The laws that carry the definitions of `iscc` to the code's tests, and what callers may count on.
pub mod Table
pub mod Read
pub mod Bounds
pub mod ExactlyOne
pub mod Short
pub mod Write
