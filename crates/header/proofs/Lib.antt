-- The laws that carry the definitions of `iscc` to the bytes and nibbles, where the code reads and writes.
pub mod Nibbles
pub mod Read
pub mod Bounds
pub mod Digits
pub mod Write
pub mod Short
