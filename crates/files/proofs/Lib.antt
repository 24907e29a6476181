-- A replay of a piece tells no offset behind it.
pub mod Offsets
