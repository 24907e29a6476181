-- What the contracts of this crate cite.
pub mod Order
pub mod Representation
