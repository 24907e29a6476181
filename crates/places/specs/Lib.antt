-- What the contracts of this crate cite beside the definitions of `loans`.
pub mod Representation
pub mod Used
