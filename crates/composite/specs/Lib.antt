-- The definitions that the contracts of this crate cite.
pub mod Bodies
pub mod Code
pub mod Wide
pub mod Joined
pub mod Canonical
