-- The laws that carry the definition of the distance to the code.
pub mod LowFirst
pub mod Laws
pub mod Counted
