-- The code's types of this crate as representations of the definitions' values.
pub mod Representation
