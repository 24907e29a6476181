-- The C entries' answers as representations of the definitions' values.
pub mod Representation
