-- The checker's answers in the code.
pub mod Representation
