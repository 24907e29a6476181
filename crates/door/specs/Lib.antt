-- What the doors' inner functions answer.
pub mod Codes
pub mod Representation
