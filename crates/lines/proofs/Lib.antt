-- The laws of the line program on pieces of its input.
pub mod Answers
pub mod Refusals
pub mod Held
pub mod Fed
pub mod Lines
pub mod Pieces
pub mod Stops
