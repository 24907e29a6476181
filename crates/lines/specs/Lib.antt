-- What the line program keeps between pieces of its input, and what feeding a piece does.
pub mod Feeding
pub mod Pieces
pub mod Stops
