-- Command lines, and how the code has them.
pub mod Commands
pub mod Representation
pub mod Reading
pub mod Examples
