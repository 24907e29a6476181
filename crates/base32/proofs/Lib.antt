-- Laws of the reader: tests by character, and eight characters at once.
pub mod Characters
pub mod Lanes
pub mod Filled
