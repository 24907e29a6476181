-- Laws of the cleaning, over plain lists.
pub mod Blanks
pub mod Offsets
pub mod Runs
pub mod Payloads
