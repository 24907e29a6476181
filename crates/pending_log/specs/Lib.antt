-- The log's answers in the code, and what its inner functions compute.
pub mod WholeSize
pub mod AppendedRecord
pub mod AppliedArea
pub mod Representation
pub mod Held
