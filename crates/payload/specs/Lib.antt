-- What the inner functions of this crate answer.
pub mod Offsets
pub mod Runs
pub mod Payloads
