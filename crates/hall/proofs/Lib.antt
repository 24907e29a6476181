-- The laws that the proofs of this crate's functions cite.
pub mod LineLengths
pub mod SheetLines
pub mod StandbyLines
pub mod Entries
pub mod Tellings
pub mod CommandLines
pub mod ServingPromises
