-- A log replayed in pieces, the verdict over it, and the folder on a disk.
pub mod Pieces
pub mod Concluded
pub mod Disk
pub mod Recovery
pub mod Representation
