-- The laws that carry the definitions to the code, those of a log in pieces and of the folder, and that the promises hold.
pub mod Ends
pub mod Reached
pub mod InPieces
pub mod Bytes
pub mod Found
pub mod Crash
pub mod HallPromises
