-- The laws that carry the definitions of `loans` to the log's code.
pub mod Sizes
pub mod Applied
pub mod Steps
pub mod Appends
pub mod HeldLog
