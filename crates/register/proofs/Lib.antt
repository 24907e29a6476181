-- The laws that carry the definitions of `loans` to loops and branches.
pub mod Areas
pub mod Changes
pub mod Texts
pub mod Told
