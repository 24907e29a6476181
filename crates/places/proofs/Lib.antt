-- The laws that carry the definitions of `loans` to loops and branches.
pub mod PlaceTests
pub mod CodeTypes
pub mod OrderTests
pub mod PlaceMade
pub mod Searching
pub mod Moved
pub mod Counting
pub mod TwoBytes
pub mod CountedPlaces
