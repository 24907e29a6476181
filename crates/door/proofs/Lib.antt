-- Laws of the doors, over plain lists.
pub mod Answers
pub mod Texts
pub mod Codes
pub mod Doors
