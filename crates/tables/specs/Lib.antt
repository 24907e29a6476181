-- A row of the table of sets as the value of the definitions that it stands for.
pub mod Representation
