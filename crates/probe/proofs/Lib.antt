-- The readers' answers as the struct of six numbers.
pub mod Laws
