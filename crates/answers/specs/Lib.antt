-- The lines that the programs answer, and the sentences in them.
pub mod LineArea
pub mod Sentences
pub mod Answers
pub mod AnswerPromises
