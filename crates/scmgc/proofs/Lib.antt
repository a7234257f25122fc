-- Lemmas.
pub mod TaskWords
pub mod CommandWords
pub mod Numbers
pub mod FirstLines
pub mod PlayedLines
