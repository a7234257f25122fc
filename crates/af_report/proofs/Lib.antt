-- Lemmas.
pub mod BareRecounts
mod Pieces
mod QuotedNames
pub mod TableLines
pub mod UserLines
pub mod WalkStart
pub mod Widths
