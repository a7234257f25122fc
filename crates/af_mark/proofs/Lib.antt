-- Lemmas.
pub mod Colors
pub mod GreyList
pub mod Whites
