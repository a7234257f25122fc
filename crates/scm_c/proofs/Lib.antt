pub mod Values
pub mod LargeSends
