pub mod SlabValues
pub mod Rows
pub mod Searches
pub mod Values
pub mod Parts
pub mod SendSync
