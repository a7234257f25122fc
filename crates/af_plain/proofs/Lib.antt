pub mod TestWalks
pub mod RisingCounts
pub mod BinarySearch
pub mod SearchInvariant
pub mod ReachedFiles
