pub mod FileInfo
pub mod Found
pub mod MessageRoom
pub mod Outcome
pub mod Called
pub mod Rooms
pub mod Told
