pub mod Bits
pub mod Slots
pub mod Free
pub mod Procs
pub mod Lending
pub mod Rooms
