-- The words of the contracts of the three programs.
pub mod Calls
pub mod Delivery
pub mod Places
pub mod Reclaim
