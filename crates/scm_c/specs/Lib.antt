pub mod Held
pub mod Lends
pub mod Codes
pub mod Calls
pub mod Written
pub mod Tables
pub mod Texts
pub mod Told
