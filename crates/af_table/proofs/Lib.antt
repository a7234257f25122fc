pub mod Words
pub mod Blanks
pub mod Tables
pub mod FreeNumbers
pub mod Parts
pub mod Places
pub mod Pids
pub mod Numbers
