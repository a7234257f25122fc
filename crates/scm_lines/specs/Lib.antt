-- The script language, as this project's profile has it.
pub mod Words
pub mod Numbers
pub mod Payload
pub mod Attached
pub mod Keywords
pub mod Spelling
pub mod Forms
pub mod Meaning
pub mod Says
pub mod Versions
pub mod Fault
pub mod Fitting
