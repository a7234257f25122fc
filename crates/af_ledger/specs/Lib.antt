-- The content of a ledger, and how one place more or less changes it.
pub mod Counted
pub mod Tally
pub mod Sending
