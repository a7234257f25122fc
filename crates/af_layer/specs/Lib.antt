-- Logs, calls, audits and drives of a layer.
pub mod Audit
pub mod Calls
pub mod Drive
pub mod Log
pub mod Room
pub mod Seats
pub mod Short
pub mod Taken
pub mod Walk
pub mod Workers
