-- Lemmas.
pub mod Drives
pub mod Fits
pub mod JoinedLogs
pub mod Logs
pub mod FirstSeats
pub mod Origins
pub mod SeatPositions
pub mod Scripts
pub mod SendSync
pub mod ShortSteps
pub mod Steps
pub mod LogWalks
