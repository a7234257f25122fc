-- The history of a watched reader or writer.
pub mod WatchedView
pub mod Watched
-- The effect of a script, and the text that is written of it.
pub mod Text
pub mod Report
pub mod Script
pub mod Gather
pub mod Line
pub mod Progress
