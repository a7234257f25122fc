-- Kept numbers stay the recounts, whatever changes.
pub mod Recounts
pub mod Bounds
pub mod Exact
pub mod CountChanges
pub mod ProcessTables
pub mod LossOutcomes
pub mod FreedFiles
pub mod SocketStates
-- The invariant of a running pass, and what each change owes to it.
pub mod Tallies
pub mod ShadedMarks
pub mod MarkTests
pub mod PassUnits
pub mod PassFrees
pub mod PassStages
pub mod PassChanges
pub mod Looks
pub mod SparedFiles
pub mod EmptiedSockets
pub mod DrainedSockets
pub mod TablePlaces
pub mod SocketChanges
-- The duties of each change to the pass: lost files are shaded first, and its invariant holds.
pub mod FileContents
pub mod LostFiles
pub mod NewFiles
pub mod StoreInvariant
pub mod Receives
pub mod LentProcesses
pub mod Descriptors
pub mod VisiblePass
pub mod SendSync
