-- When kept numbers are the recounts.
pub mod Agreement
pub mod HoldingsView
pub mod Limits
pub mod Losing
pub mod Receiving
-- The invariant of a running pass.
pub mod Since
pub mod Keeping
pub mod Looks
pub mod Purged
-- The view of a store, the invariant of its parts, and the effect of a whole pass.
pub mod Collecting
pub mod StoreView
