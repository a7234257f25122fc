-- That each value stays where its file is.
pub mod PlainFiles
pub mod KeptValues
-- Lemmas on the machine's words: of look-ups, changes and settling, of tests that do not fit, of
-- listings, and of what threads may share.
pub use Rattle.af_base.proofs.Lookups
pub use Rattle.af_base.proofs.PlaceMoves
pub use Rattle.af_base.proofs.SettledWorlds
pub use Rattle.af_base.proofs.SoundSteps
pub use Rattle.af_base.proofs.Free
pub use Rattle.af_base.proofs.PlaceLists
pub use Rattle.af_base.proofs.Bare
pub use Rattle.af_layer.proofs.SendSync
