-- Lemmas.
pub mod LinesLemmas
pub mod RunLemmas
pub mod ShortReplies
pub mod PlainLemmas
pub mod StepLemmas
