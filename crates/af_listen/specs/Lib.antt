-- Names, and who waits to be accepted.
pub mod NamesView
pub mod NameSets
pub mod BacklogView
