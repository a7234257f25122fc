-- The marks of files.
pub mod Grey
pub mod MarksView
