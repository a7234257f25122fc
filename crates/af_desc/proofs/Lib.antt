pub mod FirstNumber
pub mod FileNames
pub mod FileTableView
pub mod ToldLists
pub mod FileTableInvariant
pub mod ClearedMarks
pub mod FilesInvariant
pub mod SendSync
