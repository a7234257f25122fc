-- Files under numbers, and the representation that is seen so.
pub mod FilesView
pub mod FileTableView
pub mod Holding
pub mod Form
pub mod Told
