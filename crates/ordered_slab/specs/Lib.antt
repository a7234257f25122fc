-- Numbers in order, with their values.
pub mod OrderView
pub mod Rows
pub mod SlabValues
pub mod OrderedSlabView
pub mod Lending
pub mod Parts
