pub mod Spans
pub mod Charges
pub mod Chains
pub mod CopiedParts
