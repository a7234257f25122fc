pub mod Check
pub mod Graph
pub mod Quoted
pub mod Table
pub mod Texts
pub mod Totals
