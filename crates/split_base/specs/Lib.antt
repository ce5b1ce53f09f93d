-- The modules of definitions that this crate's contracts cite.
pub mod Graphs
pub mod Table
pub mod Refusals
pub mod Merged
pub mod Building
pub mod Laws
