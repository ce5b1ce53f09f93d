-- The modules of definitions that this crate's contracts cite.
pub mod Declarations
pub mod Law
pub mod Refusals
pub mod Rows
pub mod Standard
pub mod Table
pub mod ValueMaps
pub mod Sizes
