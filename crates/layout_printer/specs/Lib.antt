-- The modules of definitions that this crate's contracts cite.
pub mod Sizes
pub mod Layout
pub mod Measuring
pub mod Finding
pub mod Pieces
pub mod Declarations
pub mod Text
pub mod Lines
pub mod Totals
