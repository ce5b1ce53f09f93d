-- The modules of definitions that this crate's contracts cite.
pub mod Attributes
pub mod BaseTypes
pub mod Children
pub mod Extents
pub mod Faults
pub mod Labels
pub mod Numbers
pub mod Ordered
pub mod Parts
pub mod Positions
pub mod References
pub mod Rows
pub mod Scopes
pub mod Targets
