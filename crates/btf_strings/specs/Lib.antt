-- The modules of definitions that this crate's contracts cite.
pub mod Kept
pub mod Names
