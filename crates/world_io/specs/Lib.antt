-- The modules of definitions that this crate's contracts cite.
pub mod Meaning
pub mod Calls
pub mod Memory
pub mod Cuts
pub mod Turns
