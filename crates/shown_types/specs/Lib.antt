-- The modules of definitions that this crate's contracts cite.
pub mod Listed
pub mod Shown
pub mod ByName
pub mod Laws
