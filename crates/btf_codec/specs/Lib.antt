-- The modules of definitions that this crate's contracts cite.
pub mod Again
pub mod Fields
pub mod Gives
pub mod Reading
pub mod Spelling
pub mod Spells
