-- The modules of definitions that this crate's contracts cite.
pub mod Forms
pub mod Law
pub mod Meanings
pub mod Refusals
pub mod Sizes
pub mod Standard
pub mod Values
