-- The modules of definitions that this crate's contracts cite.
pub mod Values
pub mod Options
pub mod Words
pub mod Reading
