-- The modules of definitions that this crate's contracts cite.
pub mod Asked
pub mod Answers
