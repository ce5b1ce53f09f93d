-- The modules of definitions that this crate's contracts cite.
pub mod Collect
pub mod Ends
pub mod Leb128
pub mod Names
pub mod Numbers
pub mod Sections
pub mod Sums
pub mod Texts
