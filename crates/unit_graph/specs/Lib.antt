-- The modules of definitions that this crate's contracts cite.
pub mod Sources
pub mod Files
pub mod Apart
pub mod Laws
pub mod Links
pub mod Numbers
pub mod Pieces
pub mod Tables
pub mod Tags
pub mod Unread
