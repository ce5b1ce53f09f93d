pub mod Among
pub mod Index
pub mod Keeping
pub mod Least
pub mod Listed
pub mod Noting
pub mod Offsets
pub mod Texts
