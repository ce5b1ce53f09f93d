pub mod Numbers
pub mod Positions
pub mod Spelling
pub mod Steps
pub mod WordReads
pub mod Finishing
